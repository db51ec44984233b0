use Rattle.std.proofs.Common.{◌≡◌, ℕ, ◌+◌, ◌<◌, ◌&&◌, false, Some}
use Rattle.std.specs.Prelude.{slice_get, nat_le}
use Rattle.kx_pages.specs.Spans.{Run, end}
use Rattle.kx_pages.specs.inner.Spans.{IsMaximal}
use Rattle.segments.proofs.rules.has_run.Given as goal

-- no span so far has the whole run
abbrev pub invariant-loop-i : goal.invariant-loop-i
invariant-loop-i l =
    (k : ℕ) → k < l.i → (r : Run) → slice_get l.ram k ≡ Some r → IsMaximal l.ram r × ((nat_le r.first l.first && nat_le (l.first + l.count) (end r)) ≡ false)
