use Rattle.std.proofs.Common.{◌≡◌, ℕ, ◌+◌, ◌≤◌, ◌<◌, Some}
use Rattle.std.specs.Prelude.{IsSome, slice_get}
use Rattle.kx_pages.specs.Spans.{Run}
use Rattle.page_memory.specs.Contents.{at}
use Rattle.page_memory.specs.inner.Contents.{IsHeld}
use Rattle.segments.specs.Values.{want}
use Rattle.load_states.specs.inner.Laying.{Lays}
use Rattle.load_states.proofs.lay.lay_set.Given as goal

abbrev pub invariant-loop-i : goal.invariant-loop-i
invariant-loop-i l = record {
  lays : Lays l.segments (at l.fn.memory) (at l.memory);
  right : (k : ℕ) → k < l.i → (r : Run) → slice_get l.set k ≡ Some r → (p : ℕ) → r.first ≤ p → p < r.first + r.count → IsSome (want l.segments p) → want l.segments p ≡ Some (at l.memory p);
  stay : (q : ℕ) → IsHeld l.fn.memory q → IsHeld l.memory q;
  only : (q : ℕ) → IsHeld l.memory q → IsHeld l.fn.memory q;
}
