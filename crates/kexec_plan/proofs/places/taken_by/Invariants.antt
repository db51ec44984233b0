use Rattle.std.proofs.Common.{◌≡◌, ℕ, take}
use Rattle.std.specs.List.{list_any}
use Rattle.kx_pages.specs.Spans.{in_spans}
use Rattle.kexec_plan.specs.Places.{is_met}
use Rattle.kexec_plan.proofs.places.taken_by.Given as goal

abbrev pub invariant-loop-segment : goal.invariant-loop-segment
invariant-loop-segment l = (q : ℕ) → in_spans l.taken q ≡ list_any (is_met q) (take l.segment-index l.list)
