use Rattle.std.proofs.Common.{◌≡◌, ℕ, ◌≤◌, ◌<◌, Some}
use Rattle.std.specs.Prelude.{IsSome}
use Rattle.page_memory.specs.Contents.{at}
use Rattle.page_memory.specs.inner.Contents.{IsHeld}
use Rattle.segments.specs.Values.{want}
use Rattle.load_states.specs.inner.Laying.{Lays}
use Rattle.load_states.proofs.lay.lay_span.Given as goal

abbrev pub invariant-loop-n : goal.invariant-loop-n
invariant-loop-n l = record {
  lays : Lays l.segments (at l.fn.memory) (at l.memory);
  right : (p : ℕ) → l.fn.span.first ≤ p → p < l.n → IsSome (want l.segments p) → want l.segments p ≡ Some (at l.memory p);
  stay : (q : ℕ) → IsHeld l.fn.memory q → IsHeld l.memory q;
  only : (q : ℕ) → IsHeld l.memory q → IsHeld l.fn.memory q;
}
