-- A run of a number of steps (this project's own).
-- No clause of `kexec` reaches what stands here: it serves laws, and contracts inside the crates.
use Rattle.std.specs.Prelude.{◌≡◌, ◌⊎◌, ◌↔◌, ℕ, zero, suc, ◌<◌}
use Rattle.page_memory.specs.Contents.{Contents}
use Rattle.page_memory.specs.inner.Contents.{IsHeld}
use Rattle.relocate_machine.specs.declared.step.Step.{Step}
use Rattle.relocate_machine.specs.declared.step.Step.TheVariants as steps
use Rattle.relocate_machine.specs.declared.step.Outcome.TheVariants as outcomes
use Rattle.relocate_machine.specs.Machine.{State, step_of}
use Rattle.relocate_machine.specs.inner.Writes.{HoldsWrites, IsHeldFor, IsWritten, writes_of}
use Rattle.relocate_machine.specs.Run.{run_from}

abbrev pub HeldAfter : (State → Type 0) → State × Step → Type 0
HeldAfter rest (s, steps.Went) = rest s
HeldAfter rest (s, steps.Ended) = Unit {0}
HeldAfter rest (s, steps.Off a) = Unit {0}

-- the pages that at most n more steps write are held
unfoldable pub HeldFrom : ℕ → State → Type 0
HeldFrom zero s = Unit {0}
HeldFrom (suc n) s = HoldsWrites s × HeldAfter (λ t. HeldFrom n t) (step_of s)

abbrev pub WritesAfter : (State → Type 0) → State × Step → Type 0
WritesAfter rest (s, steps.Went) = rest s
WritesAfter rest (s, steps.Ended) = ⊥
WritesAfter rest (s, steps.Off a) = ⊥

-- one of at most n more steps writes page q
unfoldable pub WritesWithin : ℕ → State → ℕ → Type 0
WritesWithin zero s q = ⊥
WritesWithin (suc n) s q =
    IsWritten (writes_of s) q ⊎ WritesAfter (λ t. WritesWithin n t q) (step_of s)

-- a page is held after the run exactly where it was held before it, or one of its steps wrote it
abbrev pub HoldsWritten : ℕ → State → Contents → Type 0
HoldsWritten limit s m = (q : ℕ) → IsHeld m q ↔ (IsHeld s.memory q ⊎ WritesWithin limit s q)

-- The memory is what fewer than `limit` steps left, none of which ended the run, but that pages which the next step
-- writes may be held besides.
abbrev pub IsCutShort : ℕ → State → Contents → Type 0
IsCutShort limit s m =
    (k : ℕ) × (t : State) × (k < limit) × (run_from k 0 s ≡ (t, outcomes.Running k))
    × IsHeldFor (IsWritten (writes_of t)) t.memory m
