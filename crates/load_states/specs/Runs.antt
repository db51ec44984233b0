-- What the runs of a load's list leave, and what is the same of loads that read alike (this project's own).
use Rattle.std.specs.Prelude.{◌≡◌, ℕ}
use Rattle.relocate_machine.specs.Run.{run_of}
use Rattle.relocate_machine.specs.declared.step.Outcome.TheVariants as outcomes
use Rattle.load_states.specs.States.{Load}

-- the machine's run of the load's list is done after exactly so many steps
abbrev pub EndsAfter : Load → ℕ → Type 0
EndsAfter s steps = (run_of s.memory s.image.head s.image.mode steps).1 ≡ outcomes.Done steps
