-- Step after step.
use Rattle.std.proofs.Common.{refl, true, None}
use Rattle.kx_pages.specs.declared.image.Mode.TheVariants.{Plain}
use Rattle.page_memory.specs.Contents.{at}
use Rattle.relocate_machine.specs.declared.step.Outcome.TheVariants.{Done, Running}
use Rattle.relocate_machine.specs.Machine.{kind_of, step_of}
use Rattle.worked_examples.proofs.Stepping.{standing, reads, goes, ends, stops, comes_out}
use Rattle.worked_examples.proofs.runs.run_without_a_source.Goals as goal

pub returns-clause-run : goal.returns-clause-run
unfolding kind_of step_of
returns-clause-run c = λ m w.
    comes_out m 0x11002 Plain 10 (Done 3) (at m) (record { machine = record { first = None; cursor = 0x11010; destination = 0x2000; ended = true; mode = Plain }; memory = m })
    (goes 9 0 _ (standing Plain m 0x11000 0) _ refl
    (goes 8 1 _ (standing Plain m 0x11008 0x2000) _ (reads Plain m (at m) 0x11000 0 0x2001 refl refl w.0)
    (ends 7 2 _ _ (reads Plain m (at m) 0x11008 0x2000 4 refl refl w.1.0))))
    refl

pub returns-clause-stopped : goal.returns-clause-stopped
unfolding kind_of step_of
returns-clause-stopped c = λ m w.
    comes_out m 0x11002 Plain 2 (Running 2) (at m) (standing Plain m 0x11008 0x2000)
    (goes 1 0 _ (standing Plain m 0x11000 0) _ refl
    (goes 0 1 _ (standing Plain m 0x11008 0x2000) _ (reads Plain m (at m) 0x11000 0 0x2001 refl refl w.0)
    (stops 2 _)))
    refl
