-- The head, and then a step that cannot be taken.
use Rattle.std.proofs.Common.{refl}
use Rattle.kx_pages.specs.declared.image.Mode.TheVariants.{Plain}
use Rattle.page_memory.specs.Contents.{at}
use Rattle.relocate_machine.specs.declared.step.Outcome.TheVariants.{Off}
use Rattle.relocate_machine.specs.Machine.{kind_of, step_of}
use Rattle.worked_examples.proofs.Stepping.{standing, goes, is_off, comes_out}
use Rattle.worked_examples.proofs.runs.off_past_the_limit.Goals as goal

pub returns : goal.returns
unfolding kind_of step_of
returns c = record {
  run = λ m.
      comes_out m 0x4000_0000_0002 Plain 10 (Off 0x4000_0000_0000 1) (at m) (standing Plain m 0x4000_0000_0000 0)
      (goes 9 0 _ (standing Plain m 0x4000_0000_0000 0) _ refl (is_off 8 1 0x4000_0000_0000 _ _ refl))
      refl;
}
