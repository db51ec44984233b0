-- Step after step; the first one handles the head.
use Rattle.std.proofs.Common.{◌≡◌, refl, true, None}
use Rattle.kx_pages.specs.declared.image.Mode.TheVariants.{Plain}
use Rattle.page_memory.specs.Contents.{at}
use Rattle.page_memory.specs.Memory.{word}
use Rattle.page_memory.specs.inner.Memory.{copied_page}
use Rattle.relocate_machine.specs.declared.step.Outcome.TheVariants.{Done}
use Rattle.relocate_machine.specs.Machine.{kind_of, step_of}
use Rattle.page_memory.specs.Contents.{copy_page}
use Rattle.worked_examples.proofs.Stepping.{standing, reads, goes, ends, at-copied, comes_out}
use Rattle.worked_examples.proofs.runs.head_that_is_no_link.Goals as goal

pub returns : goal.returns
unfolding kind_of step_of word
returns c = record {
  run = λ m w.
      let n = copy_page m 2 0x12 in
      let is : at n ≡ copied_page (at m) 0x12 2 = at-copied m (at m) 2 0x12 refl in
      comes_out m 0x2001 Plain 10 (Done 3) (copied_page (at m) 0x12 2) (record { machine = record { first = None; cursor = 16; destination = 0x3000; ended = true; mode = Plain }; memory = n })
      (goes 9 0 _ (standing Plain m 0 0x2000) _ refl
      (goes 8 1 _ (standing Plain n 8 0x3000) _ (reads Plain m (at m) 0 0x2000 0x12008 refl refl w.0)
      (ends 7 2 _ _ (reads Plain n (copied_page (at m) 0x12 2) 8 0x3000 4 is refl w.1.0))))
      is;
}
