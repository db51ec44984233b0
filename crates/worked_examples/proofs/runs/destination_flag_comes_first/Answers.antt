-- Step after step.
use Rattle.std.proofs.Common.{◌≡◌, refl, true, None}
use Rattle.kx_pages.specs.declared.image.Mode.TheVariants.{Plain}
use Rattle.page_memory.specs.Contents.{at}
use Rattle.page_memory.specs.Memory.{word}
use Rattle.page_memory.specs.inner.Memory.{copied_page}
use Rattle.relocate_machine.specs.declared.step.Outcome.TheVariants.{Done}
use Rattle.relocate_machine.specs.Machine.{kind_of, step_of}
use Rattle.page_memory.specs.Contents.{copy_page}
use Rattle.worked_examples.proofs.Stepping.{standing, reads, goes, ends, at-copied, comes_out}
use Rattle.worked_examples.proofs.runs.destination_flag_comes_first.Goals as goal

pub returns : goal.returns
unfolding kind_of step_of word
returns c = record {
  run = λ m w.
      let n = copy_page m 2 0x30 in
      let is : at n ≡ copied_page (at m) 0x30 2 = at-copied m (at m) 2 0x30 refl in
      comes_out m 0x20002 Plain 0x10 (Done 4) (copied_page (at m) 0x30 2) (record { machine = record { first = None; cursor = 0x20018; destination = 0x3000; ended = true; mode = Plain }; memory = n })
      (goes 15 0 _ (standing Plain m 0x20000 0) _ refl
      (goes 14 1 _ (standing Plain m 0x20008 0x2000) _ (reads Plain m (at m) 0x20000 0 0x2009 refl refl w.0)
      (goes 13 2 _ (standing Plain n 0x20010 0x3000) _ (reads Plain m (at m) 0x20008 0x2000 0x30008 refl refl w.1.0)
      (ends 12 3 _ _ (reads Plain n (copied_page (at m) 0x30 2) 0x20010 0x3000 4 is refl w.1.1.0)))))
      is;
}
