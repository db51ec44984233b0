-- Step after step.
use Rattle.std.proofs.Common.{◌≡◌, refl, true, None}
use Rattle.kx_pages.specs.declared.image.Mode.TheVariants.{Plain}
use Rattle.page_memory.specs.Contents.{at}
use Rattle.page_memory.specs.Memory.{word}
use Rattle.page_memory.specs.inner.Memory.{copied_page}
use Rattle.relocate_machine.specs.declared.step.Outcome.TheVariants.{Done}
use Rattle.relocate_machine.specs.Machine.{kind_of, step_of}
use Rattle.page_memory.specs.Contents.{copy_page}
use Rattle.worked_examples.proofs.Stepping.{standing, reads, goes, ends, at-copied, comes_out}
use Rattle.worked_examples.proofs.runs.first_page_first_runs.Goals as goal

pub returns-clause-run : goal.returns-clause-run
unfolding kind_of step_of word
returns-clause-run c = λ m w.
    let n = copy_page m 3 2 in
    let o = copy_page n 4 3 in
    let N = copied_page (at m) 2 3 in
    let O = copied_page N 3 4 in
    let n-is : at n ≡ N = at-copied m (at m) 3 2 refl in
    let o-is : at o ≡ O = at-copied n N 4 3 n-is in
    comes_out m 0x20002 Plain 10 (Done 5) O (record { machine = record { first = None; cursor = 0x20020; destination = 0x5000; ended = true; mode = Plain }; memory = o })
    (goes 9 0 _ (standing Plain m 0x20000 0) _ refl
    (goes 8 1 _ (standing Plain m 0x20008 0x3000) _ (reads Plain m (at m) 0x20000 0 0x3001 refl refl w.0)
    (goes 7 2 _ (standing Plain n 0x20010 0x4000) _ (reads Plain m (at m) 0x20008 0x3000 0x2008 refl refl w.1.0)
    (goes 6 3 _ (standing Plain o 0x20018 0x5000) _ (reads Plain n N 0x20010 0x4000 0x3008 n-is refl w.1.1.0)
    (ends 5 4 _ _ (reads Plain o O 0x20018 0x5000 4 o-is refl w.1.1.1.0))))))
    o-is

pub returns-clause-first : goal.returns-clause-first
returns-clause-first c = λ M. refl

pub returns-clause-second : goal.returns-clause-second
returns-clause-second c = λ M. refl
