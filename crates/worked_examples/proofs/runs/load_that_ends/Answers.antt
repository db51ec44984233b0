-- Step after step, and what one step more or less comes to.
use Rattle.std.proofs.Common.{◌≡◌, ◌∙◌, [], ◌∷◌, refl, sym, ap, true, None}
use Rattle.kx_pages.specs.declared.image.Mode.TheVariants.{Plain}
use Rattle.page_memory.specs.Contents.{Contents, at, copy_page}
use Rattle.page_memory.specs.Memory.{word}
use Rattle.page_memory.specs.inner.Memory.{copied_page}
use Rattle.relocate_machine.specs.declared.step.Outcome.TheVariants.{Done, Running}
use Rattle.relocate_machine.specs.Machine.{kind_of, step_of}
use Rattle.relocate_machine.specs.Run.{run_from, run_of}
use Rattle.worked_examples.specs.Lists.{HasWords}
use Rattle.worked_examples.proofs.Stepping.{standing, reads, goes, ends, stops, at-copied}
use Rattle.worked_examples.proofs.runs.load_that_ends.Goals as goal

all_steps : (m : Contents) → HasWords (at m) 0x11000 (0x2001 ∷ 0x12008 ∷ 4 ∷ [])
    → run_of m 0x11002 Plain 4 ≡ (record { machine = record { first = None; cursor = 0x11018; destination = 0x3000; ended = true; mode = Plain }; memory = copy_page m 2 0x12 }, Done 4)
unfolding kind_of step_of word
all_steps m w =
    let n = copy_page m 2 0x12 in
    let is : at n ≡ copied_page (at m) 0x12 2 = at-copied m (at m) 2 0x12 refl in
    goes 3 0 _ (standing Plain m 0x11000 0) _ refl
    (goes 2 1 _ (standing Plain m 0x11008 0x2000) _ (reads Plain m (at m) 0x11000 0 0x2001 refl refl w.0)
    (goes 1 2 _ (standing Plain n 0x11010 0x3000) _ (reads Plain m (at m) 0x11008 0x2000 0x12008 refl refl w.1.0)
    (ends 0 3 _ _ (reads Plain n (copied_page (at m) 0x12 2) 0x11010 0x3000 4 is refl w.1.1.0))))

three_steps : (m : Contents) → HasWords (at m) 0x11000 (0x2001 ∷ 0x12008 ∷ 4 ∷ [])
    → run_of m 0x11002 Plain 3 ≡ (standing Plain (copy_page m 2 0x12) 0x11010 0x3000, Running 3)
unfolding kind_of step_of
three_steps m w =
    goes 2 0 _ (standing Plain m 0x11000 0) _ refl
    (goes 1 1 _ (standing Plain m 0x11008 0x2000) _ (reads Plain m (at m) 0x11000 0 0x2001 refl refl w.0)
    (goes 0 2 _ (standing Plain (copy_page m 2 0x12) 0x11010 0x3000) _ (reads Plain m (at m) 0x11008 0x2000 0x12008 refl refl w.1.0)
    (stops 3 _)))

pub returns-clause-four : goal.returns-clause-four
returns-clause-four c = λ m w. ap (λ r. r.1) (all_steps m w)

pub returns-clause-not_three : goal.returns-clause-not_three
returns-clause-not_three c = λ m w e. let other : Running 3 ≡ Done 3 = sym (ap (λ r. r.1) (three_steps m w)) ∙ e in cc

pub returns-clause-one : goal.returns-clause-one
unfolding kind_of step_of run_from
returns-clause-one c = λ m. refl

pub returns-clause-not_two : goal.returns-clause-not_two
unfolding kind_of step_of run_from
returns-clause-not_two c = λ m e. let other : Done 1 ≡ Done 2 = e in cc
