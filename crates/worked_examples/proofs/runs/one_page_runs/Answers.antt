-- Step after step; then by cases on the page.
use Rattle.std.proofs.Common.{◌≡◌, ℕ, [], ◌∷◌, refl, sym, ap, ◌∙◌, subst, inl, inr, true, false, cond, None}
use Rattle.std.specs.Prelude.{◌≢◌, ◌⊎◌, eqb, codes}
use Rattle.std.proofs.lemmas.Bool.Decides.{eqb_tells}
use Rattle.kx_pages.specs.declared.image.Mode.TheVariants.{Plain}
use Rattle.kx_pages.specs.Bytes.{page_of, Mem}
use Rattle.page_memory.specs.Contents.{Contents, at}
use Rattle.page_memory.specs.Memory.{word}
use Rattle.page_memory.specs.inner.Memory.{copied_page}
use Rattle.segments.specs.Values.{want, overlay, pages}
use Rattle.relocate_machine.specs.declared.step.Outcome.TheVariants.{Done}
use Rattle.relocate_machine.specs.Machine.{kind_of, step_of}
use Rattle.page_memory.specs.Contents.{copy_page}
use Rattle.worked_examples.specs.Kernels.{three_bytes}
use Rattle.worked_examples.specs.Lists.{HasWords}
use Rattle.worked_examples.specs.Runs.{ComesOut}
use Rattle.worked_examples.proofs.Refusing.{three_bytes-listed}
use Rattle.worked_examples.proofs.Stepping.{standing, reads, goes, ends, at-copied, comes_out}
use Rattle.worked_examples.proofs.Wanting.{left_alone}
use Rattle.worked_examples.proofs.runs.one_page_runs.Goals as goal

run : (m : Contents) → HasWords (at m) 0x11000 (0x2001 ∷ 0x12008 ∷ 4 ∷ []) → ComesOut m 0x11002 Plain 10 (Done 4) (copied_page (at m) 0x12 2)
unfolding kind_of step_of word
run m w =
    let n = copy_page m 2 0x12 in
    let is : at n ≡ copied_page (at m) 0x12 2 = at-copied m (at m) 2 0x12 refl in
    comes_out m 0x11002 Plain 10 (Done 4) (copied_page (at m) 0x12 2) (record { machine = record { first = None; cursor = 0x11018; destination = 0x3000; ended = true; mode = Plain }; memory = n })
    (goes 9 0 _ (standing Plain m 0x11000 0) _ refl
    (goes 8 1 _ (standing Plain m 0x11008 0x2000) _ (reads Plain m (at m) 0x11000 0 0x2001 refl refl w.0)
    (goes 7 2 _ (standing Plain n 0x11010 0x3000) _ (reads Plain m (at m) 0x11008 0x2000 0x12008 refl refl w.1.0)
    (ends 6 3 _ _ (reads Plain n (copied_page (at m) 0x12 2) 0x11010 0x3000 4 is refl w.1.1.0)))))
    is

abbrev IsLeft : Mem → ℕ → Type 0
IsLeft M p = copied_page M 0x12 2 p ≡ overlay M (want three_bytes) p

here : (M : Mem) → M 0x12 ≡ page_of (codes "abc") → IsLeft M 2
unfolding page_of
here M source = source

page_is_left : (M : Mem) → M 0x12 ≡ page_of (codes "abc") → (p : ℕ) → IsLeft M p
page_is_left M source p = elim (eqb_tells p 2) [ inl t ↦ subst (IsLeft M) (sym t.1) (here M source) | inr t ↦ other t.0 t.1 ]
  where
    other : eqb p 2 ≡ false → p ≢ 2 → IsLeft M p
    other a no_two =
        ap (λ b. cond b (M 0x12) (M p)) a ∙ sym (left_alone M (want three_bytes) (pages three_bytes) p three_bytes-listed out)
      where
        out : (2 ≡ p) ⊎ ⊥ → ⊥
        out (inl e) = no_two (sym e)
        out (inr e) = e

pub returns-clause-run : goal.returns-clause-run
returns-clause-run c = run

pub returns-clause-left : goal.returns-clause-left
returns-clause-left c = page_is_left
