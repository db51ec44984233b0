-- Step after step; then by cases on the page.
use Rattle.std.proofs.Common.{◌≡◌, ℕ, [], ◌∷◌, refl, sym, ap, ◌∙◌, subst, inl, inr, true, false, cond, None}
use Rattle.std.specs.Prelude.{◌≢◌, ◌⊎◌, eqb, codes}
use Rattle.std.proofs.lemmas.Bool.Decides.{eqb_tells}
use Rattle.kx_pages.specs.declared.image.Mode.TheVariants.{Plain}
use Rattle.kx_pages.specs.Bytes.{page_of, Mem}
use Rattle.page_memory.specs.Contents.{Contents, at}
use Rattle.page_memory.specs.Memory.{word}
use Rattle.page_memory.specs.inner.Memory.{copied_page}
use Rattle.segments.specs.Values.{want, overlay, pages}
use Rattle.relocate_machine.specs.declared.step.Outcome.TheVariants.{Done}
use Rattle.relocate_machine.specs.Machine.{kind_of, step_of}
use Rattle.page_memory.specs.Contents.{copy_page}
use Rattle.worked_examples.specs.Kernels.{two_pages}
use Rattle.worked_examples.specs.Lists.{HasWords}
use Rattle.worked_examples.specs.Runs.{ComesOut}
use Rattle.worked_examples.proofs.Refusing.{two_more_pages-listed}
use Rattle.worked_examples.proofs.Stepping.{standing, reads, goes, ends, at-copied, comes_out}
use Rattle.worked_examples.proofs.Wanting.{left_alone}
use Rattle.worked_examples.proofs.runs.last_page_first_runs.Goals as goal

run : (m : Contents) → HasWords (at m) 0x20000 (0x4001 ∷ 0x3008 ∷ 0x3001 ∷ 0x2008 ∷ 4 ∷ []) → ComesOut m 0x20002 Plain 10 (Done 6) (copied_page (copied_page (at m) 3 4) 2 3)
unfolding kind_of step_of word
run m w =
    let n = copy_page m 4 3 in
    let o = copy_page n 3 2 in
    let N = copied_page (at m) 3 4 in
    let O = copied_page N 2 3 in
    let n-is : at n ≡ N = at-copied m (at m) 4 3 refl in
    let o-is : at o ≡ O = at-copied n N 3 2 n-is in
    comes_out m 0x20002 Plain 10 (Done 6) O (record { machine = record { first = None; cursor = 0x20028; destination = 0x4000; ended = true; mode = Plain }; memory = o })
    (goes 9 0 _ (standing Plain m 0x20000 0) _ refl
    (goes 8 1 _ (standing Plain m 0x20008 0x4000) _ (reads Plain m (at m) 0x20000 0 0x4001 refl refl w.0)
    (goes 7 2 _ (standing Plain n 0x20010 0x5000) _ (reads Plain m (at m) 0x20008 0x4000 0x3008 refl refl w.1.0)
    (goes 6 3 _ (standing Plain n 0x20018 0x3000) _ (reads Plain n N 0x20010 0x5000 0x3001 n-is refl w.1.1.0)
    (goes 5 4 _ (standing Plain o 0x20020 0x4000) _ (reads Plain n N 0x20018 0x3000 0x2008 n-is refl w.1.1.1.0)
    (ends 4 5 _ _ (reads Plain o O 0x20020 0x4000 4 o-is refl w.1.1.1.1.0)))))))
    o-is

abbrev IsLeft : Mem → ℕ → Type 0
IsLeft M p = copied_page (copied_page M 3 4) 2 3 p ≡ overlay M (want (two_pages 3)) p

at_three : (M : Mem) → M 2 ≡ page_of (codes "b") → IsLeft M 3
unfolding page_of
at_three M first = first

at_four : (M : Mem) → M 3 ≡ page_of (codes "c") → IsLeft M 4
unfolding page_of
at_four M second = second

page_is_left : (M : Mem) → M 2 ≡ page_of (codes "b") → M 3 ≡ page_of (codes "c") → (p : ℕ) → IsLeft M p
page_is_left M first second p =
    elim (eqb_tells p 3) [
      | inl t ↦ subst (IsLeft M) (sym t.1) (at_three M first)
      | inr t ↦ elim (eqb_tells p 4) [
        | inl u ↦ subst (IsLeft M) (sym u.1) (at_four M second)
        | inr u ↦ other t.0 u.0 t.1 u.1
      ]
    ]
  where
    other : eqb p 3 ≡ false → eqb p 4 ≡ false → p ≢ 3 → p ≢ 4 → IsLeft M p
    other a b no_three no_four =
        ap (λ x. cond x (M 2) (cond (eqb p 4) (M 3) (M p))) a ∙ ap (λ x. cond x (M 3) (M p)) b
        ∙ sym (left_alone M (want (two_pages 3)) (pages (two_pages 3)) p two_more_pages-listed out)
      where
        out : (3 ≡ p) ⊎ ((4 ≡ p) ⊎ ⊥) → ⊥
        out (inl e) = no_three (sym e)
        out (inr (inl e)) = no_four (sym e)
        out (inr (inr e)) = e

pub returns-clause-run : goal.returns-clause-run
returns-clause-run c = run

pub returns-clause-left : goal.returns-clause-left
returns-clause-left c = page_is_left
