-- Step after step, three copies to a move; then by cases on the page.
use Rattle.std.proofs.Common.{◌≡◌, ℕ, refl, sym, subst, inl, inr, true, false, None}
use Rattle.std.specs.Prelude.{◌≢◌, eqb}
use Rattle.std.proofs.lemmas.Bool.Decides.{eqb_tells}
use Rattle.kx_pages.specs.declared.image.Mode.TheVariants.{Kept}
use Rattle.page_memory.specs.Contents.{Contents, at}
use Rattle.kx_pages.specs.Bytes.{Mem}
use Rattle.page_memory.specs.Memory.{word}
use Rattle.page_memory.specs.inner.Memory.{copied_page}
use Rattle.relocate_machine.specs.declared.step.Outcome.TheVariants.{Done}
use Rattle.relocate_machine.specs.Machine.{kind_of, step_of}
use Rattle.page_memory.specs.Contents.{copy_page}
use Rattle.load_states.specs.Exchange.{exchange}
use Rattle.worked_examples.specs.Runs.{swapped_page, one_pair_at_home, moved_in_turn}
use Rattle.worked_examples.proofs.Stepping.{standing, reads, goes, ends, at-copied, comes_out}
use Rattle.worked_examples.proofs.runs.kept_list_runs.Goals as goal

-- a move of page s to page d by way of page 11
abbrev moves_of_pair : Contents → ℕ → ℕ → Contents
moves_of_pair m s d = copy_page (copy_page (copy_page m 0x11 s) s d) d 0x11

at-moved : (m : Contents) (N : Mem) (s d : ℕ) → at m ≡ N → at (moves_of_pair m s d) ≡ swapped_page N s d 0x11
at-moved m N s d e = at-copied (copy_page (copy_page m 0x11 s) s d) (copied_page (copied_page N s 0x11) d s) d 0x11 (at-copied (copy_page m 0x11 s) (copied_page N s 0x11) s d (at-copied m N 0x11 s e))

pub returns-clause-run : goal.returns-clause-run
unfolding kind_of step_of word
returns-clause-run c = λ m w.
    let n = moves_of_pair m 2 2 in
    let o = moves_of_pair n 0x13 3 in
    let N = swapped_page (at m) 2 2 0x11 in
    let O = moved_in_turn (at m) in
    let n-is : at n ≡ N = at-moved m (at m) 2 2 refl in
    let o-is : at o ≡ O = at-moved n N 0x13 3 n-is in
    comes_out m 0x12002 (Kept 0x11) 10 (Done 5) O (record { machine = record { first = None; cursor = 0x12020; destination = 0x4000; ended = true; mode = Kept 0x11 }; memory = o })
    (goes 9 0 _ (standing (Kept 0x11) m 0x12000 0) _ refl
    (goes 8 1 _ (standing (Kept 0x11) m 0x12008 0x2000) _ (reads (Kept 0x11) m (at m) 0x12000 0 0x2001 refl refl w.0)
    (goes 7 2 _ (standing (Kept 0x11) n 0x12010 0x3000) _ (reads (Kept 0x11) m (at m) 0x12008 0x2000 0x2008 refl refl w.1.0)
    (goes 6 3 _ (standing (Kept 0x11) o 0x12018 0x4000) _ (reads (Kept 0x11) n N 0x12010 0x3000 0x13008 n-is refl w.1.1.0)
    (ends 5 4 _ _ (reads (Kept 0x11) o O 0x12018 0x4000 4 o-is refl w.1.1.1.0))))))
    o-is

abbrev IsExchanged : Mem → ℕ → Type 0
IsExchanged M p = moved_in_turn M p ≡ exchange M one_pair_at_home 0x11 p

other : (M : Mem) (p : ℕ) → eqb p 0x11 ≡ false → eqb p 2 ≡ false → eqb p 3 ≡ false → eqb p 0x13 ≡ false → eqb 2 p ≡ false → eqb 3 p ≡ false → eqb 0x13 p ≡ false → IsExchanged M p
other M p a b c d e f g = simp (a, b, c, d, e, f, g) refl

eqb_turn : (a p : ℕ) → p ≢ a → eqb a p ≡ false
eqb_turn a p apart = elim (eqb_tells a p) [ inl t ↦ absurd (apart (sym t.1)) | inr t ↦ t.0 ]

exchange_is_left : (M : Mem) (p : ℕ) → IsExchanged M p
exchange_is_left M p =
    elim (eqb_tells p 0x11) [
      | inl t ↦ subst (IsExchanged M) (sym t.1) refl
      | inr t ↦ elim (eqb_tells p 2) [
        | inl u ↦ subst (IsExchanged M) (sym u.1) refl
        | inr u ↦ elim (eqb_tells p 3) [
          | inl v ↦ subst (IsExchanged M) (sym v.1) refl
          | inr v ↦ elim (eqb_tells p 0x13) [
            | inl x ↦ subst (IsExchanged M) (sym x.1) refl
            | inr x ↦ other M p t.0 u.0 v.0 x.0 (eqb_turn 2 p u.1) (eqb_turn 3 p v.1) (eqb_turn 0x13 p x.1)
          ]
        ]
      ]
    ]

pub returns-clause-exchanged : goal.returns-clause-exchanged
returns-clause-exchanged c = exchange_is_left
