-- Page by page.
use Rattle.std.proofs.Common.{◌≡◌, ◌∙◌, ℕ, [], length, refl, sym, ap, arith, inl, inr, cond}
use Rattle.std.specs.Prelude.{◌≢◌, codes}
use Rattle.std.proofs.lemmas.Bool.Decides.{eqb_tells}
use Rattle.kx_pages.specs.Bytes.{page_of}
use Rattle.page_memory.specs.Contents.{Contents, at}
use Rattle.page_memory.specs.Memory.{put}
use Rattle.worked_commands.proofs.Lists.{in_place, not_in_place}
use Rattle.worked_commands.proofs.outputs.what_runs_leave.Goals as goal

whole_page : length (page_of (codes "abc")) ≡ 4096
unfolding page_of
whole_page = refl

besides_11 : (m : Contents) (p : ℕ) → p ≢ 0x11 → put (at m) 0x11 [] p ≡ at m p
besides_11 m p apart = elim (eqb_tells p 0x11) [
  | inl t ↦ absurd (apart t.1)
  | inr t ↦ ap (λ b. cond b [] (at m p)) t.0
]

pub returns-clause-arrived : goal.returns-clause-arrived
returns-clause-arrived c = λ m. in_place (λ p. page_of (codes "abc")) refl

pub returns-clause-not_arrived : goal.returns-clause-not_arrived
returns-clause-not_arrived c = λ m. not_in_place (λ p. page_of (codes "abd")) refl

pub returns-clause-once : goal.returns-clause-once
returns-clause-once c = λ m. in_place (λ p. page_of (codes "abc")) refl

pub returns-clause-plain_run : goal.returns-clause-plain_run
returns-clause-plain_run c = λ m e l.
    let f : 4096 ≡ 0 = sym whole_page ∙ ap length (l.1 3 refl) ∙ ap length e in
    omega (arith, f)

pub returns-clause-swap_page : goal.returns-clause-swap_page
returns-clause-swap_page c = besides_11

pub returns-clause-other_page : goal.returns-clause-other_page
returns-clause-other_page c = λ m e l.
    let f : 1 ≡ 0 = ap length (l 3 (λ is. omega (arith, is))) ∙ ap length e in
    omega (arith, f)
