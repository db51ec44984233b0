-- Copy after copy, by what a map has once a page is set.
use Rattle.std.proofs.Common.{◌≡◌, ℕ, ap, ◌∙◌, cond, Some}
use Rattle.std.specs.Prelude.{replicate, unwrap_or}
use Rattle.std.specs.Cmp.{nat_cmp_total}
use Rattle.std.specs.FinMap.{get, get-empty, get-insert}
use Rattle.std.specs.Ordering.{eq_by_cmp, nat_cmp}
use Rattle.page_memory.specs.Contents.{Contents, at, copy_page, frame_at, zero_page}
use Rattle.worked_examples.proofs.memories.pages_of_a_memory.Goals as goal

page_after_a_copy : (m : Contents) (d s q : ℕ)
    → at (copy_page m d s) q ≡ unwrap_or (cond (eq_by_cmp nat_cmp q d) (Some (at m s)) (get m.pages q)) zero_page
unfolding frame_at
page_after_a_copy m d s q = ap (λ o. unwrap_or o zero_page) (get-insert nat_cmp_total m.pages d (at m s) q)

pub returns-clause-not_held : goal.returns-clause-not_held
unfolding frame_at zero_page
returns-clause-not_held c = ap (λ o. unwrap_or o (replicate 4096 0)) (get-empty nat_cmp 5)

pub returns-clause-copied : goal.returns-clause-copied
unfolding frame_at
returns-clause-copied c = λ m. page_after_a_copy m 3 2 3

pub returns-clause-source : goal.returns-clause-source
unfolding frame_at
returns-clause-source c = λ m. page_after_a_copy m 3 2 2

pub returns-clause-exchanged : goal.returns-clause-exchanged
unfolding frame_at
returns-clause-exchanged c = λ m.
    page_after_a_copy (copy_page (copy_page m 4 3) 3 2) 2 4 2 ∙ page_after_a_copy (copy_page m 4 3) 3 2 4
    ∙ page_after_a_copy m 4 3 4

pub returns-clause-source_exchanged : goal.returns-clause-source_exchanged
unfolding frame_at
returns-clause-source_exchanged c = λ m.
    page_after_a_copy (copy_page (copy_page m 4 3) 3 2) 2 4 3 ∙ page_after_a_copy (copy_page m 4 3) 3 2 3
    ∙ page_after_a_copy m 4 3 2

pub returns-clause-swap_page : goal.returns-clause-swap_page
unfolding frame_at
returns-clause-swap_page c = λ m.
    page_after_a_copy (copy_page (copy_page m 4 3) 3 2) 2 4 4 ∙ page_after_a_copy (copy_page m 4 3) 3 2 4
    ∙ page_after_a_copy m 4 3 4
