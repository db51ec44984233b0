-- Page 7 against each page.
use Rattle.std.proofs.Common.{◌≡◌, ℕ, length, sym, ap, ◌∙◌, arith, inl, inr, cond}
use Rattle.std.specs.Prelude.{replicate}
use Rattle.std.proofs.lemmas.Bool.Decides.{eqb_tells}
use Rattle.page_memory.specs.Memory.{put}
use Rattle.worked_examples.proofs.memories.memories_that_agree.Goals as goal

same_page : (p : ℕ) → replicate 4096 p ≡ put (λ q. replicate 4096 q) 7 (replicate 4096 7) p
same_page p = elim (eqb_tells p 7) [
  | inl t ↦ ap (λ q. replicate 4096 q) t.1 ∙ sym (ap (λ b. cond b (replicate 4096 7) (replicate 4096 p)) t.0)
  | inr t ↦ sym (ap (λ b. cond b (replicate 4096 7) (replicate 4096 p)) t.0)
]

pub returns-clause-same : goal.returns-clause-same
returns-clause-same c = same_page

pub returns-clause-one_page : goal.returns-clause-one_page
returns-clause-one_page c = λ a. omega (arith, ap length (a 7))
