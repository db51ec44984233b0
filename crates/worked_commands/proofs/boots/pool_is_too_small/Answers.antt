-- By the plan, which takes three pages.
use Rattle.std.proofs.Common.{◌≡◌, ◌∙◌, ◌≤◌, ℕ, List, [], ◌∷◌, Err, refl, arith, inl, inr}
use Rattle.kx_pages.specs.declared.image.Wish.TheVariants.{Plain}
use Rattle.segments.specs.Values.{need}
use Rattle.file_commands.specs.Taking.{by}
use Rattle.command_parts.specs.declared.reason.Reason.TheVariants as reasons
use Rattle.worked_commands.specs.Loads.{boot_makes, few_plan, load_makes}
use Rattle.worked_commands.proofs.Loads.{plan_is}
use Rattle.worked_commands.proofs.OneLoad.{takes}
use Rattle.std.specs.Fmt.{digits}
use Rattle.worked_commands.proofs.boots.pool_is_too_small.Goals as goal

abbrev two : List ℕ
two = 0x10 ∷ 0x11 ∷ []

exchanged : boot_makes two (Err (by (reasons.NoPages 3 2))) → ⊥
exchanged (inl (p, e, few)) = let f : 3 ≡ 2 = few.0 in omega (arith, f)
exchanged (inr (p, c, b, h)) = h

other_need : boot_makes two (Err (by (reasons.NoPages 2 4))) → ⊥
other_need (inl (p, e, few)) = let f : 4 ≡ 3 = few.1 ∙ takes p e in omega (arith, f)
other_need (inr (p, c, b, h)) = h

other_pool : load_makes two (Err (by (reasons.NoPages 1 3))) → ⊥
other_pool (inl (p, e, few)) = let f : 1 ≡ 2 = few.0 in omega (arith, f)
other_pool (inr (p, c, b, h)) = h

too_few : (n : ℕ) → n ≡ 3 → n ≤ 2 → ⊥
too_few n e h = omega arith

pub returns-clause-boot : goal.returns-clause-boot
unfolding digits
returns-clause-boot c = inl (few_plan, plan_is, (refl, refl, omega arith))

pub returns-clause-load : goal.returns-clause-load
unfolding digits
returns-clause-load c = inl (few_plan, plan_is, (refl, refl, omega arith))

pub returns-clause-exchanged : goal.returns-clause-exchanged
unfolding digits
returns-clause-exchanged c = exchanged

pub returns-clause-other_need : goal.returns-clause-other_need
unfolding digits
returns-clause-other_need c = other_need

pub returns-clause-other_pool : goal.returns-clause-other_pool
unfolding digits
returns-clause-other_pool c = other_pool

pub returns-clause-not_made : goal.returns-clause-not_made
unfolding digits
returns-clause-not_made c = λ goods h. too_few (need Plain h.0.segments) (takes h.0 h.2.0.planned) h.2.0.enough

pub returns-clause-not_loaded : goal.returns-clause-not_loaded
unfolding digits
returns-clause-not_loaded c = λ goods h. too_few (need Plain h.0.segments) (takes h.0 h.2.0.planned) h.2.0.enough
