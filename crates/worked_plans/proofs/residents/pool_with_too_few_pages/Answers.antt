-- Two pages are wanted, and of the pool two are left.
use Rattle.std.proofs.Common.{◌≡◌, ℕ, [], ◌∷◌, Option, Some, None, refl, ap, arith}
use Rattle.std.proofs.lemmas.Bool.Decides.{nat_tests}
use Rattle.kx_pages.specs.Bytes.{page_of}
use Rattle.resident_planner.specs.Refusals.{AreTooFew, pairs_refusal}
use Rattle.resident_planner.specs.declared.fault.ResidentFault.{ResidentFault}
use Rattle.resident_planner.specs.declared.fault.ResidentFault.TheVariants as faults
use Rattle.worked_plans.specs.Residents.{two_pages, both_ways}
use Rattle.worked_plans.proofs.residents.pool_with_too_few_pages.Goals as goal

two_left : AreTooFew two_pages (0x10 ∷ 0x11 ∷ []) both_ways 2 3
two_left = record {
  wanted_pages = 2 ∷ 3 ∷ [];
  are = record { rising = ((omega arith, tt), (tt, tt)); whole = λ p. grind (arith, nat_tests) };
  left_is = refl;
  need_is = refl;
  fewer = omega arith;
}

-- the page that is not wanted
page_in : Option ResidentFault → ℕ
page_in (Some (faults.NotWanted p)) = p
page_in (Some e) = 0
page_in None = 0

pub returns-clause-too_few : goal.returns-clause-too_few
returns-clause-too_few c = two_left

pub returns-clause-fault : goal.returns-clause-fault
unfolding pairs_refusal page_of
returns-clause-fault c = (refl, two_left)

pub returns-clause-stale : goal.returns-clause-stale
unfolding pairs_refusal page_of
returns-clause-stale c = refl

pub returns-clause-not_wanted : goal.returns-clause-not_wanted
unfolding pairs_refusal page_of
returns-clause-not_wanted c = refl

pub returns-clause-repeats : goal.returns-clause-repeats
unfolding pairs_refusal page_of
returns-clause-repeats c = refl

pub returns-clause-another : goal.returns-clause-another
unfolding pairs_refusal page_of page_in
returns-clause-another c = λ h. let e : 4 ≡ 5 = ap page_in h in omega (arith, e)
