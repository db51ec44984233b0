-- By the first pair that is refused.
use Rattle.std.proofs.Common.{◌≡◌, ◌∙◌, ℕ, [], ◌∷◌, Option, Some, None, Ok, Err, refl, sym, ap, arith, inl, inr}
use Rattle.std.specs.Prelude.{codes}
use Rattle.kx_laws.proofs.Options.{some_same}
use Rattle.kx_pages.specs.Bytes.{page_of}
use Rattle.page_memory.specs.Contents.{Contents, at}
use Rattle.segments.specs.Values.{want}
use Rattle.kexec_plan.specs.Plan.{plan}
use Rattle.kexec_plan.specs.Requests.{Plan}
use Rattle.resident_planner.specs.Refusals.{pairs_refusal}
use Rattle.resident_planner.specs.declared.fault.ResidentFault.{ResidentFault}
use Rattle.resident_planner.specs.declared.fault.ResidentFault.TheVariants as faults
use Rattle.file_commands.specs.Taking.{by}
use Rattle.command_parts.specs.declared.reason.Reason.TheVariants as reasons
use Rattle.worked_commands.specs.Inputs.{few_asked, three_bytes}
use Rattle.worked_commands.specs.Loads.{few_plan}
use Rattle.worked_commands.specs.Residents.{resident_makes}
use Rattle.worked_commands.proofs.Loads.{one_plan, plan_is}
use Rattle.worked_commands.proofs.residents.pairs_are_refused.Goals as goal

-- the pair (5, 13) is refused for its destination, whatever memory has
unwanted : (m : Contents) → pairs_refusal (at m) (want three_bytes) [] ((5, 0x13) ∷ []) ≡ Some (faults.NotWanted 5)
unfolding pairs_refusal
unwanted m = refl

-- so it is by the segments of the one plan
unwanted_by : (m : Contents) (p : Plan) → plan few_asked None ≡ Ok p → pairs_refusal (at m) (want p.segments) [] ((5, 0x13) ∷ []) ≡ Some (faults.NotWanted 5)
unwanted_by m p e = ap (λ (p : Plan). pairs_refusal (at m) (want p.segments) [] ((5, 0x13) ∷ [])) (one_plan p e) ∙ unwanted m

abbrev page_in : ResidentFault → ℕ
page_in (faults.NotWanted page) = page
page_in other = 0

other_page : (m : Contents) → resident_makes m ((5, 0x13) ∷ []) (Err (by (reasons.Resident (faults.NotWanted 6)))) → ⊥
other_page m (inl (p, e, f)) =
    let h : faults.NotWanted 5 ≡ faults.NotWanted 6 = some_same (faults.NotWanted 5) (faults.NotWanted 6) (sym (unwanted_by m p e) ∙ f) in
    let k : 5 ≡ 6 = ap page_in h in
    omega (arith, k)
other_page m (inr (p, list, c, b, h)) = h

other_reason : (m : Contents) → resident_makes m ((5, 0x13) ∷ []) (Err (by reasons.NotKept)) → ⊥
other_reason m (inl e) = e
other_reason m (inr (p, list, c, b, h)) = h

not_fine : (m : Contents) (p : Plan) → plan few_asked None ≡ Ok p → pairs_refusal (at m) (want p.segments) [] ((5, 0x13) ∷ []) ≡ None → ⊥
not_fine m p e f = let h : ◌≡◌ {A = Option ResidentFault} (Some (faults.NotWanted 5)) None = sym (unwanted_by m p e) ∙ f in cc

repeats : (m : Contents) → at m 0x13 ≡ page_of (codes "abc") → pairs_refusal (at m) (want three_bytes) [] ((2, 0x13) ∷ (2, 0x14) ∷ []) ≡ Some (faults.Repeats 2)
unfolding pairs_refusal page_of
repeats m e = rw e refl

stale : (m : Contents) → at m 0x13 ≡ page_of (codes "abd") → pairs_refusal (at m) (want three_bytes) [] ((2, 0x13) ∷ []) ≡ Some (faults.Stale 2)
unfolding pairs_refusal page_of
stale m e = rw e refl

pub returns-clause-unwanted : goal.returns-clause-unwanted
returns-clause-unwanted c = λ m. inl (few_plan, plan_is, unwanted m)

pub returns-clause-other_page : goal.returns-clause-other_page
returns-clause-other_page c = other_page

pub returns-clause-repeats : goal.returns-clause-repeats
returns-clause-repeats c = λ m e. inl (few_plan, plan_is, repeats m e)

pub returns-clause-stale : goal.returns-clause-stale
returns-clause-stale c = λ m e. inl (few_plan, plan_is, stale m e)

pub returns-clause-other_reason : goal.returns-clause-other_reason
returns-clause-other_reason c = other_reason

pub returns-clause-not_made : goal.returns-clause-not_made
returns-clause-not_made c = λ m goods h. not_fine m h.0 h.3.0.planned h.3.0.made.fine

pub returns-clause-never_too_long : goal.returns-clause-never_too_long
returns-clause-never_too_long c = λ m h. h
