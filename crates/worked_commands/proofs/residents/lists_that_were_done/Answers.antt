-- By the first pair that is refused.
use Rattle.std.proofs.Common.{◌≡◌, ◌∙◌, [], ◌∷◌, Option, Some, None, Ok, refl, sym, ap}
use Rattle.page_memory.specs.Contents.{Contents, at}
use Rattle.segments.specs.Values.{want}
use Rattle.kexec_plan.specs.Plan.{plan}
use Rattle.kexec_plan.specs.Requests.{Plan}
use Rattle.resident_planner.specs.Refusals.{pairs_refusal}
use Rattle.resident_planner.specs.declared.fault.ResidentFault.{ResidentFault}
use Rattle.resident_planner.specs.declared.fault.ResidentFault.TheVariants as faults
use Rattle.worked_commands.specs.Inputs.{few_asked, three_bytes}
use Rattle.worked_commands.proofs.Loads.{one_plan}
use Rattle.worked_commands.proofs.residents.lists_that_were_done.Goals as goal

not_fine : (m : Contents) (p : Plan) → plan few_asked None ≡ Ok p → pairs_refusal (at m) (want p.segments) [] ((5, 0x13) ∷ []) ≡ None → ⊥
unfolding pairs_refusal
not_fine m p e f =
    let u : pairs_refusal (at m) (want three_bytes) [] ((5, 0x13) ∷ []) ≡ Some (faults.NotWanted 5) = refl in
    let h : ◌≡◌ {A = Option ResidentFault} (Some (faults.NotWanted 5)) None = sym u ∙ ap (λ (p : Plan). pairs_refusal (at m) (want p.segments) [] ((5, 0x13) ∷ [])) (sym (one_plan p e)) ∙ f in
    cc

pub returns-clause-cannot : goal.returns-clause-cannot
returns-clause-cannot g c = λ m h. not_fine m h.p h.resident.planned h.resident.made.fine

pub returns-clause-never_booted : goal.returns-clause-never_booted
returns-clause-never_booted g c = λ m a o t p h. not_fine m h.planned h.resident.planned h.resident.made.fine

pub returns-clause-sample : goal.returns-clause-sample
returns-clause-sample g c = λ number a o t p h. h.put
