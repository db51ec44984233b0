-- By the plan.
use Rattle.std.proofs.Common.{◌≡◌, ◌∙◌, Result, Err, sym, inl, inr}
use Rattle.kexec_plan.specs.Requests.{Plan}
use Rattle.plan_faults.specs.declared.fault.PlanFault.{PlanFault}
use Rattle.plan_faults.specs.declared.fault.PlanFault.TheVariants as plans
use Rattle.file_commands.specs.Taking.{by}
use Rattle.command_parts.specs.declared.reason.Reason.TheVariants as reasons
use Rattle.worked_commands.specs.Loads.{unknown_makes}
use Rattle.worked_commands.proofs.Loads.{no_plan}
use Rattle.worked_commands.proofs.OneLoad.{none}
use Rattle.std.specs.Fmt.{digits}
use Rattle.worked_commands.proofs.boots.kernel_has_no_plan.Goals as goal

other_fault : unknown_makes (Err (by (reasons.Plan plans.Memory))) → ⊥
other_fault (inl e) = let f : ◌≡◌ {A = Result Plan PlanFault} (Err plans.UnknownImage) (Err plans.Memory) = sym no_plan ∙ e in cc
other_fault (inr (p, c, b, h)) = h

other_reason : unknown_makes (Err (by reasons.NotKept)) → ⊥
other_reason (inl e) = e
other_reason (inr (p, c, b, h)) = h

pub returns-clause-refused : goal.returns-clause-refused
unfolding digits
returns-clause-refused c = inl no_plan

pub returns-clause-other_fault : goal.returns-clause-other_fault
unfolding digits
returns-clause-other_fault c = other_fault

pub returns-clause-other_reason : goal.returns-clause-other_reason
unfolding digits
returns-clause-other_reason c = other_reason

pub returns-clause-not_made : goal.returns-clause-not_made
unfolding digits
returns-clause-not_made c = λ goods h. none h.0 h.2.0.planned
