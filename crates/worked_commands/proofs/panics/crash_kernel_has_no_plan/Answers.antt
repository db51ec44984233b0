-- By the plan.
use Rattle.std.proofs.Common.{◌≡◌, ◌∙◌, Some, Result, Ok, Err, sym, inl, inr}
use Rattle.kexec_plan.specs.Plan.{plan}
use Rattle.kexec_plan.specs.Requests.{Plan}
use Rattle.plan_faults.specs.declared.fault.PlanFault.{PlanFault}
use Rattle.plan_faults.specs.declared.fault.PlanFault.TheVariants as plans
use Rattle.file_commands.specs.Taking.{by}
use Rattle.load_commands.specs.CrashInputs.{CrashInputs}
use Rattle.command_parts.specs.declared.reason.Reason.TheVariants as reasons
use Rattle.worked_commands.specs.Panics.{panic_makes}
use Rattle.worked_commands.proofs.panics.crash_kernel_has_no_plan.Goals as goal

other_fault : (i : CrashInputs) → plan i.request (Some i.map) ≡ Err plans.UnknownImage → panic_makes i (Err (by (reasons.Plan plans.Memory))) → ⊥
other_fault i e (inl f) = let h : ◌≡◌ {A = Result Plan PlanFault} (Err plans.UnknownImage) (Err plans.Memory) = sym e ∙ f in cc
other_fault i e (inr (p, load, l, h)) = h

other_reason : (i : CrashInputs) → panic_makes i (Err (by reasons.NotKept)) → ⊥
other_reason i (inl f) = f
other_reason i (inr (p, load, l, h)) = h

not_made : (i : CrashInputs) (p : Plan) → plan i.request (Some i.map) ≡ Err plans.UnknownImage → plan i.request (Some i.map) ≡ Ok p → ⊥
not_made i p e f = let h : ◌≡◌ {A = Result Plan PlanFault} (Err plans.UnknownImage) (Ok p) = sym e ∙ f in cc

pub returns-clause-refused : goal.returns-clause-refused
returns-clause-refused c = λ i e. inl e

pub returns-clause-other_fault : goal.returns-clause-other_fault
returns-clause-other_fault c = other_fault

pub returns-clause-other_reason : goal.returns-clause-other_reason
returns-clause-other_reason c = other_reason

pub returns-clause-not_made : goal.returns-clause-not_made
returns-clause-not_made c = λ i goods e h. not_made i h.0 e h.2.planned
