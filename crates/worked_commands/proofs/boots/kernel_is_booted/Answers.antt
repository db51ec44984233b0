-- By the one load.
use Rattle.std.proofs.Common.{◌≡◌, ◌∙◌, [], ◌∷◌, Ok, Err, refl, sym, ap, arith, inl, inr}
use Rattle.std.specs.Prelude.{codes}
use Rattle.plan_faults.specs.declared.fault.PlanFault.TheVariants as plans
use Rattle.file_commands.specs.Taking.{by}
use Rattle.command_parts.specs.Outputs.{Made}
use Rattle.command_parts.specs.declared.reason.Reason.TheVariants as reasons
use Rattle.worked_commands.specs.Loads.{boot_goods, boot_makes, boot_text, few_plan}
use Rattle.worked_commands.specs.Memories.{run_file}
use Rattle.worked_commands.proofs.Loads.{plan_is, pool}
use Rattle.worked_commands.proofs.Memories.{run_is}
use Rattle.worked_commands.proofs.LoadWitness.{checked1, loaded1, sealed, told1}
use Rattle.worked_commands.proofs.OneLoad.{boot_leaves, boot_says, known}
use Rattle.std.specs.Fmt.{digits}
use Rattle.worked_commands.proofs.boots.kernel_is_booted.Goals as goal

alone : (goods : Made) → boot_makes pool (Ok goods) → goods ≡ boot_goods
alone goods (p, c, (l, told), text, fault, (bytes, outputs, file)) =
    let said : goods.text ≡ boot_text = text ∙ boot_says c p l.planned l.laid told in
    let put : goods.outputs ≡ (codes "o", run_file) ∷ [] = outputs ∙ ap (λ bytes. (codes "o", bytes) ∷ []) (boot_leaves c p bytes l.planned l.laid told file) in
    λ i. record { outputs = put i; text = said i; fault = fault i }

enough : boot_makes pool (Err (by (reasons.NoPages 3 3))) → ⊥
enough (inl (p, e, few)) = omega (arith, few.2)
enough (inr (p, c, b, h)) = h

planned : boot_makes pool (Err (by (reasons.Plan plans.UnknownImage))) → ⊥
planned (inl e) = known plans.UnknownImage e
planned (inr (p, c, b, h)) = h

pub returns-clause-plan : goal.returns-clause-plan
unfolding digits
returns-clause-plan c = plan_is

pub returns-clause-made : goal.returns-clause-made
unfolding digits
returns-clause-made c = (few_plan, checked1, (loaded1, told1), sym (boot_says checked1 few_plan plan_is sealed told1), refl, (run_file, refl, run_is))

pub returns-clause-nothing_else : goal.returns-clause-nothing_else
unfolding digits
returns-clause-nothing_else c = alone

pub returns-clause-not_refused_for_pages : goal.returns-clause-not_refused_for_pages
unfolding digits
returns-clause-not_refused_for_pages c = enough

pub returns-clause-not_refused_for_its_plan : goal.returns-clause-not_refused_for_its_plan
unfolding digits
returns-clause-not_refused_for_its_plan c = planned

pub returns-clause-never_too_long : goal.returns-clause-never_too_long
unfolding digits
returns-clause-never_too_long c = λ h. h
