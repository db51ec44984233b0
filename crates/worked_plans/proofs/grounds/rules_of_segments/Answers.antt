-- By the runs of memory.
use Rattle.std.proofs.Common.{refl, ap}
use Rattle.kexec_plan.specs.Rules.{first_refusal, test_segments, unless_refused}
use Rattle.segments.specs.Rules.{bare_refusal, refusal, shape_refusal}
use Rattle.segments.specs.declared.fault.Kind.TheVariants.{Crash, Normal}
use Rattle.std.specs.Prelude.{[], ◌∷◌}
use Rattle.worked_plans.proofs.Machining.{machine_runs}
use Rattle.worked_plans.specs.Machines.{area, pages_at}
use Rattle.worked_plans.proofs.grounds.rules_of_segments.Goals as goal

pub returns-clause-unknown : goal.returns-clause-unknown
unfolding first_refusal bare_refusal refusal shape_refusal
returns-clause-unknown c = refl

pub returns-clause-machine : goal.returns-clause-machine
unfolding first_refusal refusal shape_refusal
returns-clause-machine c = ap (λ rs. refusal rs Normal (pages_at 0 1 ∷ [])) machine_runs

pub returns-clause-in_ram : goal.returns-clause-in_ram
unfolding first_refusal refusal shape_refusal
returns-clause-in_ram c = ap (λ rs. refusal rs Normal (pages_at 0x3fe 2 ∷ [])) machine_runs

pub returns-clause-in_the_area : goal.returns-clause-in_the_area
unfolding first_refusal refusal shape_refusal
returns-clause-in_the_area c = ap (λ rs. refusal rs Normal (pages_at 0x3fe 2 ∷ pages_at 0x400 1 ∷ [])) machine_runs

pub returns-clause-crash : goal.returns-clause-crash
unfolding first_refusal refusal shape_refusal
returns-clause-crash c = ap (λ rs. refusal rs (Crash area) (pages_at 0x400 1 ∷ [])) machine_runs

pub returns-clause-crash_outside : goal.returns-clause-crash_outside
unfolding first_refusal refusal shape_refusal
returns-clause-crash_outside c = ap (λ rs. refusal rs (Crash area) (pages_at 0x400 1 ∷ pages_at 0x3ff 1 ∷ [])) machine_runs

pub returns-clause-half : goal.returns-clause-half
unfolding first_refusal refusal shape_refusal
returns-clause-half c = ap (λ rs. refusal rs Normal (pages_at 0x100 975 ∷ [])) machine_runs

pub returns-clause-more_than_half : goal.returns-clause-more_than_half
unfolding first_refusal refusal shape_refusal
returns-clause-more_than_half c = ap (λ rs. refusal rs Normal (pages_at 0x100 976 ∷ [])) machine_runs

pub returns-clause-passed : goal.returns-clause-passed
returns-clause-passed c = refl

pub returns-clause-refused : goal.returns-clause-refused
returns-clause-refused c = refl

pub returns-clause-tested : goal.returns-clause-tested
unfolding test_segments first_refusal refusal shape_refusal
returns-clause-tested c = ap (λ rs. unless_refused (pages_at 0x3fe 2 ∷ []) (refusal rs Normal (pages_at 0x3fe 2 ∷ []))) machine_runs

pub returns-clause-not_tested : goal.returns-clause-not_tested
unfolding test_segments first_refusal refusal shape_refusal
returns-clause-not_tested c = ap (λ rs. unless_refused (pages_at 0x3ff 2 ∷ []) (refusal rs Normal (pages_at 0x3ff 2 ∷ []))) machine_runs
