-- By computing.
use Rattle.std.proofs.Common.{refl}
use Rattle.kexec_plan.specs.Purgatory.{arm, registers_text}
use Rattle.kx_fields.specs.Fields.{with_field, zeros}
use Rattle.worked_plans.proofs.purgatories.what_a_purgatory_finds.Goals as goal

pub returns-clause-registers : goal.returns-clause-registers
unfolding registers_text zeros with_field
returns-clause-registers c = refl

pub returns-clause-registers_length : goal.returns-clause-registers_length
unfolding registers_text zeros with_field
returns-clause-registers_length c = refl

pub returns-clause-armed : goal.returns-clause-armed
unfolding arm registers_text zeros with_field
returns-clause-armed c = refl

pub returns-clause-overlapping : goal.returns-clause-overlapping
unfolding arm registers_text zeros with_field
returns-clause-overlapping c = refl
