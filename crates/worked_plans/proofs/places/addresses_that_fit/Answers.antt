-- By computing.
use Rattle.std.proofs.Common.{refl}
use Rattle.kexec_plan.specs.Holes.{fits}
use Rattle.kx_fields.specs.Fields.{with_field, zeros}
use Rattle.worked_plans.proofs.places.addresses_that_fit.Goals as goal

pub returns-clause-here : goal.returns-clause-here
unfolding fits zeros with_field
returns-clause-here c = refl

pub returns-clause-unaligned : goal.returns-clause-unaligned
unfolding fits zeros with_field
returns-clause-unaligned c = refl

pub returns-clause-too_low : goal.returns-clause-too_low
unfolding fits zeros with_field
returns-clause-too_low c = refl

pub returns-clause-too_high : goal.returns-clause-too_high
unfolding fits zeros with_field
returns-clause-too_high c = refl

pub returns-clause-taken : goal.returns-clause-taken
unfolding fits zeros with_field
returns-clause-taken c = refl
