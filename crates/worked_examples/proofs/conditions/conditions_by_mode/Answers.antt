-- By the condition that is broken.
use Rattle.std.proofs.Common.{refl, arith}
use Rattle.worked_examples.proofs.conditions.conditions_by_mode.Goals as goal

pub returns-clause-plain : goal.returns-clause-plain
returns-clause-plain c = λ M W a. omega (arith, a.walk.0)

pub returns-clause-kept : goal.returns-clause-kept
returns-clause-kept c = λ M W a. a.swap_apart.0 refl
