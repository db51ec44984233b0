-- By arithmetic.
use Rattle.std.proofs.Common.{arith}
use Rattle.worked_commands.proofs.edges.counts_of_faults.Goals as goal

pub returns-clause-one_more : goal.returns-clause-one_more
returns-clause-one_more c = omega arith

pub returns-clause-more : goal.returns-clause-more
returns-clause-more c = omega arith

pub returns-clause-same : goal.returns-clause-same
returns-clause-same c = λ h. omega (arith, h)

pub returns-clause-fewer : goal.returns-clause-fewer
returns-clause-fewer c = λ h. omega (arith, h)

pub returns-clause-last : goal.returns-clause-last
returns-clause-last c = omega arith

pub returns-clause-before_the_last : goal.returns-clause-before_the_last
returns-clause-before_the_last c = λ h. omega (arith, h)
