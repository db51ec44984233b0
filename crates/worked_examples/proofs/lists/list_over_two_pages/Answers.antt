-- Word after word.
use Rattle.std.proofs.Common.{refl, arith}
use Rattle.worked_examples.proofs.lists.list_over_two_pages.Goals as goal

pub returns-clause-pairs : goal.returns-clause-pairs
returns-clause-pairs c = refl

pub returns-clause-links : goal.returns-clause-links
returns-clause-links c = refl

pub returns-clause-walk : goal.returns-clause-walk
returns-clause-walk c = λ M w v.
    (refl, omega arith, (w.0, omega arith, omega arith, (w.1.0, omega arith, omega arith, (w.1.1.0, omega arith, (v.0, omega arith, omega arith, (v.1.0, refl))))))
