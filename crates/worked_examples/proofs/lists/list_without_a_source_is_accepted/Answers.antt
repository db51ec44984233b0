-- Each part of acceptance, by computing.
use Rattle.std.proofs.Common.{refl, arith}
use Rattle.worked_examples.proofs.Refusing.{no_bytes-listed}
use Rattle.worked_examples.proofs.lists.list_without_a_source_is_accepted.Goals as goal

pub returns-clause-pairs : goal.returns-clause-pairs
returns-clause-pairs c = refl

pub returns-clause-accepted : goal.returns-clause-accepted
returns-clause-accepted c = λ M w. record {
  walk = (refl, omega arith, (w.0, omega arith, omega arith, (w.1.0, refl)));
  once = (tt, tt);
  destination_first = tt;
  in_order = tt;
  whole = no_bytes-listed.whole;
  right_bytes = tt;
  links_unwritten = tt;
  control_apart = ((omega arith, tt), tt);
}
