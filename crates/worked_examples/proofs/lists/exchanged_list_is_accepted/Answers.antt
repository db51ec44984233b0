-- Each part of acceptance, by computing.
use Rattle.std.proofs.Common.{refl, sym, ap, Some, arith}
use Rattle.kx_pages.specs.Bytes.{page_of}
use Rattle.worked_examples.proofs.Refusing.{two_pages-listed}
use Rattle.worked_examples.proofs.lists.exchanged_list_is_accepted.Goals as goal

pub returns-clause-pairs : goal.returns-clause-pairs
returns-clause-pairs c = refl

pub returns-clause-accepted : goal.returns-clause-accepted
unfolding page_of
returns-clause-accepted c = λ M w first second. record {
  walk = (refl, omega arith, (w.0, omega arith, omega arith, (w.1.0, omega arith, omega arith, (w.1.1.0, omega arith, omega arith, (w.1.1.1.0, refl)))));
  once = (tt, tt);
  destination_first = tt;
  in_order = (((omega arith, omega arith), tt), (tt, tt));
  whole = two_pages-listed.whole;
  right_bytes = (ap Some (sym first), (ap Some (sym second), tt));
  links_unwritten = ((omega arith, tt), ((omega arith, tt), tt));
  control_apart = ((omega arith, tt), ((omega arith, omega arith), ((omega arith, omega arith), tt)));
}
