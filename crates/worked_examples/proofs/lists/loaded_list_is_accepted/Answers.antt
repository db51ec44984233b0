-- By computing, and by the list's own acceptance.
use Rattle.std.proofs.Common.{refl, arith}
use Rattle.kx_pages.specs.Bytes.{page_of}
use Rattle.page_memory.specs.Memory.{word}
use Rattle.worked_examples.proofs.Refusing.{three_bytes-listed}
use Rattle.worked_examples.proofs.lists.loaded_list_is_accepted.Goals as goal

pub returns-clause-list : goal.returns-clause-list
returns-clause-list c = refl

pub returns-clause-words : goal.returns-clause-words
unfolding word page_of
returns-clause-words c = λ M. (refl, (refl, (refl, tt)))

pub returns-clause-accepted : goal.returns-clause-accepted
unfolding word page_of
returns-clause-accepted c = λ M. record {
  walk = (refl, omega arith, (refl, omega arith, omega arith, (refl, omega arith, omega arith, (refl, refl))));
  once = (tt, tt);
  destination_first = tt;
  in_order = (tt, tt);
  whole = three_bytes-listed.whole;
  right_bytes = (refl, tt);
  links_unwritten = ((omega arith, tt), tt);
  control_apart = ((omega arith, tt), ((omega arith, omega arith), tt));
}
