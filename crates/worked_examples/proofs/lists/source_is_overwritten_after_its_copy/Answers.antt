-- Each part of acceptance, by computing.
use Rattle.std.proofs.Common.{refl, sym, ap, Some, arith, inl, inr, ⊎_elim}
use Rattle.kx_pages.specs.Bytes.{page_of}
use Rattle.worked_examples.proofs.Refusing.{two_more_pages-listed}
use Rattle.worked_examples.proofs.lists.source_is_overwritten_after_its_copy.Goals as goal

pub returns-clause-pairs : goal.returns-clause-pairs
returns-clause-pairs c = refl

pub returns-clause-accepted : goal.returns-clause-accepted
unfolding page_of
returns-clause-accepted c = λ M w first second. record {
  walk = (refl, omega arith, (w.0, omega arith, omega arith, (w.1.0, omega arith, omega arith, (w.1.1.0, omega arith, omega arith, (w.1.1.1.0, omega arith, omega arith, (w.1.1.1.1.0, refl))))));
  once = (tt, tt);
  destination_first = tt;
  in_order = (((omega arith, omega arith), tt), (tt, tt));
  whole = λ p bytes e. ⊎_elim (λ is. inr (inl is)) (⊎_elim inl absurd) (two_more_pages-listed.whole p bytes e);
  right_bytes = (ap Some (sym second), (ap Some (sym first), tt));
  links_unwritten = ((omega arith, tt), ((omega arith, tt), tt));
  control_apart = ((omega arith, tt), ((omega arith, omega arith), ((omega arith, omega arith), tt)));
}
