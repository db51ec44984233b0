-- The words up to the faulty one have no reason.
use Rattle.std.proofs.Common.{◌≡◌, refl, ap, None, arith}
use Rattle.std.specs.Prelude.{◌∷◌, [], codes}
use Rattle.kx_pages.specs.Bytes.{page_of, Mem}
use Rattle.kx_pages.specs.Items.{decode}
use Rattle.kx_pages.specs.declared.item.Item.TheVariants.{Link, Destination, Source}
use Rattle.list_checker.specs.declared.fault.Why.TheVariants.{SourceSpoiled}
use Rattle.worked_examples.specs.Kernels.{two_pages}
use Rattle.worked_examples.specs.Lists.{HasWords, FirstFault}
use Rattle.worked_examples.proofs.Refusing.{fault_refuses_all, two_more_pages-listed}
use Rattle.worked_examples.proofs.lists.source_is_overwritten_before_its_copy.Goals as goal

fault : (M : Mem) → HasWords M 0x20000 (0x3001 ∷ 0x2008 ∷ 0x3008 ∷ 4 ∷ []) → M 2 ≡ page_of (codes "b") → FirstFault M (two_pages 3) 0x20002 0x21 None 3 SourceSpoiled
unfolding page_of
fault M w first = (
  Link 0x20,
  refl,
  refl,
  (λ p e. cc),
  (
    Destination 3,
    ap decode w.0,
    refl,
    (λ p e. cc),
    (Source 2, ap decode w.1.0, rw first refl, (λ p e. cc), rw w.1.1.0 refl),
  ),
)

pub returns-clause-walk : goal.returns-clause-walk
returns-clause-walk c = λ M w. (refl, omega arith, (w.0, omega arith, omega arith, (w.1.0, omega arith, omega arith, (w.1.1.0, omega arith, omega arith, (w.1.1.1.0, refl)))))

pub returns-clause-pairs : goal.returns-clause-pairs
returns-clause-pairs c = refl

pub returns-clause-disorder : goal.returns-clause-disorder
returns-clause-disorder c = λ order. order.0.0.1 refl

pub returns-clause-fault : goal.returns-clause-fault
returns-clause-fault c = fault

pub returns-clause-refused : goal.returns-clause-refused
returns-clause-refused c = λ M w first. fault_refuses_all M (two_pages 3) 0x20002 0x21 None 3 SourceSpoiled two_more_pages-listed (fault M w first)
