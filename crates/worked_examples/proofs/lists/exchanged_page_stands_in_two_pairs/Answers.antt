-- The words up to the faulty one have no reason.
use Rattle.std.proofs.Common.{◌≡◌, refl, ap, Some}
use Rattle.std.specs.Prelude.{◌∷◌, [], codes}
use Rattle.kx_pages.specs.Bytes.{page_of, Mem}
use Rattle.kx_pages.specs.Items.{decode}
use Rattle.kx_pages.specs.declared.item.Item.TheVariants.{Link, Destination, Source}
use Rattle.list_checker.specs.declared.fault.Why.TheVariants.{PairsMeet}
use Rattle.worked_examples.specs.Kernels.{two_pages}
use Rattle.worked_examples.specs.Lists.{HasWords, FirstFault}
use Rattle.worked_examples.proofs.Refusing.{fault_refuses_all, two_more_pages-listed}
use Rattle.worked_examples.proofs.lists.exchanged_page_stands_in_two_pairs.Goals as goal

fault : (M : Mem) → HasWords M 0x20000 (0x4001 ∷ 0x3008 ∷ 0x3001 ∷ 0x2008 ∷ 4 ∷ []) → M 3 ≡ page_of (codes "c") → FirstFault M (two_pages 3) 0x20002 0x21 (Some 0x22) 4 PairsMeet
unfolding page_of
fault M w second = (
  Link 0x20,
  refl,
  refl,
  (λ p e. cc),
  (
    Destination 4,
    ap decode w.0,
    refl,
    (λ p e. cc),
    (
      Source 3,
      ap decode w.1.0,
      rw second refl,
      (λ p e. cc),
      (Destination 3, ap decode w.1.1.0, refl, (λ p e. cc), rw w.1.1.1.0 refl),
    ),
  ),
)

pub returns-clause-meet : goal.returns-clause-meet
returns-clause-meet c = λ apart. apart.0.0.2 refl

pub returns-clause-fault : goal.returns-clause-fault
returns-clause-fault c = fault

pub returns-clause-refused : goal.returns-clause-refused
returns-clause-refused c = λ M w second. fault_refuses_all M (two_pages 3) 0x20002 0x21 (Some 0x22) 4 PairsMeet two_more_pages-listed (fault M w second)
