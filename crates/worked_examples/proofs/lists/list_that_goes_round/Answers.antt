-- By induction over a walk: each word that is read is the same link.
use Rattle.std.proofs.Common.{◌≡◌, ◌+◌, ◌*◌, ℕ, List, refl, sym, ap, ◌∙◌, None, arith}
use Rattle.std.specs.Prelude.{◌∷◌, []}
use Rattle.kx_pages.specs.Bytes.{Mem}
use Rattle.page_memory.specs.Memory.{word}
use Rattle.kx_pages.specs.declared.item.Item.{Item}
use Rattle.kx_pages.specs.declared.item.Item.TheVariants.{Link, Destination, Source, Done}
use Rattle.list_checker.specs.Walk.{Walk, Reads}
use Rattle.list_checker.specs.declared.fault.Why.TheVariants.{LinkAgain}
use Rattle.worked_examples.specs.Kernels.{three_bytes}
use Rattle.worked_examples.specs.Lists.{HasWords, FirstFault}
use Rattle.worked_examples.proofs.Refusing.{fault_refuses_all, three_bytes-listed}
use Rattle.worked_examples.proofs.lists.list_that_goes_round.Goals as goal

reads_on : (M : Mem) (a : ℕ) → word M 0x20000 ≡ 0x20002 → a ≡ 0x20000 → (is : List Item) → Reads M a is → ⊥
reads_on M a w at [] r = r
reads_on M a w at (Done p ∷ is) r = let e : 4096 * p + 4 ≡ 0x20002 = sym r.0 ∙ ap (word M) at ∙ w in omega (arith, e)
reads_on M a w at (Link p ∷ is) r = let e : 4096 * p + 2 ≡ 0x20002 = sym r.0 ∙ ap (word M) at ∙ w in reads_on M (4096 * p) w (omega (arith, e)) is r.2
reads_on M a w at (Destination p ∷ is) r = let e : 4096 * p + 1 ≡ 0x20002 = sym r.0 ∙ ap (word M) at ∙ w in omega (arith, e)
reads_on M a w at (Source p ∷ is) r = let e : 4096 * p + 8 ≡ 0x20002 = sym r.0 ∙ ap (word M) at ∙ w in omega (arith, e)

walks_on : (M : Mem) → word M 0x20000 ≡ 0x20002 → (is : List Item) → Walk M 0x20002 is → ⊥
walks_on M w [] r = r
walks_on M w (Done p ∷ is) r = let e : 0x20002 ≡ 4096 * p + 4 = r.0 in omega (arith, e)
walks_on M w (Link p ∷ is) r = let e : 0x20002 ≡ 4096 * p + 2 = r.0 in reads_on M (4096 * p) w (omega (arith, e)) is r.2
walks_on M w (Destination p ∷ is) r = r
walks_on M w (Source p ∷ is) r = r

fault : (M : Mem) → HasWords M 0x20000 (0x20002 ∷ []) → FirstFault M three_bytes 0x20002 0x21 None 1 LinkAgain
fault M w = (Link 0x20, refl, refl, (λ p e. cc), rw w.0 refl)

pub returns-clause-endless : goal.returns-clause-endless
returns-clause-endless c = λ M w. walks_on M w.0

pub returns-clause-fault : goal.returns-clause-fault
returns-clause-fault c = fault

pub returns-clause-refused : goal.returns-clause-refused
returns-clause-refused c = λ M w. fault_refuses_all M three_bytes 0x20002 0x21 None 1 LinkAgain three_bytes-listed (fault M w)
