-- The head has no reason, and the word after it has one.
use Rattle.std.proofs.Common.{refl, None}
use Rattle.std.specs.Prelude.{◌∷◌, []}
use Rattle.kx_pages.specs.Bytes.{Mem}
use Rattle.kx_pages.specs.declared.item.Item.TheVariants.{Link}
use Rattle.list_checker.specs.declared.fault.Why.TheVariants.{Flags}
use Rattle.worked_examples.specs.Kernels.{three_bytes}
use Rattle.worked_examples.specs.Lists.{HasWords, FirstFault}
use Rattle.worked_examples.proofs.Refusing.{fault_refuses_all, three_bytes-listed}
use Rattle.worked_examples.proofs.lists.word_with_two_flags.Goals as goal

fault : (M : Mem) → HasWords M 0x20000 (0x2009 ∷ 0x30008 ∷ 4 ∷ []) → FirstFault M three_bytes 0x20002 0x21 None 1 Flags
fault M w = (Link 0x20, refl, refl, (λ p e. cc), rw w.0 refl)

pub returns-clause-nothing : goal.returns-clause-nothing
returns-clause-nothing c = refl

pub returns-clause-fault : goal.returns-clause-fault
returns-clause-fault c = fault

pub returns-clause-refused : goal.returns-clause-refused
returns-clause-refused c = λ M w. fault_refuses_all M three_bytes 0x20002 0x21 None 1 Flags three_bytes-listed (fault M w)
