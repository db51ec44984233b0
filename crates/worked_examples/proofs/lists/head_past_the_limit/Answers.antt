-- By computing: no word is read.
use Rattle.std.proofs.Common.{refl, None}
use Rattle.list_checker.specs.declared.fault.Why.TheVariants.{PastLimit}
use Rattle.worked_examples.specs.Kernels.{three_bytes}
use Rattle.worked_examples.proofs.Refusing.{fault_refuses_all, three_bytes-listed}
use Rattle.worked_examples.proofs.lists.head_past_the_limit.Goals as goal

pub returns-clause-fault : goal.returns-clause-fault
returns-clause-fault c = λ M. refl

pub returns-clause-refused : goal.returns-clause-refused
returns-clause-refused c = λ M. fault_refuses_all M three_bytes 0x4000_0000_0002 0x21 None 0 PastLimit three_bytes-listed refl
