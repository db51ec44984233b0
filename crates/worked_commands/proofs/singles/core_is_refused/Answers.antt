-- By the one fault.
use Rattle.std.proofs.Common.{◌≡◌, ◌∙◌, Result, Ok, Err, sym}
use Rattle.page_memory.specs.Contents.{Contents, at}
use Rattle.vmcore_file.specs.File.{CoreValue, core_reading}
use Rattle.vmcore_file.specs.declared.fault.CoreFault.{CoreFault}
use Rattle.vmcore_file.specs.declared.fault.CoreFault.TheVariants as faults
use Rattle.worked_commands.proofs.singles.core_is_refused.Goals as goal

other : (m : Contents) → core_reading (at m) 0x3000 ≡ Err faults.NotHeaders → core_reading (at m) 0x3000 ≡ Err (faults.TooMany 1025) → ⊥
other m e f = let h : ◌≡◌ {A = Result CoreValue CoreFault} (Err faults.NotHeaders) (Err (faults.TooMany 1025)) = sym e ∙ f in cc

none : (m : Contents) (core : CoreValue) → core_reading (at m) 0x3000 ≡ Err faults.NotHeaders → core_reading (at m) 0x3000 ≡ Ok core → ⊥
none m core e f = let h : ◌≡◌ {A = Result CoreValue CoreFault} (Err faults.NotHeaders) (Ok core) = sym e ∙ f in cc

pub returns-clause-refused : goal.returns-clause-refused
returns-clause-refused c = λ m e. e

pub returns-clause-other_fault : goal.returns-clause-other_fault
returns-clause-other_fault c = other

pub returns-clause-other_reason : goal.returns-clause-other_reason
returns-clause-other_reason c = λ m h. h

pub returns-clause-never_too_long : goal.returns-clause-never_too_long
returns-clause-never_too_long c = λ m h. h

pub returns-clause-not_made : goal.returns-clause-not_made
returns-clause-not_made c = λ m goods e h. none m h.0 e h.1

pub returns-clause-cannot : goal.returns-clause-cannot
returns-clause-cannot c = λ m e h. none m h.0 e h.1
