-- By computing.
use Rattle.std.proofs.Common.{refl}
use Rattle.worked_plans.proofs.faults.want_of_memory.Goals as goal

pub returns-clause-told : goal.returns-clause-told
returns-clause-told c = refl

pub returns-clause-elf : goal.returns-clause-elf
returns-clause-elf c = refl

pub returns-clause-object : goal.returns-clause-object
returns-clause-object c = refl

pub returns-clause-bzimage : goal.returns-clause-bzimage
returns-clause-bzimage c = refl

pub returns-clause-params : goal.returns-clause-params
returns-clause-params c = refl

pub returns-clause-link : goal.returns-clause-link
returns-clause-link c = refl

pub returns-clause-multiboot : goal.returns-clause-multiboot
returns-clause-multiboot c = refl

pub returns-clause-crash : goal.returns-clause-crash
returns-clause-crash c = refl
