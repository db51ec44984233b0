-- By what is read.
use Rattle.std.specs.Prelude.{refl}
use Rattle.worked_commands.proofs.CallFiles.{few_taken}
use Rattle.worked_commands.proofs.EachFile.{load_read}
use Rattle.worked_commands.proofs.inputs.files_of_boots_and_loads.Goals as goal

pub returns-clause-boot : goal.returns-clause-boot
returns-clause-boot c = few_taken

pub returns-clause-boot_all : goal.returns-clause-boot_all
returns-clause-boot_all c = load_read

pub returns-clause-boot_twice : goal.returns-clause-boot_twice
returns-clause-boot_twice c = λ i r h. h

pub returns-clause-load : goal.returns-clause-load
returns-clause-load c = few_taken

pub returns-clause-load_plain : goal.returns-clause-load_plain
returns-clause-load_plain c = refl

pub returns-clause-load_kept : goal.returns-clause-load_kept
returns-clause-load_kept c = refl
