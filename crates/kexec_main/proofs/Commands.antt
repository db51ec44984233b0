-- What is proved of each command.
use Rattle.file_commands.proofs.Keeping.{Keeps}
use Rattle.kexec_words.specs.Values.{CommandValue}
use Rattle.kexec_words.specs.Values as words
use Rattle.kexec_main.specs.Commands.{entry_of}
use Rattle.load_commands.proofs.Commands.Boot.{boot_keeps}
use Rattle.load_commands.proofs.Commands.BootResident.{boot_resident_keeps}
use Rattle.load_commands.proofs.Commands.Load.{load_keeps}
use Rattle.load_commands.proofs.Commands.LoadPanic.{load_panic_keeps}
use Rattle.list_commands.proofs.Commands.Check.{check_keeps}
use Rattle.list_commands.proofs.Commands.Dump.{dump_keeps}
use Rattle.list_commands.proofs.Commands.Exec.{exec_keeps}
use Rattle.list_commands.proofs.Commands.Trace.{trace_keeps}
use Rattle.list_commands.proofs.Commands.Migrate.{migrate_keeps}
use Rattle.load_commands.proofs.Commands.Sample.{sample_keeps}
use Rattle.load_commands.proofs.Commands.Drill.{drill_keeps}
use Rattle.load_commands.proofs.Commands.CoreFile.{core_keeps}

pub keeps : (c : CommandValue) → Keeps (entry_of c)
keeps (words.boot v) = boot_keeps v
keeps (words.load v) = load_keeps v
keeps (words.load_panic v) = load_panic_keeps v
keeps (words.check v) = check_keeps v
keeps (words.dump v) = dump_keeps v
keeps (words.exec v) = exec_keeps v
keeps (words.trace v) = trace_keeps v
keeps (words.migrate v) = migrate_keeps v
keeps (words.sample v) = sample_keeps v
keeps (words.boot_resident v) = boot_resident_keeps v
keeps (words.drill v) = drill_keeps v
keeps (words.core v) = core_keeps v
