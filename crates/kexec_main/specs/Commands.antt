-- The commands of the program (this project's own).
use Rattle.std.specs.Prelude.{Result}
use Rattle.file_commands.specs.Entry.{Holds as HoldsOf}
use Rattle.command_table.specs.declared.faults.UsageWhy.{UsageWhy}
use Rattle.kexec_words.specs.Values.{CommandValue}
use Rattle.kexec_words.specs.Values as words
use Rattle.command_parts.specs.declared.reason.Reason.TheVariants.{Usage}
use Rattle.load_commands.specs.Boot.{boot_entry}
use Rattle.load_commands.specs.BootResident.{boot_resident_entry}
use Rattle.list_commands.specs.Check.{check_entry}
use Rattle.load_commands.specs.CoreFile.{core_entry}
use Rattle.load_commands.specs.Drill.{drill_entry}
use Rattle.list_commands.specs.Dump.{dump_entry}
use Rattle.command_parts.specs.Entry.{Program, ProgramEntry}
use Rattle.list_commands.specs.Exec.{exec_entry}
use Rattle.load_commands.specs.Load.{load_entry}
use Rattle.load_commands.specs.LoadPanic.{load_panic_entry}
use Rattle.list_commands.specs.Migrate.{migrate_entry}
use Rattle.load_commands.specs.Sample.{sample_entry}
use Rattle.list_commands.specs.Trace.{trace_entry}

-- what is said of each command stands beside its other definitions
abbrev pub entry_of : CommandValue → ProgramEntry
entry_of (words.boot b) = boot_entry b
entry_of (words.load l) = load_entry l
entry_of (words.load_panic l) = load_panic_entry l
entry_of (words.check l) = check_entry l
entry_of (words.dump l) = dump_entry l
entry_of (words.exec e) = exec_entry e
entry_of (words.trace t) = trace_entry t
entry_of (words.migrate m) = migrate_entry m
entry_of (words.sample n) = sample_entry n
entry_of (words.boot_resident b) = boot_resident_entry b
entry_of (words.drill d) = drill_entry d
entry_of (words.core c) = core_entry c

-- this holds of the command that the words say
abbrev pub Holds : ((X : Type 0) → Program X → Type 0) → Result CommandValue UsageWhy → Type 0
Holds P said = HoldsOf entry_of Usage P said
