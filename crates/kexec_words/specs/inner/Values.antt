-- The commands as values: the names of files and the kernel's command line as bytes (this project's own).
-- No clause of `kexec` reaches what stands here: it serves laws, and contracts inside the crates.
use Rattle.std.specs.Prelude.{ℕ, map, option_map, string_bytes}
use Rattle.kexec_words.specs.declared.commands.Inputs.{Inputs}
use Rattle.kexec_words.specs.declared.commands.CrashInputs.{CrashInputs}
use Rattle.kexec_words.specs.declared.commands.Boot.{Boot}
use Rattle.kexec_words.specs.declared.commands.Load.{Load}
use Rattle.kexec_words.specs.declared.commands.LoadPanic.{LoadPanic}
use Rattle.kexec_words.specs.declared.commands.LoadNames.{LoadNames}
use Rattle.kexec_words.specs.declared.commands.Exec.{Exec}
use Rattle.kexec_words.specs.declared.commands.Trace.{Trace}
use Rattle.kexec_words.specs.declared.commands.Migrate.{Migrate}
use Rattle.kexec_words.specs.declared.commands.BootResident.{BootResident}
use Rattle.kexec_words.specs.declared.commands.Drill.{Drill}
use Rattle.kexec_words.specs.declared.commands.Core.{Core}
use Rattle.kexec_words.specs.declared.commands.Command.{Command}
use Rattle.kexec_words.specs.declared.commands.Command.TheVariants as code
use Rattle.kexec_words.specs.Values.{InputsValue, BootValue, LoadValue, CrashInputsValue, LoadPanicValue, LoadNamesValue, ExecValue, TraceValue, MigrateValue, BootResidentValue, DrillValue, CoreValue, CommandValue, boot, boot_resident, check, core, drill, dump, exec, load, load_panic, migrate, sample, trace}

-- ---- the values of the program's types

abbrev pub inputs_value : Inputs → InputsValue
inputs_value i = record {
  memory = string_bytes i.memory;
  pool = string_bytes i.pool;
  below = i.below;
  map = option_map string_bytes i.map;
  kernel = string_bytes i.kernel;
  initrd = option_map string_bytes i.initrd;
  purgatory = option_map string_bytes i.purgatory;
  modules = map string_bytes i.modules.items;
  command = option_map string_bytes i.command;
}

abbrev pub boot_value : Boot → BootValue
boot_value b =
    record {
      inputs = inputs_value b.inputs;
      out = string_bytes b.out;
      kept = b.kept;
      image = b.image;
    }

abbrev pub load_value : Load → LoadValue
load_value l = record {
  inputs = inputs_value l.inputs;
  out = string_bytes l.out;
  load_record = string_bytes l.load_record;
  kept = l.kept;
  image = l.image;
}

abbrev pub crash_inputs_value : CrashInputs → CrashInputsValue
crash_inputs_value i = record {
  memory = string_bytes i.memory;
  notes = option_map string_bytes i.notes;
  kernel = string_bytes i.kernel;
  initrd = option_map string_bytes i.initrd;
  purgatory = option_map string_bytes i.purgatory;
  command = option_map string_bytes i.command;
}

abbrev pub load_panic_value : LoadPanic → LoadPanicValue
load_panic_value l = record {
  inputs = crash_inputs_value l.inputs;
  map = string_bytes l.map;
  out = string_bytes l.out;
  load_record = string_bytes l.load_record;
}

abbrev pub load_names_value : LoadNames → LoadNamesValue
load_names_value l =
    record { memory = string_bytes l.memory; load_record = string_bytes l.load_record }

abbrev pub exec_value : Exec → ExecValue
exec_value e = record {
  memory = string_bytes e.memory;
  load_record = string_bytes e.load_record;
  out = string_bytes e.out;
  twice = e.twice;
}

abbrev pub trace_value : Trace → TraceValue
trace_value t = record {
  memory = string_bytes t.memory;
  out = string_bytes t.out;
  head = t.head;
  limit = t.limit;
  swap = t.swap;
}

abbrev pub migrate_value : Migrate → MigrateValue
migrate_value m = record { load_record = string_bytes m.load_record; out = string_bytes m.out }

abbrev pub boot_resident_value : BootResident → BootResidentValue
boot_resident_value b = record {
  memory = string_bytes b.memory;
  pool = string_bytes b.pool;
  out = string_bytes b.out;
  kernel = string_bytes b.kernel;
  pairs = string_bytes b.pairs;
  at = b.at;
}

abbrev pub drill_value : Drill → DrillValue
drill_value d = record {
  memory = string_bytes d.memory;
  pool = string_bytes d.pool;
  out = string_bytes d.out;
  events = string_bytes d.events;
  map = string_bytes d.map;
}

abbrev pub core_value : Core → CoreValue
core_value c =
    record { memory = string_bytes c.memory; out = string_bytes c.out; address = c.address }

-- a number is its own value
abbrev pub number_value : ℕ → ℕ
number_value n = n

abbrev pub command_value : Command → CommandValue
command_value (code.Boot b) = boot (boot_value b)
command_value (code.Load l) = load (load_value l)
command_value (code.LoadPanic l) = load_panic (load_panic_value l)
command_value (code.Check l) = check (load_names_value l)
command_value (code.Dump l) = dump (load_names_value l)
command_value (code.Exec e) = exec (exec_value e)
command_value (code.Trace t) = trace (trace_value t)
command_value (code.Migrate m) = migrate (migrate_value m)
command_value (code.Sample n) = sample n
command_value (code.BootResident b) = boot_resident (boot_resident_value b)
command_value (code.Drill d) = drill (drill_value d)
command_value (code.Core c) = core (core_value c)
