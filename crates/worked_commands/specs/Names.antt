-- The commands of the examples as words say them, with short names of files (this project's own).
use Rattle.std.specs.Prelude.{ℕ, List, [], ◌∷◌, Bool, Option, Some, None, codes}
use Rattle.kx_pages.specs.declared.image.ImageType.TheVariants.{Auto, Raw}
use Rattle.kexec_words.specs.declared.commands.Runs.{Runs}
use Rattle.kexec_words.specs.Values.{BootResidentValue, BootValue, CoreValue, CrashInputsValue, DrillValue, ExecValue, InputsValue, LoadNamesValue, LoadPanicValue, LoadValue, MigrateValue, TraceValue}

-- memory `m`, pool `p` and kernel `k`
abbrev pub few_inputs : InputsValue
few_inputs = record {
  memory = codes "m";
  pool = codes "p";
  below = None;
  map = None;
  kernel = codes "k";
  initrd = None;
  purgatory = None;
  modules = [];
  command = None;
}

-- with a limit of the pool, and all files and words that may be named
abbrev pub all_inputs : InputsValue
all_inputs = record {
  memory = codes "m";
  pool = codes "p";
  below = Some 0x12;
  map = Some (codes "t");
  kernel = codes "k";
  initrd = Some (codes "i");
  purgatory = Some (codes "g");
  modules = codes "x" ∷ codes "y" ∷ [];
  command = Some (codes "quiet");
}

-- boot --type raw --at 2000 m p o k, with these runs
abbrev pub boot_raw : Option Runs → BootValue
boot_raw runs =
    record { inputs = few_inputs; out = codes "o"; kept = runs; image = Raw 0x2000 0x2000 }

-- boot of all files
abbrev pub boot_all : BootValue
boot_all = record { inputs = all_inputs; out = codes "o"; kept = None; image = Auto }

-- load --type raw --at 2000 m p o r k, with or without --kept
abbrev pub load_raw : Bool → LoadValue
load_raw kept = record {
  inputs = few_inputs;
  out = codes "o";
  load_record = codes "r";
  kept = kept;
  image = Raw 0x2000 0x2000;
}

abbrev pub crash_inputs_of : Option (List ℕ) → CrashInputsValue
crash_inputs_of notes = record {
  memory = codes "m";
  notes = notes;
  kernel = codes "k";
  initrd = Some (codes "i");
  purgatory = Some (codes "g");
  command = Some (codes "quiet");
}

-- load-panic --map t m o r k, with these notes
abbrev pub load_panic_of : Option (List ℕ) → LoadPanicValue
load_panic_of notes = record {
  inputs = crash_inputs_of notes;
  map = codes "t";
  out = codes "o";
  load_record = codes "r";
}

-- check or dump of `m` and `r`
abbrev pub of_record : LoadNamesValue
of_record = record { memory = codes "m"; load_record = codes "r" }

-- exec m r x, with or without --twice
abbrev pub exec_record : Bool → ExecValue
exec_record twice =
    record { memory = codes "m"; load_record = codes "r"; out = codes "x"; twice = twice }

-- trace m o 11002 9, with this swap page's address
abbrev pub trace_memory : Option ℕ → TraceValue
trace_memory swap =
    record { memory = codes "m"; out = codes "o"; head = 0x11002; limit = 9; swap = swap }

-- migrate r o
abbrev pub migrate_record : MigrateValue
migrate_record = record { load_record = codes "r"; out = codes "o" }

-- boot-resident --at 2000 m p o k l
abbrev pub boot_resident_raw : BootResidentValue
boot_resident_raw = record {
  memory = codes "m";
  pool = codes "p";
  out = codes "o";
  kernel = codes "k";
  pairs = codes "l";
  at = 0x2000;
}

-- drill m p o e --map t
abbrev pub drill_events : DrillValue
drill_events = record {
  memory = codes "m";
  pool = codes "p";
  out = codes "o";
  events = codes "e";
  map = codes "t";
}

-- core m o 3000
abbrev pub core_memory : CoreValue
core_memory = record { memory = codes "m"; out = codes "o"; address = 0x3000 }
