-- What the command lines of the examples mean (this project's own).
use Rattle.std.specs.Prelude.{Bool, [], ◌∷◌, Option, Some, None, Result, Ok, codes}
use Rattle.kexec_words.specs.Values.{InputsValue, CrashInputsValue, CommandValue, boot, load, load_panic}
use Rattle.kexec_words.specs.declared.commands.Runs.{Runs}
use Rattle.command_table.specs.declared.faults.UsageWhy.{UsageWhy}
use Rattle.kx_pages.specs.declared.image.ImageType.{ImageType}

-- memory m, pool p, kernel k, and nothing else
abbrev pub bare_inputs : InputsValue
bare_inputs = record {
  memory = codes "m";
  pool = codes "p";
  below = None;
  map = None;
  kernel = codes "k";
  initrd = None;
  purgatory = None;
  modules = [];
  command = None;
}

-- with the map f
abbrev pub inputs : InputsValue
inputs = record bare_inputs { map = Some (codes "f") }

-- with all that can be read
abbrev pub all_inputs : InputsValue
all_inputs = record {
  memory = codes "m";
  pool = codes "p";
  below = Some 0x100;
  map = Some (codes "f");
  kernel = codes "k";
  initrd = Some (codes "i");
  purgatory = Some (codes "u");
  modules = codes "x" ∷ codes "y" ∷ [];
  command = Some (codes "c");
}

-- `boot` to o
abbrev pub boots : InputsValue → Option Runs → ImageType → Result CommandValue UsageWhy
boots i kept image =
    Ok (boot (record { inputs = i; out = codes "o"; kept = kept; image = image }))

-- `load` to o and the record r
abbrev pub loads : InputsValue → Bool → ImageType → Result CommandValue UsageWhy
loads i kept image =
    Ok (load (record {
      inputs = i;
      out = codes "o";
      load_record = codes "r";
      kept = kept;
      image = image;
    }))

-- memory m and crash kernel k, and nothing else
abbrev pub crash_inputs : CrashInputsValue
crash_inputs = record {
  memory = codes "m";
  notes = None;
  kernel = codes "k";
  initrd = None;
  purgatory = None;
  command = None;
}

-- with all that can be read
abbrev pub all_crash_inputs : CrashInputsValue
all_crash_inputs = record {
  memory = codes "m";
  notes = Some (codes "n");
  kernel = codes "k";
  initrd = Some (codes "i");
  purgatory = Some (codes "u");
  command = Some (codes "c");
}

-- `load-panic` with the map f to o and the record r
abbrev pub crash_loads : CrashInputsValue → Result CommandValue UsageWhy
crash_loads i =
    Ok (load_panic (record {
      inputs = i;
      map = codes "f";
      out = codes "o";
      load_record = codes "r";
    }))
