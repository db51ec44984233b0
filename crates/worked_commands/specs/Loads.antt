-- The load of the kernel `abc` to page 2 from a pool of pages 10, 11 and 12: its plan, what is taken, and what is made (this
-- project's own).
use Rattle.std.specs.Prelude.{ℕ, ◌++◌, List, [], ◌∷◌, None, false, Result, codes}
use Rattle.kx_pages.specs.declared.image.ImageType.TheVariants.{Auto}
use Rattle.kx_pages.specs.declared.image.Mode.TheVariants as modes
use Rattle.load_states.specs.States.{Checked, no_pages}
use Rattle.kexec_plan.specs.Requests.{Plan}
use Rattle.file_commands.specs.Taking.{Refusal}
use Rattle.load_commands.specs.Boot.{boot_entry}
use Rattle.load_commands.specs.Inputs.{LoadInputs}
use Rattle.load_commands.specs.Load.{load_entry}
use Rattle.command_parts.specs.Outputs.{Made}
use Rattle.command_parts.specs.declared.reason.Reason.{Reason}
use Rattle.worked_commands.specs.Inputs.{few_asked, few_read, three_bytes, three_bytes_file}
use Rattle.worked_commands.specs.Memories.{loaded_file, run_file}
use Rattle.worked_commands.specs.Names.{boot_raw, load_raw}
use Rattle.worked_commands.specs.Texts.{no_memory}

-- the kernel starts where it lies
abbrev pub few_plan : Plan
few_plan = record {
  segments = three_bytes;
  start = record { entry = 0x2000; rax = 0; rbx = 0; rsi = 0 };
  regions = 0;
  digest = 0;
}

-- what `boot` and `load` took, with these usable pages
abbrev pub few_with : List ℕ → LoadInputs
few_with usable = record few_read { usable = usable }

-- what is made of it by boot --type raw --at 2000 m p o k, and by load --type raw --at 2000 m p o r k
abbrev pub boot_makes : List ℕ → Result Made (Refusal Reason) → Type 0
boot_makes usable = (boot_entry (boot_raw None)).command.makes (few_with usable)

abbrev pub load_makes : List ℕ → Result Made (Refusal Reason) → Type 0
load_makes usable = (load_entry (load_raw false)).command.makes (few_with usable)

-- a kernel whose type its file is to tell, and what `boot` makes of it
abbrev pub unknown_read : LoadInputs
unknown_read = record few_read { request = record few_asked { image = Auto } }

abbrev pub unknown_makes : Result Made (Refusal Reason) → Type 0
unknown_makes = (boot_entry (boot_raw None)).command.makes unknown_read

-- no segments are loaded: the list is the done word alone
abbrev pub nothing_loaded : Checked
nothing_loaded = record {
  load = record {
    memory = no_memory;
    pool = no_pages;
    image = record { head = 4; mode = modes.Plain; control = 0x10 };
    segments = [];
  };
  words = 1;
  links = 0;
  pairs = [];
}

-- what is said of the list
abbrev pub load_text : List ℕ
load_text =
    codes "accepted words 4 links 1 pairs 1\nhead 11002 control 10000\n"
    ++ codes "start entry 2000 rax 0 rbx 0 rsi 0\n"

-- and of its run
abbrev pub boot_text : List ℕ
boot_text =
    codes "accepted words 4 links 1 pairs 1\nhead 11002 control 10000\n"
    ++ codes "start entry 2000 rax 0 rbx 0 rsi 0\nran 4\n"

abbrev pub boot_goods : Made
boot_goods = record { outputs = (codes "o", run_file) ∷ []; text = boot_text; fault = None }

abbrev pub load_goods : Made
load_goods = record {
  outputs = (codes "o", loaded_file) ∷ (codes "r", three_bytes_file) ∷ [];
  text = load_text;
  fault = None;
}
