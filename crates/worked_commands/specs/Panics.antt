-- The load of a crash kernel of `abc` to page 2: what it is made of is any input that has this plan (this project's own).
use Rattle.std.specs.Prelude.{◌≡◌, ℕ, ◌++◌, List, [], ◌∷◌, Some, None, Result, Ok, codes, replicate}
use Rattle.memory_map.specs.Maps.{reserved_area}
use Rattle.kexec_plan.specs.Plan.{plan}
use Rattle.load_states.specs.States.{CrashLoad}
use Rattle.file_commands.specs.Taking.{Refusal}
use Rattle.load_commands.specs.CrashInputs.{CrashInputs}
use Rattle.load_commands.specs.LoadPanic.{load_panic_entry}
use Rattle.command_parts.specs.Outputs.{Made}
use Rattle.command_parts.specs.declared.reason.Reason.{Reason}
use Rattle.worked_commands.specs.Inputs.{three_bytes, three_bytes_digest}
use Rattle.worked_commands.specs.Loads.{few_plan}
use Rattle.worked_commands.specs.Memories.{loaded, memory_with, run_file, run_pages}
use Rattle.worked_commands.specs.Names.{load_panic_of}

-- what load-panic --map t m o r k makes of it
abbrev pub panic_makes : CrashInputs → Result Made (Refusal Reason) → Type 0
panic_makes = (load_panic_entry (load_panic_of None)).command.makes

-- the load where pages 11 and 12 had something before: page 2 has `abc`, and the head is a done word
abbrev pub crash_load : CrashLoad
crash_load = record { memory = memory_with run_pages; head = 4; segments = three_bytes }

-- the file of its record: the magic, kind 1 and mode 0, the done word, no control and no swap page, entry, three registers,
-- regions and digest, one segment: its address, its memory, its number of bytes, its digest and its bytes
abbrev pub crash_file : List ℕ
crash_file =
    codes "KXREC002"
    ++ (1 ∷ replicate 7 0
    ++ (4 ∷ replicate 7 0 ++ (replicate 8 0 ++ (replicate 8 0
    ++ (0 ∷ 0x20 ∷ replicate 6 0 ++ (replicate 40 0 ++ (1 ∷ replicate 7 0
    ++ (0 ∷ 0x20 ∷ replicate 6 0
    ++ (0 ∷ 0x10 ∷ replicate 6 0
    ++ (3 ∷ replicate 7 0 ++ (three_bytes_digest ++ codes "abc")))))))))))

abbrev pub panic_text : List ℕ
panic_text = codes "accepted crash pages 1\nstart entry 2000 rax 0 rbx 0 rsi 0\n"

abbrev pub panic_goods : Made
panic_goods = record {
  outputs = (codes "o", run_file) ∷ (codes "r", crash_file) ∷ [];
  text = panic_text;
  fault = None;
}

-- these inputs have this memory, this plan, and this reserved area
pub record IsAsked (i : CrashInputs) : Type 0 where
  pub memory : i.memory ≡ loaded
  pub planned : plan i.request (Some i.map) ≡ Ok few_plan
  pub reserved : reserved_area i.map ≡ Some (record { first = 2; count = 3 })
