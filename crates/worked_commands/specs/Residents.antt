-- What `boot-resident` took, for the kernel `abc` at page 2 (this project's own).
use Rattle.std.specs.Prelude.{ℕ, List, Result}
use Rattle.page_memory.specs.Contents.{Contents}
use Rattle.file_commands.specs.Taking.{Refusal}
use Rattle.load_commands.specs.BootResident.{ResidentInputs, boot_resident_entry}
use Rattle.command_parts.specs.Outputs.{Made}
use Rattle.command_parts.specs.declared.reason.Reason.{Reason}
use Rattle.worked_commands.specs.Inputs.{few_read}
use Rattle.worked_commands.specs.Names.{boot_resident_raw}

-- over this memory, with these pairs
abbrev pub resident_over : Contents → List (ℕ × ℕ) → ResidentInputs
resident_over m pairs = record { load = record few_read { memory = m }; pairs = pairs }

-- what boot-resident --at 2000 m p o k l makes of it
abbrev pub resident_makes : Contents → List (ℕ × ℕ) → Result Made (Refusal Reason) → Type 0
resident_makes m pairs =
    (boot_resident_entry boot_resident_raw).command.makes (resident_over m pairs)
