-- The PT_LOADs of an executable: their faults, and what a file reads as (ELF gABI, "Program Header"; the limit of
-- addresses and the order of faults are this project's own).
-- No clause of `kexec` reaches what stands here: it serves laws, and contracts inside the crates.
use Rattle.std.specs.Prelude.{ℕ, Bool, List, Option, Some, None, Result, Ok}
use Rattle.std.specs.List.{list_any}
use Rattle.elf_image.specs.declared.load.Load.{Load}
use Rattle.elf_image.specs.declared.fault.ElfFault.{ElfFault}
use Rattle.elf_image.specs.Loads.{loads_meet, load_onto}

-- it meets one of these
abbrev pub meets_any : Load → List Load → Bool
meets_any l ls = list_any (loads_meet l) ls

-- what a program header is
abbrev pub entry_onto : ℕ → List Load → Option Load → Result (List Load) ElfFault
entry_onto n earlier None = Ok earlier
entry_onto n earlier (Some l) = load_onto n earlier l
