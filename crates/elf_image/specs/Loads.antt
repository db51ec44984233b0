-- The PT_LOADs of an executable: their faults, and what a file reads as (ELF gABI, "Program Header"; the limit of
-- addresses and the order of faults are this project's own).
use Rattle.std.specs.Prelude.{ℕ, ◌+◌, ◌^◌, ◌++◌, ◌||◌, Bool, List, [], ◌∷◌, length, filter, nat_lt, min, max, if◌then◌else◌, Option, Some, Result, Ok}
use Rattle.std.specs.Option.{option_map}
use Rattle.std.specs.List.{position}
use Rattle.elf_image.specs.declared.load.Load.{Load}
use Rattle.elf_image.specs.declared.fault.ElfFault.{ElfFault}
use Rattle.elf_image.specs.declared.fault.ElfFault.TheVariants as faults
use Rattle.elf_image.specs.declared.fault.ElfPart.TheVariants as parts
use Rattle.elf_image.specs.declared.file_header.Header.{Header}
use Rattle.kx_laws.specs.Results.{◌>>=◌, unless}
use Rattle.elf_image.specs.FileHeader.{exec_header}
use Rattle.elf_image.specs.ProgramHeader.{loads_of}

-- what contracts see of an executable
pub record Executable : Type 0 where
  pub wide : Bool
  pub entry : ℕ
  pub loads : List Load

-- the address behind a load
abbrev pub load_stop : Load → ℕ
load_stop l = l.paddr + l.memsz

-- more bytes in the file than in memory, or an end above the limit of addresses
abbrev pub is_bad : Load → Bool
is_bad l = nat_lt l.memsz l.filesz || nat_lt (2 ^ 46) (load_stop l)

-- its bytes do not lie in a file of n bytes
abbrev pub is_cut : ℕ → Load → Bool
is_cut n l = nat_lt n (l.offset + l.filesz)

-- some byte of memory is in both, so both have memory
abbrev pub loads_meet : Load → Load → Bool
loads_meet l m = nat_lt (max l.paddr m.paddr) (min (load_stop l) (load_stop m))

-- it has memory
abbrev pub has_memory : Load → Bool
has_memory l = nat_lt 0 l.memsz

-- the first fault of a load behind these, in a file of n bytes; of those that it meets the first is told
unfoldable pub load_fault : ℕ → List Load → Load → Option ElfFault
load_fault n earlier l =
    if is_bad l then Some (faults.BadLoad (length earlier))
    else if is_cut n l then Some (faults.Truncated (parts.Load (length earlier)))
    else option_map (faults.LoadsOverlap (length earlier)) (position (loads_meet l) earlier)

-- one more load
unfoldable pub load_onto : ℕ → List Load → Load → Result (List Load) ElfFault
load_onto n earlier l = do
  _ ← unless (load_fault n earlier l)
  Ok (earlier ++ l ∷ [])

-- and these loads, one after another
unfoldable pub loads_onto : ℕ → List Load → List Load → Result (List Load) ElfFault
loads_onto n earlier [] = Ok earlier
loads_onto n earlier (l ∷ ls) = do
  more ← load_onto n earlier l
  loads_onto n more ls

-- the loads of a file that have memory, or the first fault of a load
unfoldable pub read_loads : Header → List ℕ → Result (List Load) ElfFault
read_loads h bytes = do
  ls ← loads_onto (length bytes) [] (loads_of h bytes)
  Ok (filter has_memory ls)

-- what a file reads as, or its first fault
unfoldable pub exec_reading : List ℕ → Result Executable ElfFault
exec_reading bytes = do
  h ← exec_header bytes
  ls ← read_loads h bytes
  Ok (record { wide = h.wide; entry = h.file.entry; loads = ls })
