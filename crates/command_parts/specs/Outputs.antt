-- Outputs that are files of memories and of load records (this project's own).
use Rattle.std.specs.Prelude.{◌≡◌, ℕ, ◌≤◌, ◌<◌, List, [], ◌∷◌, length, Ok}
use Rattle.page_memory.specs.Contents.{Contents, IsMemory, at}
use Rattle.kx_pages.specs.Bytes.{Mem}
use Rattle.page_memory.specs.Memory.{Agree}
use Rattle.page_memory.specs.File.{stored_pages, file}
use Rattle.list_checker.specs.declared.fault.ListFault.{ListFault}
use Rattle.file_commands.specs.Answers.{Goods}
use Rattle.file_commands.specs.Taking.{File}
use Rattle.command_parts.specs.declared.reason.Reason.{Reason}
use Rattle.command_parts.specs.declared.reason.Reason.TheVariants.{Heavy}
use Rattle.load_record.specs.File.{Record, record_file, record_reading}

-- what a command of the program makes
abbrev pub Made : Type 0
Made = Goods ListFault

-- the bytes are the one memory file of this memory, which has at most 131,072 pages that are not all zero
abbrev pub IsFileOf : Mem → List ℕ → Type 0
IsFileOf N bytes =
    (m : Contents)
    × IsMemory m × Agree (at m) N × (length (stored_pages m) ≤ 131072) × (bytes ≡ file m)

-- this memory has so many pages that are not all zero, too many for a memory file
abbrev pub IsTooHeavy : Mem → ℕ → Type 0
IsTooHeavy N count =
    (m : Contents) × IsMemory m × Agree (at m) N × (131072 < length (stored_pages m))
    × (count ≡ length (stored_pages m))

-- this memory has no file, for this reason
abbrev pub HasNoFile : Mem → Reason → Type 0
HasNoFile N (Heavy count) = IsTooHeavy N count
HasNoFile N other = ⊥

-- the one output is this memory's file, under this name
abbrev pub IsMemoryFile : List File → List ℕ → Mem → Type 0
IsMemoryFile outputs name N = (bytes : List ℕ) × (outputs ≡ (name, bytes) ∷ []) × IsFileOf N bytes

-- the file of a record reads as the record itself
abbrev pub IsReadBack : Record → Type 0
IsReadBack r = record_reading (record_file r) ≡ Ok r
