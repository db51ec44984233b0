-- Cores by the headers that crash_headers makes (this project's own).
-- No clause of `kexec` reaches what stands here: it serves laws, and contracts inside the crates.
use Rattle.std.specs.Prelude.{◌≡◌, ◌⊎◌, ℕ, ◌+◌, ◌-◌, ◌^◌, ◌≤◌, ◌&&◌, Bool, true, List, [], ◌∷◌, filter, length, slice_index, nat_le, nat_lt, Result, Ok, MatchResult}
use Rattle.kx_laws.specs.Results.{◌>>=◌, unless}
use Rattle.kx_pages.specs.Bytes.{Mem}
use Rattle.page_memory.specs.Addresses.{byte_in, bytes_in}
use Rattle.memory_map.specs.declared.row.Row.{Row}
use Rattle.memory_map.specs.inner.Rows.{covers}
use Rattle.memory_map.specs.Maps.{MapValue, core_ranges}
use Rattle.memory_map.specs.Text.{map_reading}
use Rattle.crash_headers.specs.declared.note.Note.{Note}
use Rattle.elf_headers.specs.declared.program_header.ProgramHeader.{ProgramHeader}
use Rattle.crash_headers.specs.Headers.{headers_or_fault}
use Rattle.vmcore_file.specs.declared.fault.CoreFault.{CoreFault}
use Rattle.vmcore_file.specs.declared.fault.CoreFault.TheVariants as faults
use Rattle.vmcore_file.specs.declared.file.Core.{Core}
use Rattle.vmcore_file.specs.Table.{size_fault}
use Rattle.vmcore_file.specs.inner.File.{loads_of}

-- memory holds these bytes from an address on
pub record HoldsAt (M : Mem) (a : ℕ) (bytes : List ℕ) : Type 0 where
  pub end : a + length bytes ≤ 2 ^ 46
  pub same : bytes_in M a (length bytes) ≡ bytes

-- at an address memory holds the headers that are made for the map of a text and for notes
pub record HoldsHeaders (M : Mem) (a : ℕ) (m : MapValue) : Type 0 where
  pub text : List ℕ
  pub notes : List Note
  pub headers : List ℕ
  pub reads : map_reading text ≡ Ok m
  pub made : headers_or_fault notes (core_ranges m) ≡ Ok headers
  pub there : HoldsAt M a headers

-- the rows that were made, where they have not too many bytes together
abbrev pub read_back : List ProgramHeader → Result (List ProgramHeader) CoreFault
read_back rs = unless (size_fault rs) >>= λ _. Ok rs

-- the byte at an address is one of the row's
abbrev pub has_byte : ℕ → ProgramHeader → Bool
has_byte b row = nat_le row.paddr b && nat_lt b (row.paddr + row.filesz)

-- exactly one load of the file has the byte at an address, and the file has there what memory has
pub record IsKept (M : Mem) (bytes : List ℕ) (b : ℕ) : Type 0 where
  pub load : ProgramHeader
  pub one : filter (has_byte b) (loads_of bytes) ≡ load ∷ []
  pub same : slice_index bytes (load.offset + (b - load.paddr)) ≡ byte_in M b

-- each byte of the ranges is kept; or the rows have too many bytes, or memory is wanted
abbrev pub IsCoreOf : Mem → List Row → Result Core CoreFault → Type 0
IsCoreOf M ranges r =
    MatchResult r (λ c. (b : ℕ) → covers b ranges ≡ true → IsKept M c.bytes.items b)
    (λ e. ((n : ℕ) × (e ≡ faults.TooLarge n)) ⊎ (e ≡ faults.Memory))
