-- What an ELF executable and a raw kernel are loaded as (ELF gABI, chapter 4, "ELF Header", and chapter 5, "Program Header"
-- and "Program Loading"): read from the segments of a plan. Places count bytes from the start of the file.
use Rattle.std.specs.Prelude.{◌≡◌, ◌⊎◌, ℕ, ◌+◌, ◌-◌, ◌*◌, ◌<◌, ◌≤◌, false, List, [], ◌∷◌, Option, None, Ok, slice_index, true}
use Rattle.std.specs.List.{starts_with}
use Rattle.std.specs.Prelude.{nat_eq}
use Rattle.kx_fields.specs.Fields.{field}
use Rattle.kx_pages.specs.declared.image.ImageType.TheVariants as types
use Rattle.memory_map.specs.Maps.{MapValue}
use Rattle.segments.specs.Values.{SegmentValue}
use Rattle.bzimage.specs.Signature as signature
use Rattle.elf_image.specs.FileHeader.{magic}
use Rattle.multiboot_image.specs.Header.{find_header}
use Rattle.kexec_plan.specs.Formats.{has_header}
use Rattle.kexec_plan.specs.Plan.{plan}
use Rattle.kexec_plan.specs.Requests.{Asked, Plan}
use Rattle.plan_laws.specs.Places.{IsIn, IsOne}

-- one of the segments has this byte at this address
abbrev pub HasByte : ℕ → ℕ → List SegmentValue → Type 0
HasByte a byte ss =
    (s : SegmentValue) × IsOne s ss × IsIn a s × (slice_index s.bytes (a - s.mem) ≡ byte)

-- at the addresses from a on stand the n bytes of the file from this place on, and behind them zeros, m bytes in all
pub record IsLoaded (file : List ℕ) (place a n m : ℕ) (ss : List SegmentValue) : Type 0 where
  pub bytes : (k : ℕ) → k < n → HasByte (a + k) (slice_index file (place + k)) ss
  pub zeros : (k : ℕ) → n ≤ k → k < m → HasByte (a + k) 0 ss

-- Each program header of type PT_LOAD (1) of an ELF64 file is loaded: e_phnum of them stand from e_phoff on, and
-- p_filesz bytes at p_offset go to p_paddr, where they have p_memsz bytes of memory.
abbrev pub AreLoaded64 : List ℕ → List SegmentValue → Type 0
AreLoaded64 file ss =
    (i p : ℕ) → i < field 0x38 2 file → p ≡ field 0x20 8 file + 56 * i → field p 4 file ≡ 1
    → IsLoaded file (field (p + 8) 8 file) (field (p + 24) 8 file) (field (p + 32) 8 file)
    (field (p + 40) 8 file) ss

-- So is each of an ELF32 file.
abbrev pub AreLoaded32 : List ℕ → List SegmentValue → Type 0
AreLoaded32 file ss =
    (i p : ℕ) → i < field 0x2c 2 file → p ≡ field 0x1c 4 file + 32 * i → field p 4 file ≡ 1
    → IsLoaded file (field (p + 4) 4 file) (field (p + 12) 4 file) (field (p + 16) 4 file)
    (field (p + 20) 4 file) ss

-- the registers of a start that tells the kernel nothing are 0
pub record TellsNothing (p : Plan) : Type 0 where
  pub rax : p.start.rax ≡ 0
  pub rbx : p.start.rbx ≡ 0
  pub rsi : p.start.rsi ≡ 0

-- The plan starts an ELF64 executable at e_entry: all that its program headers load stands in its segments.
pub record StartsElf (file : List ℕ) (p : Plan) : Type 0 where
  pub e_entry : p.start.entry ≡ field 0x18 8 file
  pub tells : TellsNothing p
  pub loads : AreLoaded64 file p.segments

-- The plan starts a raw kernel: its one segment has the file at the address that was asked for, and it is entered where it
-- was asked for.
pub record StartsRaw (file : List ℕ) (at entry : ℕ) (p : Plan) : Type 0 where
  pub entered : p.start.entry ≡ entry
  pub tells : TellsNothing p
  pub kernel : SegmentValue
  pub alone : p.segments ≡ kernel ∷ []
  pub kernel_bytes : kernel.bytes ≡ file
  pub kernel_place : kernel.mem ≡ at

-- the request is for an ELF executable: it says so, or leaves it to the file, which is no bzImage, has no Multiboot header,
-- and begins with the magic number of ELF
abbrev pub IsElf : Asked → Type 0
IsElf r =
    (r.image ≡ types.Elf)
    ⊎ ((r.image ≡ types.Auto) × (signature.is_bzimage r.kernel ≡ false)
    × (has_header (find_header r.kernel) ≡ false)
    × (starts_with nat_eq r.kernel magic ≡ true))

-- An ELF executable that is planned without a purgatory is loaded as its program headers say, and entered at its entry.
abbrev pub ElfIsLoaded : Type 0
ElfIsLoaded =
    (r : Asked) (map : Option MapValue) (p : Plan) → IsElf r → r.purgatory ≡ None
    → plan r map ≡ Ok p → StartsElf r.kernel p

-- A raw kernel that is planned without a purgatory lies where it was asked for.
abbrev pub RawIsLoaded : Type 0
RawIsLoaded =
    (r : Asked) (map : Option MapValue) (p : Plan) (at entry : ℕ) → r.image ≡ types.Raw at entry
    → r.purgatory ≡ None → plan r map ≡ Ok p → StartsRaw r.kernel at entry p
