-- The layout of the linked bytes: the loaded sections one after another, in the order of their indexes (ELF gABI,
-- "Sections": sh_flags, sh_addralign, sh_type; this project's own, as the gABI leaves the order to the linker).
use Rattle.std.specs.Prelude.{ℕ, ◌+◌, ◌-◌, ◌%◌, ◌^◌, ◌==◌, ◌&&◌, ◌||◌, not, Bool, false, List, [], ◌∷◌, ◌++◌, length, replicate, position, nat_lt, min, max, Option, Some, None, Result, Ok, Err, if◌then◌else◌}
use Rattle.std.specs.List.{slice_get}
use Rattle.elf_image.specs.Numbers.{sht_null, sht_nobits, sht_rel}
use Rattle.kx_fields.specs.Fields.{bytes_at}
use Rattle.kx_pages.specs.Ranges.{whole_pages}
use Rattle.elf_image.specs.declared.section.Section.{Section}
use Rattle.purgatory_link.specs.declared.fault.LinkFault.{LinkFault}
use Rattle.purgatory_link.specs.declared.fault.LinkFault.TheVariants as faults
use Rattle.kx_laws.specs.Results.{◌>>=◌, unless_at}

-- a section with SHF_ALLOC and another type than SHT_NULL
abbrev pub is_loaded : Section → Bool
is_loaded s = s.alloc && not (s.kind == sht_null)

-- a section's alignment: 0 counts as 1
abbrev pub alignment : Section → ℕ
alignment s = max s.align 1

-- how many bytes stand between place n and the next multiple of the section's alignment
unfoldable pub padding : Section → ℕ → ℕ
padding s n = (alignment s - n % alignment s) % alignment s

-- where a section starts behind the first n bytes, if it is loaded
abbrev pub start_behind : ℕ → Section → Option ℕ
start_behind n s = if is_loaded s then Some (n + padding s n) else None

-- and where it ends
abbrev pub end_behind : ℕ → Section → ℕ
end_behind n s = if is_loaded s then n + padding s n + s.size else n

-- where each of the sections starts, and where the last one ends
unfoldable pub starts : ℕ → List Section → List (Option ℕ)
starts n [] = []
starts n (s ∷ ss) = start_behind n s ∷ starts (end_behind n s) ss

unfoldable pub end : ℕ → List Section → ℕ
end n [] = n
end n (s ∷ ss) = end (end_behind n s) ss

-- the bytes of a section: zeros where it is NOBITS
abbrev pub contents : List ℕ → Section → List ℕ
contents file s = if s.kind == sht_nobits then replicate s.size 0 else bytes_at s.offset s.size file

-- the bytes of the loaded sections, zeros between them
abbrev pub laid_behind : List ℕ → ℕ → Section → List ℕ
laid_behind file n s = if is_loaded s then replicate (padding s n) 0 ++ contents file s else []

unfoldable pub lay : List ℕ → ℕ → List Section → List ℕ
lay file n [] = []
lay file n (s ∷ ss) = laid_behind file n s ++ lay file (end_behind n s) ss

-- with zeros behind them, n bytes
abbrev pub fill_up : ℕ → List ℕ → List ℕ
fill_up n bytes = bytes ++ replicate (n - length bytes) 0

-- whole pages, at least one
abbrev pub in_pages : ℕ → ℕ
in_pages n = max 4096 (whole_pages n)

-- an alignment is 0 or a power of two up to 4,096: these are the numbers that divide it
abbrev pub is_align : ℕ → Bool
is_align a = (a == 0) || (4096 % a == 0)

abbrev pub has_bad_align : Section → Bool
has_bad_align s = is_loaded s && not (is_align s.align)

-- the section of this index is there and loaded
abbrev pub is_loaded_one : Option Section → Bool
is_loaded_one None = false
is_loaded_one (Some s) = is_loaded s

abbrev pub is_loaded_at : List Section → ℕ → Bool
is_loaded_at ss i = is_loaded_one (slice_get ss i)

-- relocations without addends (SHT_REL) of a loaded section
abbrev pub is_rel : List Section → Section → Bool
is_rel ss s = (s.kind == sht_rel) && is_loaded_at ss s.target

-- how many bytes may be linked: 16 MiB
abbrev pub linked_limit : ℕ
linked_limit = 16777216

-- the number of linked bytes before they are filled up to pages. One that passes 64 bits is told as
-- their greatest number.
abbrev pub size_of_end : ℕ → Result ℕ LinkFault
size_of_end n =
    if nat_lt linked_limit n then Err (faults.TooLarge (min n (2 ^ 64 - 1)))
    else Ok (in_pages n)

-- the number of linked bytes, or the least loaded section whose alignment is none
unfoldable pub linked_size : List Section → Result ℕ LinkFault
linked_size ss = do
  _ ← unless_at faults.BadAlign (position has_bad_align ss)
  size_of_end (end 0 ss)
