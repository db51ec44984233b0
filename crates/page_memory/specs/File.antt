-- The memory file, this project's own: the magic, the count, and the pages in rising order, none of them all zeros.
use Rattle.std.specs.Prelude.{ℕ, zero, suc, ◌+◌, ◌^◌, ◌++◌, Bool, not, List, length, take, drop, filter, nat_lt, nat_le, nat_eq, ◌==◌, if◌then◌else◌, Result, Ok, Err, codes}
use Rattle.std.specs.List.{flat_map, list_all, starts_with}
use Rattle.std.specs.Ordering.{nat_cmp}
use Rattle.std.specs.FinMap as finite
use Rattle.byteorder.specs.Endian.{little_bytes}
use Rattle.kx_fields.specs.Fields.{field}
use Rattle.kx_laws.specs.Results.{◌>>=◌}
use Rattle.page_memory.specs.declared.fault.MemFault.{MemFault}
use Rattle.page_memory.specs.declared.fault.MemFault.TheVariants as faults
use Rattle.page_memory.specs.Contents.{Contents}

-- how many pages a file may have
abbrev pub file_page_limit : ℕ
file_page_limit = 131072

abbrev pub magic : List ℕ
magic = codes "KXMEM001"

abbrev pub is_all_zeros : List ℕ → Bool
is_all_zeros bytes = list_all (λ b. b == 0) bytes

abbrev pub is_stored : ℕ × List ℕ → Bool
is_stored e = not (is_all_zeros e.1)

-- the pages that a file has
abbrev pub stored_pages : Contents → List (ℕ × List ℕ)
stored_pages m = filter is_stored (finite.entries m.pages)

abbrev pub page_text : ℕ × List ℕ → List ℕ
page_text e = little_bytes 8 e.0 ++ e.1

-- the file of these pages
unfoldable pub text_of : List (ℕ × List ℕ) → List ℕ
text_of es = magic ++ (little_bytes 8 (length es) ++ flat_map page_text es)

-- the file of a memory
abbrev pub file : Contents → List ℕ
file m = text_of (stored_pages m)

-- a page's number and bytes, and what stands after it, or the first fault. `low` is the least number that rises.
unfoldable pub entry_at : ℕ → ℕ → ℕ → List ℕ → Result (ℕ × List ℕ × List ℕ) MemFault
entry_at total place low bytes =
    if nat_lt (length bytes) 4104 then Err (faults.Truncated total)
    else if nat_le (2 ^ 34) (field 0 8 bytes) then Err (faults.PastLimit place)
    else if nat_lt (field 0 8 bytes) low then Err (faults.NotRising place)
    else if is_all_zeros (take 4096 (drop 8 bytes)) then Err (faults.ZeroPage place)
    else Ok (field 0 8 bytes, take 4096 (drop 8 bytes), drop 4096 (drop 8 bytes))

-- n pages from this place on, added to those before, and then nothing
unfoldable pub pages_onto : ℕ → ℕ → ℕ → finite.FinMap nat_cmp (List ℕ) → ℕ → List ℕ
    → Result (finite.FinMap nat_cmp (List ℕ)) MemFault
pages_onto total place low m zero bytes =
    if length bytes == 0 then Ok m
    else Err (faults.Trailing place)
pages_onto total place low m (suc n) bytes = do
  e ← entry_at total place low bytes
  pages_onto total (place + 4104) (e.0 + 1) (finite.insert m e.0 e.1) n e.2

-- so many pages behind the head of a file
abbrev pub pages_from : ℕ → List ℕ → Result (finite.FinMap nat_cmp (List ℕ)) MemFault
pages_from n bytes = pages_onto (length bytes) 16 0 finite.empty n (drop 8 (drop 8 bytes))

-- the pages of a file, or its first fault
unfoldable pub read_pages : List ℕ → Result (finite.FinMap nat_cmp (List ℕ)) MemFault
read_pages bytes =
    if not (starts_with nat_eq bytes magic) then Err faults.BadMagic
    else if nat_lt (length bytes) 16 then Err (faults.Truncated (length bytes))
    else if nat_lt file_page_limit (field 8 8 bytes) then Err (faults.TooMany (field 8 8 bytes))
    else pages_from (field 8 8 bytes) bytes

-- what a file reads as
abbrev pub reading : List ℕ → Result Contents MemFault
reading bytes = read_pages bytes >>= λ m. Ok (record { pages = m; sets = 0 })
