-- The image of an executable: which bytes stand at which addresses (ELF gABI, chapter 5, Program Loading), and the
-- segments that hold them, one for each run of pages (this project's own). A page has 4,096 bytes.
use Rattle.std.specs.Prelude.{ℕ, zero, suc, ◌+◌, ◌-◌, ◌*◌, ◌^◌, ◌==◌, ◌&&◌, Bool, List, [], ◌∷◌, map, nat_lt, nat_le, slice_index, if◌then◌else◌, Result, Ok, Err}
use Rattle.std.specs.List.{list_any, range_with_len}
use Rattle.kx_pages.specs.Limits.{segment_page_limit}
use Rattle.kx_pages.specs.Ranges.{meets_page}
use Rattle.kx_pages.specs.Spans.{Run, passing}
use Rattle.segments.specs.Values.{SegmentValue}
use Rattle.elf_image.specs.declared.load.Load.{Load}
use Rattle.elf_image.specs.declared.fault.ElfFault.{ElfFault}
use Rattle.elf_image.specs.declared.fault.ElfFault.TheVariants as faults
use Rattle.elf_image.specs.Loads.{load_stop}

-- address a is in the file part of a load
abbrev pub is_file_of : ℕ → Load → Bool
is_file_of a l = nat_le l.paddr a && nat_lt a (l.paddr + l.filesz)

-- address a is in the file part of one of the loads
abbrev pub is_file : List Load → ℕ → Bool
is_file ls a = list_any (is_file_of a) ls

-- the byte at address a: the file's where a load's file part has it, else zero
abbrev pub byte_at : List ℕ → List Load → ℕ → ℕ
byte_at file [] a = 0
byte_at file (l ∷ ls) a =
    if is_file_of a l then slice_index file (l.offset + (a - l.paddr))
    else byte_at file ls a

-- a load meets page p: some byte of its memory is one of the page's
abbrev pub load_meets_page : ℕ → Load → Bool
load_meets_page p l = meets_page l.paddr (load_stop l) p

-- one of the loads meets page p
abbrev pub is_met : List Load → ℕ → Bool
is_met ls p = list_any (load_meets_page p) ls

-- p put before runs of numbers above it
abbrev pub with_number : ℕ → List Run → List Run
with_number p [] = record { first = p; count = 1 } ∷ []
with_number p (r ∷ rs) =
    if r.first == suc p then record { first = p; count = suc r.count } ∷ rs
    else record { first = p; count = 1 } ∷ r ∷ rs

-- the maximal runs of those of the n numbers from p on that pass, in rising order
unfoldable pub runs : (ℕ → Bool) → ℕ → ℕ → List Run
runs f p zero = []
runs f p (suc n) = if f p then with_number p (runs f (suc p) n) else runs f (suc p) n

-- one more than the greatest number below n that passes, or 0 where none passes
unfoldable pub up_to_last : (ℕ → Bool) → ℕ → ℕ
up_to_last f zero = 0
up_to_last f (suc n) = if f n then suc n else up_to_last f n

-- the bytes of n addresses from a on, up to the last that is a file's
abbrev pub bytes_of : List ℕ → List Load → ℕ → ℕ → List ℕ
bytes_of file ls a n =
    map (byte_at file ls) (range_with_len a (up_to_last (λ k. is_file ls (a + k)) n))

-- the segment of a run of pages
abbrev pub segment_of : List ℕ → List Load → Run → SegmentValue
segment_of file ls r = record {
  bytes = bytes_of file ls (4096 * r.first) (4096 * r.count);
  mem = 4096 * r.first;
  memsz = 4096 * r.count;
}

-- how many pages the loads meet
abbrev pub page_count : List Load → ℕ
page_count ls = passing (is_met ls) (2 ^ 34)

-- the segments of an image: the maximal runs of pages that loads meet, in rising order
abbrev pub segments_of : List ℕ → List Load → List SegmentValue
segments_of file ls = map (segment_of file ls) (runs (is_met ls) 0 (2 ^ 34))

-- the image of the loads of a file, which has no more pages than a load may have
unfoldable pub image : List ℕ → List Load → Result (List SegmentValue) ElfFault
image file ls =
    if nat_lt segment_page_limit (page_count ls) then Err (faults.TooLarge (page_count ls))
    else Ok (segments_of file ls)
