-- The segments of a new kernel, as kexec_load(2) takes them, the pages that they consist of, and what each is to have.
use Rattle.std.specs.Prelude.{ℕ, ◌+◌, ◌-◌, ◌*◌, ◌/◌, ◌&&◌, Bool, List, [], ◌∷◌, length, drop, Some, None, if◌then◌else◌, nat_le, nat_lt, unwrap_or}
use Rattle.std.specs.List.{list_any, flat_map, range_with_len}
use Rattle.kx_pages.specs.declared.image.Wish.{Wish}
use Rattle.kx_pages.specs.Needs.{need_of}
use Rattle.kx_pages.specs.Bytes.{Mem, Wants, page_of}

-- a segment: its bytes, the address that they go to, and how many bytes of memory it takes from there on
-- (`buf` and `bufsz`, `mem`, `memsz` of kexec_load(2)'s struct kexec_segment)
pub record SegmentValue : Type 0 where
  pub bytes : List ℕ
  pub mem : ℕ
  pub memsz : ℕ

-- the address behind a segment
abbrev pub stop : SegmentValue → ℕ
stop s = s.mem + s.memsz

-- page p is a page of the segment: its first byte is one of the segment's
abbrev pub is_page_of_segment : SegmentValue → ℕ → Bool
is_page_of_segment s p = nat_le s.mem (4096 * p) && nat_lt (4096 * p) (stop s)

-- page p is a page of the segments: a destination
abbrev pub is_destination : List SegmentValue → ℕ → Bool
is_destination ss p = list_any (λ s. is_page_of_segment s p) ss

-- the segment's bytes from page p on
abbrev pub bytes_from : SegmentValue → ℕ → List ℕ
bytes_from s p = drop (4096 * p - s.mem) s.bytes

-- what page p is to have: the segment's bytes from the page on, cut at or filled with zeros to a page. None where it
-- is no page of the segments.
abbrev pub want : List SegmentValue → Wants
want [] p = None
want (s ∷ ss) p = if is_page_of_segment s p then Some (page_of (bytes_from s p)) else want ss p

-- how many pages a segment has
abbrev pub page_count : SegmentValue → ℕ
page_count s = s.memsz / 4096

-- its pages, rising
abbrev pub pages_of_segment : SegmentValue → List ℕ
pages_of_segment s = range_with_len (s.mem / 4096) (page_count s)

-- all pages, in the order of the segments and rising in each
abbrev pub pages : List SegmentValue → List ℕ
pages ss = flat_map pages_of_segment ss

-- the memory that the new kernel is to find: each destination has what it is to have, and every other page is as in M
abbrev pub overlay : Mem → Wants → Mem
overlay M W p = unwrap_or (W p) (M p)

-- how many pool pages a load takes
abbrev pub need : Wish → List SegmentValue → ℕ
need wish ss = need_of wish (length ss) (length (pages ss))
