-- The rules that segments have to meet: those of kexec_load(2) and of the kernel's kexec core (sanity_check_segment_list),
-- and two of this project's own. Each rule is tested over all segments before the next one. The first refusal is
-- answered, with the least segment and then the least earlier one.
use Rattle.std.specs.Prelude.{ℕ, ◌*◌, ◌/◌, ◌%◌, ◌^◌, ◌&&◌, ◌||◌, ◌==◌, not, Bool, List, [], ◌∷◌, ◌++◌, length, Option, Some, None, if◌then◌else◌, nat_le, nat_lt}
use Rattle.std.specs.Option.{option_map, option_or}
use Rattle.std.specs.List.{position, list_any, list_all}
use Rattle.kx_pages.specs.Limits.{segment_limit, segment_page_limit}
use Rattle.kx_pages.specs.Spans.{Run, in_spans, end}
use Rattle.kx_pages.specs.Spans as spans
use Rattle.segments.specs.declared.fault.SegFault.{SegFault}
use Rattle.segments.specs.declared.fault.SegFault.TheVariants as faults
use Rattle.segments.specs.declared.fault.Kind.{Kind}
use Rattle.segments.specs.declared.fault.Kind.TheVariants.{Normal, Crash}
use Rattle.segments.specs.Values.{SegmentValue, stop, page_count, pages_of_segment, pages}

-- this fault where the test holds
abbrev pub where_true : Bool → SegFault → Option SegFault
where_true test fault = if test then Some fault else None

-- the fault of the first segment that the test holds of
abbrev pub at_first : (SegmentValue → Bool) → (ℕ → SegFault) → List SegmentValue → Option SegFault
at_first test fault ss = option_map fault (position test ss)

-- the first of some refusals
abbrev pub first_of : List (Option SegFault) → Option SegFault
first_of [] = None
first_of (r ∷ rs) = option_or r (first_of rs)

-- no segments: kexec_load(2) then unloads, and there is nothing to load
abbrev pub no_segments : List SegmentValue → Option SegFault
no_segments ss = where_true (length ss == 0) faults.NoSegments

-- more than KEXEC_SEGMENT_MAX segments
abbrev pub too_many : List SegmentValue → Option SegFault
too_many ss = where_true (nat_lt segment_limit (length ss)) faults.TooMany

abbrev pub bad_count : List SegmentValue → Option SegFault
bad_count ss = first_of (no_segments ss ∷ too_many ss ∷ [])

-- the memory does not begin and end at a page, or does not end below 2 ^ 46 (so neither does it below 2 ^ 64)
abbrev pub is_bad_address : SegmentValue → Bool
is_bad_address s = not (s.mem % 4096 == 0) || not (stop s % 4096 == 0) || nat_le (2 ^ 46) (stop s)

abbrev pub bad_address : List SegmentValue → Option SegFault
bad_address ss = at_first is_bad_address faults.BadAddress ss

-- the test of the kexec core: s ends behind r's start and starts before r's end
abbrev pub overlap_each_other : SegmentValue → SegmentValue → Bool
overlap_each_other s r = nat_lt r.mem (stop s) && nat_lt s.mem (stop r)

-- the first segment that overlaps an earlier one, and the first of these, where `earlier` stand before `ss`
abbrev pub overlap_after : List SegmentValue → List SegmentValue → Option SegFault
overlap_after earlier [] = None
overlap_after earlier (s ∷ ss) =
    option_or (at_first (overlap_each_other s) (faults.Overlap (length earlier)) earlier)
    (overlap_after (earlier ++ s ∷ []) ss)

abbrev pub overlap : List SegmentValue → Option SegFault
overlap ss = overlap_after [] ss

-- more bytes than memory
abbrev pub is_too_full : SegmentValue → Bool
is_too_full s = nat_lt s.memsz (length s.bytes)

abbrev pub too_full : List SegmentValue → Option SegFault
too_full ss = at_first is_too_full faults.TooFull ss

-- a segment, or all together, takes more than half of the pages of memory
abbrev pub half_of_memory : List Run → List SegmentValue → Option SegFault
half_of_memory ram ss =
    where_true
    (list_any (λ s. nat_lt (spans.pages ram / 2) (page_count s)) ss
    || nat_lt (spans.pages ram / 2) (length (pages ss))) faults.HalfOfMemory

-- a segment of a crash kernel leaves the reserved area
abbrev pub leaves : Run → SegmentValue → Bool
leaves area s = nat_lt s.mem (4096 * area.first) || nat_lt (4096 * end area) (stop s)

abbrev pub outside_reserved : Kind → List SegmentValue → Option SegFault
outside_reserved Normal ss = None
outside_reserved (Crash area) ss = at_first (leaves area) faults.OutsideReserved ss

-- this project's own: a page of a segment of a normal kernel is no page of memory
abbrev pub is_not_ram : List Run → SegmentValue → Bool
is_not_ram ram s = not (list_all (in_spans ram) (pages_of_segment s))

abbrev pub not_ram : List Run → Kind → List SegmentValue → Option SegFault
not_ram ram Normal ss = at_first (is_not_ram ram) faults.NotRam ss
not_ram ram (Crash area) ss = None

abbrev pub misplaced : List Run → Kind → List SegmentValue → Option SegFault
misplaced ram kind ss = first_of (outside_reserved kind ss ∷ not_ram ram kind ss ∷ [])

-- this project's own: more than 65,536 pages (256 MiB) in all
abbrev pub too_large : List SegmentValue → Option SegFault
too_large ss =
    where_true (nat_lt segment_page_limit (length (pages ss))) (faults.TooLarge (length (pages ss)))

-- the rules of the list's shape
unfoldable pub shape_refusal : List SegmentValue → Option SegFault
shape_refusal ss = first_of (bad_count ss ∷ bad_address ss ∷ overlap ss ∷ too_full ss ∷ [])

-- the rules where nothing is known of memory
unfoldable pub bare_refusal : List SegmentValue → Option SegFault
bare_refusal ss = first_of (shape_refusal ss ∷ too_large ss ∷ [])

-- all rules
unfoldable pub refusal : List Run → Kind → List SegmentValue → Option SegFault
refusal ram kind ss =
    first_of (shape_refusal ss ∷ half_of_memory ram ss ∷ misplaced ram kind ss ∷ too_large ss ∷ [])
