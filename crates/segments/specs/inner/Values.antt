-- The segments of a new kernel, as kexec_load(2) takes them, the pages that they consist of, and what each is to have.
-- No clause of `kexec` reaches what stands here: it serves laws, and contracts inside the crates.
use Rattle.std.specs.Prelude.{◌≡◌, ℕ, ◌/◌, List, [], ◌∷◌, length, take, Some, None, if◌then◌else◌, slice_get, slice_set}
use Rattle.kx_pages.specs.Spans.{Run}
use Rattle.kx_pages.specs.Bytes.{Wants}
use Rattle.segments.specs.Values.{SegmentValue, is_page_of_segment, bytes_from, page_count}

-- the bytes that page p is to have, before the zeros
abbrev pub wanted : List SegmentValue → Wants
wanted [] p = None
wanted (s ∷ ss) p =
    if is_page_of_segment s p then Some (take 4096 (bytes_from s p))
    else wanted ss p

-- the pages of a segment, as one span
abbrev pub span_of : SegmentValue → Run
span_of s = record { first = s.mem / 4096; count = page_count s }

-- the bytes are as many as those of segment i
abbrev pub IsAsLong : List SegmentValue → ℕ → List ℕ → Type 0
IsAsLong ss i bytes = (s : SegmentValue) → slice_get ss i ≡ Some s → length bytes ≡ length s.bytes

-- the bytes of segment i became these, and all else is as before
abbrev pub IsReplaced : List SegmentValue → List SegmentValue → ℕ → List ℕ → Type 0
IsReplaced old new i bytes =
    (s : SegmentValue) → slice_get old i ≡ Some s
    → new ≡ slice_set old i (record s { bytes = bytes })
