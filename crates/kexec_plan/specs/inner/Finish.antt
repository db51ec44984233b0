-- The end of every plan: the purgatory is linked, the segments are tested, and the purgatory gets what it is to find (this
-- project's own).
-- No clause of `kexec` reaches what stands here: it serves laws, and contracts inside the crates.
use Rattle.std.specs.Prelude.{◌≡◌, ℕ, List, Some}
use Rattle.std.specs.List.{slice_get}
use Rattle.kx_pages.specs.declared.image.Start.{Start}
use Rattle.segments.specs.Values.{SegmentValue}
use Rattle.kexec_plan.specs.declared.symbols.Symbols.{Symbols}
use Rattle.kexec_plan.specs.Finish.{armed_among}

-- segment number g of these has this property
abbrev pub OfSegment : List SegmentValue → ℕ → (SegmentValue → Type 0) → Type 0
OfSegment ss g P = (s : SegmentValue) → slice_get ss g ≡ Some s → P s

abbrev pub armed_of : List SegmentValue → ℕ → ℕ → Symbols → Start → SegmentValue → List ℕ
armed_of ss g base symbols start s =
    armed_among ss g (record { base = base; bytes = s.bytes; symbols = symbols }) start
