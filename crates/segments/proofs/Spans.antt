-- The segment whose pages a run is.
use Rattle.std.specs.Prelude.{◌≡◌, ℕ, List, Option, Some, None, refl, slice_get}
use Rattle.std.specs.Option.{option_map}
use Rattle.std.proofs.Common.{ap, sym, ◌∙◌}
use Rattle.kx_laws.proofs.Options.{none_some, some_same}
use Rattle.kx_pages.specs.Spans.{Run}
use Rattle.segments.specs.Values.{SegmentValue}
use Rattle.segments.specs.inner.Values.{span_of}

-- the segment whose pages this run is
pub segment_with_span : (ss : List SegmentValue) (i : ℕ) (run : Run) → option_map span_of (slice_get ss i) ≡ Some run → (s : SegmentValue) × (slice_get ss i ≡ Some s) × (span_of s ≡ run)
segment_with_span ss i run e = go (slice_get ss i) refl
  where
    go : (o : Option SegmentValue) → slice_get ss i ≡ o → (s : SegmentValue) × (slice_get ss i ≡ Some s) × (span_of s ≡ run)
    go None h = absurd (none_some None run refl (sym (ap (option_map span_of) h) ∙ e))
    go (Some s) h = (s, h, some_same (span_of s) run (sym (ap (option_map span_of) h) ∙ e))
