-- A load of segments while they are written (this project's own).
-- No clause of `kexec` reaches what stands here: it serves laws, and contracts inside the crates.
use Rattle.std.specs.Prelude.{◌≡◌, ℕ, ◌-◌, ◌≤◌, List, length, take, None, refl, if◌then◌else◌}
use Rattle.std.specs.Coded.{Coded, code_by, coded×, coded_ℕ, coded_list}
use Rattle.kx_pages.specs.Lists.{has}
use Rattle.kx_pages.specs.Spans.{in_spans}
use Rattle.kx_pages.specs.declared.image.Wish.{Wish}
use Rattle.kx_pages.specs.Bytes.{Mem}
use Rattle.kimage_list.specs.Load.{Entry}
use Rattle.kimage_list.specs.inner.Load.{pages_of}
use Rattle.kimage_list.specs.inner.Writers.{Writer, writer_code, StandsAt}
use Rattle.kimage_list.specs.inner.Writers as writers
use Rattle.segments.specs.Values.{SegmentValue, is_destination, want}
use Rattle.segments.specs.inner.Shape.{AreSegments}
use Rattle.load_states.specs.inner.States.{part_code}
use Rattle.load_states.specs.Loads.{entries_of}

-- What a clause sees of a load while its segments are written.
pub record Fill : Type 0 where
  pub writer : Writer
  pub segments : List SegmentValue
  pub written : ℕ  -- how many of them are written

abbrev pub fill_code : Coded Fill
fill_code =
    code_by (Writer × (List SegmentValue × ℕ))
    (coded× writer_code (coded× (coded_list part_code) coded_ℕ))
    (λ f. (f.writer, (f.segments, f.written)))
    (λ p. record { writer = p.0; segments = p.1.0; written = p.1.1 }) (λ _. refl)

-- how many segments are not yet written
abbrev pub left : Fill → ℕ
left f = length f.segments - f.written

-- The writer stands behind these entries of a load of the segments, which began with memory M and a pool of these usable
-- pages, and each destination so far was given what it is to have.
pub record Fills (M : Mem) (pool : List ℕ) (wish : Wish) (ss : List SegmentValue) (es : List Entry)
    (w : Writer) : Type 0 where
  pub load : writers.History
  pub stands : StandsAt load w
  pub from_memory : load.before ≡ M
  pub from_pool : load.pool ≡ pool
  pub as_wished : load.wish ≡ wish
  pub all_segments : load.segments ≡ length ss
  pub all_pages : (q : ℕ) → in_spans load.wanted q ≡ is_destination ss q
  pub entries : load.entries ≡ es
  pub bytes : (q : ℕ) → load.bytes q ≡ if has q (pages_of es) then want ss q else None

-- So many segments of the load are written, whole, and no other.
pub record FillsFrom (M : Mem) (pool : List ℕ) (wish : Wish) (f : Fill) : Type 0 where
  pub good : AreSegments f.segments
  pub within : f.written ≤ length f.segments
  pub fills : Fills M pool wish f.segments (entries_of (take f.written f.segments)) f.writer
