-- The file of a load record (this project's own): the head, and the segments one after another. In the second version
-- the SHA-256 (FIPS 180-4) of its bytes stands before the bytes of each segment; the first version has no digests.
-- No clause of `kexec` reaches what stands here: it serves laws, and contracts inside the crates.
use Rattle.std.specs.Prelude.{◌≡◌, ℕ, ◌^◌, ◌<◌, true, List, [], map, Option, Some, None, Result, Ok}
use Rattle.std.specs.List.{slice_get}
use Rattle.std.specs.Option.{option_map, option_or}
use Rattle.kx_laws.specs.Results.{◌>>=◌}
use Rattle.sha2.specs.Sha256.{sha256}
use Rattle.kx_pages.specs.declared.image.Mode.TheVariants.{Plain}
use Rattle.segments.specs.Values.{SegmentValue}
use Rattle.segments.specs.inner.Rules.{IsBare}
use Rattle.load_record.specs.declared.fault.RecFault.{RecFault}
use Rattle.load_record.specs.declared.version.Version.{Version}
use Rattle.load_record.specs.declared.version.Version.TheVariants.{First, Second}
use Rattle.load_record.specs.File.{Record, swap_address, FileSegment, read_segments, values, wrong_digest}

-- a crash record is plain, and its control page is page 0: a crash kernel's list is empty
abbrev pub IsWritable : Record → Type 0
IsWritable r = r.crash ≡ true → (r.image.mode ≡ Plain) × (r.image.control ≡ 0)

-- the pages of a record are such, and no rule refuses its segments
pub record HasPages (r : Record) : Type 0 where
  pub control : r.image.control < 2 ^ 34
  pub swap : swap_address r.image.mode < 2 ^ 46
  pub bare : IsBare r.segments

-- the digest of the bytes of each segment
abbrev pub digests_of : List SegmentValue → List (List ℕ)
digests_of ss = map (λ s. sha256 s.bytes) ss

-- the digest of the bytes of segment i, where there is one
abbrev pub digest_at : List SegmentValue → ℕ → Option (List ℕ)
digest_at ss i = option_map (λ (s : SegmentValue). sha256 s.bytes) (slice_get ss i)

-- the digest that is made of a segment's bytes when they are read, where their version has one
abbrev pub made_digest : Version → List ℕ → Option (List ℕ)
made_digest First bytes = None
made_digest Second bytes = Some (sha256 bytes)

-- those that are made of so many
abbrev pub made_digests : Version → List SegmentValue → List (List ℕ)
made_digests First ss = []
made_digests Second ss = digests_of ss

-- what a walk keeps of the segments from number k on: their values, and the least number of a wrong digest, which is
-- `before` where one of the segments before them has it
abbrev pub keep : Version → ℕ → Option ℕ → List FileSegment → List SegmentValue × Option ℕ
keep v k before fs = (values fs, option_or before (wrong_digest v k fs))

abbrev pub keep_segments : Version → ℕ → ℕ → Option ℕ → ℕ → List ℕ
    → Result (List SegmentValue × Option ℕ) RecFault
keep_segments v total k before n bytes = do
  fs ← read_segments v total n bytes
  Ok (keep v k before fs)
