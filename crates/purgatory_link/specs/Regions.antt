-- The regions that a purgatory tests, and their digest (this project's own). SHA-256 is that of FIPS 180-4.
use Rattle.std.specs.Prelude.{ℕ, ◌+◌, ◌-◌, ◌*◌, List, [], ◌++◌, length, take, drop, unwrap_or}
use Rattle.std.specs.List.{flat_map}
use Rattle.byteorder.specs.Endian.{little_bytes}
use Rattle.sha2.specs.Sha256.{sha256}
use Rattle.kx_fields.specs.Fields.{zeros}
use Rattle.kx_pages.specs.Bytes.{Wants}
use Rattle.segments.specs.Values.{SegmentValue, want, pages}

-- the segments but number g, in order
abbrev pub others : List SegmentValue → ℕ → List SegmentValue
others ss g = take g ss ++ drop (g + 1) ss

-- what is wanted of these pages, page after page
unfoldable pub wanted_bytes : Wants → List ℕ → List ℕ
wanted_bytes W ps = flat_map (λ p. unwrap_or (W p) []) ps

-- the digest: that of what is wanted of every page of the segments but number g, in order
unfoldable pub digest : List SegmentValue → ℕ → List ℕ
digest ss g = sha256 (wanted_bytes (want ss) (pages (others ss g)))

-- a row of the table of regions: a segment's address and how many bytes of memory it takes
abbrev pub row : SegmentValue → List ℕ
row s = little_bytes 8 s.mem ++ little_bytes 8 s.memsz

-- the table of these segments: a row each, then zeros, 256 bytes
unfoldable pub region_table : List SegmentValue → List ℕ
region_table ss = flat_map row ss ++ zeros (256 - 16 * length ss)
