-- What ties the test of regions to what was digested (this project's own).
-- No clause of `kexec` reaches what stands here: it serves laws, and contracts inside the crates.
use Rattle.std.specs.Prelude.{◌≡◌, ℕ, ◌+◌, ◌-◌, ◌≤◌, ◌⊎◌, ◌^◌, List, Some, length, slice_get}
use Rattle.kx_pages.specs.Lists.{Has}
use Rattle.kx_fields.specs.Fields.{bytes_at, with_bytes}
use Rattle.kx_pages.specs.Bytes.{Mem}
use Rattle.segments.specs.Values.{SegmentValue, want, pages}
use Rattle.purgatory_link.specs.Regions.{others, region_table}
use Rattle.purgatory_link.specs.Regions as regions
use Rattle.page_memory.specs.Addresses.{bytes_in}

-- memory holds what was digested of the segments but number g: each of their pages is what is wanted of it, and their
-- table and their digest stand at the addresses r and t, below 2 ^ 46
pub record HoldsDigested (M : Mem) (ss : List SegmentValue) (g r t : ℕ) : Type 0 where
  pub each_page : (p : ℕ) → Has p (pages (others ss g)) → want ss p ≡ Some (M p)
  pub table_stands : bytes_in M r 256 ≡ region_table (others ss g)
  pub digest_stands : bytes_in M t 32 ≡ regions.digest ss g
  pub table_inside : r + 256 ≤ 2 ^ 46
  pub digest_inside : t + 32 ≤ 2 ^ 46

-- memory has what is wanted of each page of the segments
abbrev pub HasWanted : Mem → List SegmentValue → Type 0
HasWanted M ss = (p : ℕ) → Has p (pages ss) → want ss p ≡ Some (M p)

-- among the bytes of s, which is segment number g, stand the table of the others, for the address r, and their digest,
-- for the address t
pub record HasRegions (ss : List SegmentValue) (g : ℕ) (s : SegmentValue) (r t : ℕ) : Type 0 where
  pub segment : slice_get ss g ≡ Some s
  pub table : bytes_at (r - s.mem) 256 s.bytes ≡ region_table (others ss g)
  pub digest : bytes_at (t - s.mem) 32 s.bytes ≡ regions.digest ss g
  pub table_low : s.mem ≤ r
  pub table_high : r + 256 ≤ s.mem + length s.bytes
  pub digest_low : s.mem ≤ t
  pub digest_high : t + 32 ≤ s.mem + length s.bytes

-- the table has room among the bytes of s, for the address r, and the digest for the address t, and they are apart
pub record HasPlaces (s : SegmentValue) (r t : ℕ) : Type 0 where
  pub table_low : s.mem ≤ r
  pub table_high : r + 256 ≤ s.mem + length s.bytes
  pub digest_low : s.mem ≤ t
  pub digest_high : t + 32 ≤ s.mem + length s.bytes
  pub apart : (r + 256 ≤ t) ⊎ (t + 32 ≤ r)

-- s, which is segment number g, with the table and the digest of the others among its bytes
abbrev pub with_regions : List SegmentValue → ℕ → SegmentValue → ℕ → ℕ → SegmentValue
with_regions ss g s r t = record {
  bytes =
      with_bytes (t - s.mem) (regions.digest ss g)
      (with_bytes (r - s.mem) (region_table (others ss g)) s.bytes);
  mem = s.mem;
  memsz = s.memsz;
}
