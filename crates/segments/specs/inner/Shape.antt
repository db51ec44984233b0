-- What segments are that no rule refuses (this project's own).
-- No clause of `kexec` reaches what stands here: it serves laws, and contracts inside the crates.
use Rattle.std.specs.Prelude.{◌≡◌, ◌+◌, ◌%◌, ◌^◌, ◌<◌, ◌≤◌, List, [], ◌∷◌, length, false}
use Rattle.std.specs.List.{AllByRecursion}
use Rattle.kx_pages.specs.Limits.{segment_limit, segment_page_limit}
use Rattle.segments.specs.Values.{SegmentValue, pages}
use Rattle.segments.specs.Rules.{overlap_each_other}

-- a segment of whole pages below 2 ^ 46
pub record IsPlaced (s : SegmentValue) : Type 0 where
  pub starts : s.mem % 4096 ≡ 0
  pub whole : s.memsz % 4096 ≡ 0
  pub below : s.mem + s.memsz < 2 ^ 46

-- no two overlap
abbrev pub Apart : List SegmentValue → Type 0
Apart [] = Unit {0}
Apart (s ∷ ss) = AllByRecursion (λ r. overlap_each_other r s ≡ false) ss × Apart ss

-- what the rules leave
pub record AreSegments (ss : List SegmentValue) : Type 0 where
  pub some : 0 < length ss
  pub few : length ss ≤ segment_limit
  pub placed : AllByRecursion IsPlaced ss
  pub apart : Apart ss
  pub fit : AllByRecursion (λ s. length s.bytes ≤ s.memsz) ss
  pub small : length (pages ss) ≤ segment_page_limit
