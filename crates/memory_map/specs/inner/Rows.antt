-- Ranges of bytes, and what they say of single bytes and pages (this project's own). A page has 4,096 bytes.
-- No clause of `kexec` reaches what stands here: it serves laws, and contracts inside the crates.
use Rattle.std.specs.Prelude.{◌≡◌, ℕ, ◌<◌, ◌+◌, ◌≤◌, ◌^◌, Bool, List, [], ◌∷◌}
use Rattle.std.specs.List.{list_any, AllByRecursion}
use Rattle.memory_map.specs.declared.row.Row.{Row}
use Rattle.memory_map.specs.Rows.{row_end, is_inside}

-- byte b is in one of the rows
abbrev pub covers : ℕ → List Row → Bool
covers b rows = list_any (is_inside b) rows

-- no byte of the row is at 2^46 or above
pub record IsBelow (r : Row) : Type 0 where
  pub end : row_end r ≤ 2 ^ 46

abbrev pub AreBelow : List Row → Type 0
AreBelow rows = AllByRecursion IsBelow rows

-- the row has bytes
pub record HasBytes (r : Row) : Type 0 where
  pub some : 0 < r.size

abbrev pub HaveBytes : List Row → Type 0
HaveBytes rows = AllByRecursion HasBytes rows

-- rows of kind k that rise from byte b on: none is empty, no two meet or touch, and all lie below 2^46
abbrev pub AreParts : ℕ → ℕ → List Row → Type 0
AreParts k b [] = Unit {0}
AreParts k b (r ∷ rs) =
    (b ≤ r.start) × (0 < r.size) × (row_end r ≤ 2 ^ 46) × (r.kind ≡ k)
    × AreParts k (row_end r + 1) rs

-- each row starts at byte n or before it
abbrev pub StartUpTo : ℕ → List Row → Type 0
StartUpTo n [] = Unit {0}
StartUpTo n (r ∷ rs) = (r.start ≤ n) × StartUpTo n rs

-- the row ends at 2^46 or before, and its kind is one that a name can give
pub record IsListed (r : Row) : Type 0 where
  pub end : row_end r ≤ 2 ^ 46
  pub kind : r.kind ≤ 4

abbrev pub AreListed : List Row → Type 0
AreListed rows = AllByRecursion IsListed rows
