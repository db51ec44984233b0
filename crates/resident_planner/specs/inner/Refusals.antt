-- Why no list is made that takes resident pages as sources, the first reason in its order (this
-- project's own). A pair is a destination and the page that holds what it is to have.
-- No clause of `kexec` reaches what stands here: it serves laws, and contracts inside the crates.
use Rattle.std.specs.Prelude.{◌≡◌, ◌⊎◌, ℕ, ◌<◌, List}
use Rattle.std.specs.Ordering.{nat_cmp}
use Rattle.std.specs.BTreeMap as tree
use Rattle.std.specs.BTreeSet.{contains}
use Rattle.kx_pages.specs.Bytes.{Mem}
use Rattle.kx_pages.specs.Lists.{has, sources}
use Rattle.segments.specs.Values.{SegmentValue}
use Rattle.resident_planner.specs.declared.fault.ResidentFault.{ResidentFault}
use Rattle.resident_planner.specs.declared.fault.ResidentFault.TheVariants as faults
use Rattle.resident_planner.specs.declared.residents.Residents.{Residents}
use Rattle.resident_planner.specs.Refusals.{resident_of, IsFault}

-- the map and the set have what these pairs tell
pub record Shows (r : Residents) (rs : List (ℕ × ℕ)) : Type 0 where
  pub pages : (d : ℕ) → tree.get nat_cmp r.pages d ≡ resident_of rs d
  pub sources_are : (p : ℕ) → contains nat_cmp r.sources p ≡ has p (sources rs)

-- there are fewer pages than are needed, and the fault tells so
pub record IsShort (left need : ℕ) (e : ResidentFault) : Type 0 where
  pub fewer : left < need
  pub told : e ≡ faults.NoPages left need

-- this is the first fault, or memory ran out
abbrev pub IsRefusal : Mem → List SegmentValue → List ℕ → List (ℕ × ℕ) → ResidentFault → Type 0
IsRefusal M S pool rs e = (e ≡ faults.Memory) ⊎ IsFault M S pool rs e
