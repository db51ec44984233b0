-- The memory of the loads so far, as ranges of addresses (this project's own).
-- No clause of `kexec` reaches what stands here: it serves laws, and contracts inside the crates.
use Rattle.std.specs.Prelude.{◌≡◌, ◌&&◌, ◌||◌, Bool, List}
use Rattle.std.specs.List.{list_any}
use Rattle.range_index.specs.inner.Ranges.{Range}
use Rattle.elf_image.specs.declared.load.Load.{Load}
use Rattle.elf_image.specs.declared.loads.Loads.{Loads}
use Rattle.elf_image.specs.Loads.{load_stop, has_memory}

-- the load has memory, and its range passes a test
abbrev pub passes : (Range → Bool) → Load → Bool
passes test l = has_memory l && test (l.paddr, load_stop l)

-- the ranges are those of the loads that have memory: each test finds among them what it finds among the loads
pub record AreRanges (ls : List Load) (rs : List Range) : Type 0 where
  pub same : (test : Range → Bool) → list_any test rs ≡ list_any (passes test) ls

-- `new` has the ranges of `old`, and that of a load if it has memory
pub record HasMore (l : Load) (old new : List Range) : Type 0 where
  pub same : (test : Range → Bool) → list_any test new ≡ (list_any test old || passes test l)

pub record AreIndexed (r : Loads) : Type 0 where
  pub ranges : AreRanges r.list.items r.memory
