-- What the named lines of a memory map say: rows (with the E820 types of the Linux/x86 boot protocol), crash areas, and
-- the RAM outside of them (this project's own).
-- No clause of `kexec` reaches what stands here: it serves laws, and contracts inside the crates.
use Rattle.std.specs.Prelude.{◌≡◌, ℕ, Bool, false, List, Option, Some, None}
use Rattle.kx_pages.specs.Spans.{Run, in_span, in_spans}
use Rattle.memory_map.specs.declared.row.Row.{Row}
use Rattle.memory_map.specs.inner.Rows.{AreBelow}
use Rattle.memory_map.specs.Maps.{MapValue, is_ram, crash_rows, core_ranges}

-- page p is one of the span's, if there is a span
abbrev pub has_page : Option Run → ℕ → Bool
has_page None p = false
has_page (Some s) p = in_span s p

-- what each map keeps beside the rows and the areas: the pages that are RAM, and two more lists of rows
pub record IsMap (m : MapValue) (ram : List Run) (crash core : List Row) : Type 0 where
  pub rows_below : AreBelow m.rows
  pub areas_below : AreBelow m.areas
  pub crash_below : AreBelow crash
  pub core_below : AreBelow core
  pub ram_is : (p : ℕ) → in_spans ram p ≡ is_ram m p
  pub crash_is : crash ≡ crash_rows m
  pub core_is : core ≡ core_ranges m
