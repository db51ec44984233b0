-- What is known of the memory that a kernel is loaded into (this project's own).
use Rattle.std.specs.Prelude.{ℕ, ◌-◌, ◌^◌, Bool, false, List, [], if◌then◌else◌}
use Rattle.kx_pages.specs.Spans.{Run, in_span}
use Rattle.memory_map.specs.declared.row.Row.{Row}
use Rattle.memory_map.specs.Maps.{MapValue, is_ram, crash_rows}

-- nothing is known of memory; a machine's memory map; the area of this map that is reserved for a crash kernel
pub data Ground : Type 0 where
  Unknown : Ground
  Machine : MapValue → Ground
  Reserved : MapValue → Run → Ground

-- the pages where parts may lie
unfoldable pub ram : Ground → ℕ → Bool
ram Unknown q = false
ram (Machine map) q = is_ram map q
ram (Reserved map area) q = in_span area q

-- the rows of the memory map for the kernel
abbrev pub rows : Ground → List Row
rows Unknown = []
rows (Machine map) = map.rows
rows (Reserved map area) = crash_rows map

-- the greatest address of a purgatory's last byte
abbrev pub most : Ground → Bool → ℕ
most Unknown above4g = 2 ^ 31 - 1
most (Machine map) above4g = 2 ^ 31 - 1
most (Reserved map area) above4g = if above4g then 2 ^ 46 - 4097 else 2 ^ 32 - 1
