-- The memory map in the information of a Multiboot kernel, and what it tells of lower and upper memory (Multiboot
-- Specification 0.6.96, section 3.3, mmap_addr, mem_lower and mem_upper; which rows count for the last two is this
-- project's own).
use Rattle.std.specs.Prelude.{ℕ, ◌-◌, ◌/◌, ◌^◌, ◌==◌, ◌&&◌, Bool, List, [], ◌∷◌, min, nat_lt, Option, Some, None}
use Rattle.std.specs.List.{find, flat_map}
use Rattle.kx_fields.specs.Fields.{zeros}
use Rattle.kx_fields.specs.Formats.{Format, written}
use Rattle.memory_map.specs.declared.row.Row.{Row}
use Rattle.memory_map.specs.Rows.{row_end, is_inside}
use Rattle.multiboot_image.specs.declared.map_rows.MapRow.{MapRow}

abbrev pub map_row : Format MapRow
map_row = record {
  layout = λ at. record { size = at 0 4; base_addr = at 4 8; length = at 12 8; kind = at 20 4 };
  numbers = λ r. r.size ∷ r.base_addr ∷ r.length ∷ r.kind ∷ [];
}

unfoldable pub row_text : MapRow → List ℕ
row_text r = written map_row r (zeros 24)

-- RAM that begins below 1 MiB, and RAM that holds the byte at 1 MiB
abbrev pub is_low : Row → Bool
is_low r = (r.kind == 1) && nat_lt r.start (2 ^ 20)

abbrev pub is_high : Row → Bool
is_high r = (r.kind == 1) && is_inside (2 ^ 20) r

-- how many KiB a row reaches above base, at most so many
abbrev pub kib : Row → ℕ → ℕ → ℕ
kib r base most = min ((row_end r - base) / 1024) most

abbrev pub kib_of : Option Row → ℕ → ℕ → ℕ
kib_of (Some r) base most = kib r base most
kib_of None base most = 0

-- lower memory ends with the first row that begins below 1 MiB, and upper memory with the first that holds the byte there
unfoldable pub mem_lower : List Row → ℕ
mem_lower rows = kib_of (find is_low rows) 0 640

unfoldable pub mem_upper : List Row → ℕ
mem_upper rows = kib_of (find is_high rows) (2 ^ 20) (2 ^ 32 - 1)

-- a row of the map, whose size does not count itself
abbrev pub map_row_of : Row → MapRow
map_row_of r = record { size = 20; base_addr = r.start; length = r.size; kind = r.kind }

abbrev pub map_text : List Row → List ℕ
map_text rows = flat_map (λ r. row_text (map_row_of r)) rows
