-- What the named lines of a memory map say: rows (with the E820 types of the Linux/x86 boot protocol), crash areas, and
-- the RAM outside of them (this project's own).
use Rattle.std.specs.Prelude.{ℕ, ◌-◌, ◌*◌, ◌/◌, ◌^◌, ◌++◌, ◌==◌, ◌&&◌, ◌||◌, not, Bool, List, [], ◌∷◌, length, nat_lt, min, max, filter, if◌then◌else◌, Option, Some, None, option_and_then}
use Rattle.std.specs.List.{list_any, flat_map, slice_get}
use Rattle.kx_pages.specs.Ranges.{pages_for}
use Rattle.kx_pages.specs.Spans.{Run, passing}
use Rattle.memory_map.specs.declared.row.Row.{Row}
use Rattle.memory_map.specs.Rows.{row_end, holds_page, meets_page, is_ram_row}

-- the rows (kinds 1 to 4) and the crash areas, both in the text's order
pub record MapValue : Type 0 where
  pub rows : List Row
  pub areas : List Row

-- no row and no area
abbrev pub nothing : MapValue
nothing = record { rows = []; areas = [] }

-- one more row
abbrev pub with_row : Row → MapValue → MapValue
with_row r m = record { rows = m.rows ++ r ∷ []; areas = m.areas }

-- one more crash area
abbrev pub with_area : Row → MapValue → MapValue
with_area r m = record { rows = m.rows; areas = m.areas ++ r ∷ [] }

-- page p lies wholly in one System RAM range
abbrev pub is_whole : List Row → ℕ → Bool
is_whole rows p = list_any (λ r. is_ram_row r && holds_page p r) rows

-- page p meets a range of kind 2, 3 or 4, or a crash area
abbrev pub is_taken : MapValue → ℕ → Bool
is_taken m p =
    list_any (λ r. not (is_ram_row r) && meets_page p r) m.rows || list_any (meets_page p) m.areas

-- page p is RAM
abbrev pub is_ram : MapValue → ℕ → Bool
is_ram m p = is_whole m.rows p && not (is_taken m p)

-- how many pages are RAM
abbrev pub ram_pages : MapValue → ℕ
ram_pages m = passing (is_ram m) (2 ^ 34)

-- the pages that lie wholly in a row
abbrev pub pages_inside : Row → Run
pages_inside r =
    record { first = pages_for r.start; count = row_end r / 4096 - pages_for r.start }

abbrev pub if_some_pages : Run → Option Run
if_some_pages s = if s.count == 0 then None else Some s

-- the whole pages inside the last of these areas, if there are any
abbrev pub reserved_in : List Row → Option Run
reserved_in areas =
    option_and_then (λ r. if_some_pages (pages_inside r)) (slice_get areas (length areas - 1))

abbrev pub reserved_area : MapValue → Option Run
reserved_area m = reserved_in m.areas

-- the row of a reserved area
abbrev pub reserved_row : Option Run → List Row
reserved_row None = []
reserved_row (Some s) = record { start = 4096 * s.first; size = 4096 * s.count; kind = 1 } ∷ []

-- the rows of a crash kernel: the reserved area as RAM, then the rows of kinds 2, 3 and 4
abbrev pub crash_rows : MapValue → List Row
crash_rows m = reserved_row (reserved_area m) ++ filter (λ r. not (is_ram_row r)) m.rows

-- what of a row stands before an area, and behind it
abbrev pub before_area : Row → Row → List Row
before_area area row =
    if nat_lt row.start area.start
    then record {
      start = row.start;
      size = min (row_end row) area.start - row.start;
      kind = row.kind;
    } ∷ []
    else []

abbrev pub behind_area : Row → Row → List Row
behind_area area row =
    if nat_lt (row_end area) (row_end row)
    then record {
      start = max row.start (row_end area);
      size = row_end row - max row.start (row_end area);
      kind = row.kind;
    } ∷ []
    else []

-- the ranges of a row that are outside an area
unfoldable pub without_area : Row → Row → List Row
without_area area row =
    if area.size == 0 then row ∷ []
    else before_area area row ++ behind_area area row

-- the ranges of the rows that are outside all areas, row after row
unfoldable pub outside : List Row → List Row → List Row
outside [] rows = rows
outside (area ∷ areas) rows = outside areas (flat_map (without_area area) rows)

-- the System RAM outside the crash areas
abbrev pub core_ranges : MapValue → List Row
core_ranges m = outside m.areas (filter is_ram_row m.rows)
