use Rattle.std.proofs.Common.{◌≡◌, ◌||◌, ◌&&◌, not, ℕ, take}
use Rattle.std.specs.List.{list_any}
use Rattle.kx_pages.specs.Spans.{in_spans}
use Rattle.memory_map.specs.Rows.{is_ram_row, meets_page}
use Rattle.memory_map.proofs.pages.push_other_rows.Given as goal

abbrev pub invariant-loop-row : goal.invariant-loop-row
invariant-loop-row l = (p : ℕ) → in_spans l.spans.items p ≡ (in_spans l.initial.spans.items p || list_any (λ r. not (is_ram_row r) && meets_page p r) (take l.row-index l.rows))
