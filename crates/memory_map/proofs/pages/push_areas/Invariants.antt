use Rattle.std.proofs.Common.{◌≡◌, ◌||◌, ℕ, take}
use Rattle.std.specs.List.{list_any}
use Rattle.kx_pages.specs.Spans.{in_spans}
use Rattle.memory_map.specs.Rows.{meets_page}
use Rattle.memory_map.proofs.pages.push_areas.Given as goal

abbrev pub invariant-loop-area : goal.invariant-loop-area
invariant-loop-area l = (p : ℕ) → in_spans l.spans.items p ≡ (in_spans l.initial.spans.items p || list_any (λ r. meets_page p r) (take l.area-index l.areas))
