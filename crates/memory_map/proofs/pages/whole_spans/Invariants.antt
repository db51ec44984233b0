use Rattle.std.proofs.Common.{◌≡◌, ℕ, take}
use Rattle.kx_pages.specs.Spans.{in_spans}
use Rattle.memory_map.specs.Maps.{is_whole}
use Rattle.memory_map.proofs.pages.whole_spans.Given as goal

abbrev pub invariant-loop-row : goal.invariant-loop-row
invariant-loop-row l = (p : ℕ) → in_spans l.spans.items p ≡ is_whole (take l.row-index l.rows) p
