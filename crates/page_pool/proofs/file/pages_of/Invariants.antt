use Rattle.std.proofs.Common.{◌≡◌, ◌≤◌, ◌+◌, [], length}
use Rattle.text_lines.specs.Lines.{lines}
use Rattle.page_pool.specs.File.{pages_onto}
use Rattle.page_pool.proofs.file.pages_of.Given as goal

abbrev pub invariant-loop-here : goal.invariant-loop-here
invariant-loop-here l = record {
  few : length l.pages.items ≤ 262144;
  count : l.line + length l.rest ≤ 1 + length l.text;
  same : pages_onto l.line l.pages.items (lines l.rest) ≡ pages_onto 1 [] (lines l.text);
}

abbrev pub decreases-loop-here : goal.decreases-loop-here
decreases-loop-here l = length l.rest
