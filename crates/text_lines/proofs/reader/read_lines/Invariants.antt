use Rattle.std.proofs.Common.{◌≡◌, ◌≤◌, ◌+◌, length}
use Rattle.text_lines.specs.Lines.{lines, lines_onto}
use Rattle.text_lines.proofs.reader.read_lines.Given as goal

abbrev pub invariant-loop-here : goal.invariant-loop-here
invariant-loop-here g l = record {
  count : l.line + length l.rest ≤ 1 + length l.text;
  same : lines_onto g.R.LineReader.adds l.line (g.R.LineReader.value l.reader) (lines l.rest) ≡ lines_onto g.R.LineReader.adds 1 (g.R.LineReader.value l.fn.reader) (lines l.text);
}

abbrev pub decreases-loop-here : goal.decreases-loop-here
decreases-loop-here g l = length l.rest
