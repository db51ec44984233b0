use Rattle.std.proofs.Common.{◌≡◌, ◌≤◌, ◌+◌, length}
use Rattle.text_lines.specs.Lines.{lines}
use Rattle.memory_map.specs.Maps.{nothing}
use Rattle.memory_map.specs.Text.{lines_onto}
use Rattle.memory_map.specs.inner.Reader.{IsReader, map_value_of}
use Rattle.memory_map.proofs.reader.Reader.read.Given as goal

abbrev pub invariant-loop-here : goal.invariant-loop-here
invariant-loop-here l = record {
  valid : IsReader l.reader;
  count : l.line + length l.rest ≤ 1 + length l.text;
  same : lines_onto l.line (map_value_of l.reader) (lines l.rest) ≡ lines_onto 1 nothing (lines l.text);
}

abbrev pub decreases-loop-here : goal.decreases-loop-here
decreases-loop-here l = length l.rest
