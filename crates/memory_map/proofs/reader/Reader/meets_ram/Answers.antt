use Rattle.std.proofs.Common.{◌∙◌}
use Rattle.range_index.specs.inner.Ranges.{ranges_meet}
use Rattle.memory_map.specs.inner.Index.{range_of}
use Rattle.memory_map.proofs.reader.Reader.meets_ram.Goals as goal

pub returns : goal.returns
returns c = c.meets.ensures ∙ c.requires.reader.index (ranges_meet (range_of c.args.row))
