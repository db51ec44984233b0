use Rattle.std.proofs.Common.{◌≡◌, ◌++◌, drop}
use Rattle.std.specs.List.{flat_map}
use Rattle.load_record.specs.declared.version.Version.TheVariants.{Second}
use Rattle.load_record.specs.File.{segment_text}
use Rattle.load_record.proofs.body.give_segments.Given as goal

abbrev pub invariant-loop-i : goal.invariant-loop-i
invariant-loop-i l = l.out.items ++ flat_map (segment_text Second) (drop l.i l.segment-items) ≡ l.fn.bytes ++ flat_map (segment_text Second) l.fn.list.items
