use Rattle.std.proofs.Common.{◌≡◌, ◌+◌, drop, length}
use Rattle.std.specs.List.{flat_map}
use Rattle.load_record.specs.declared.version.Version.TheVariants.{Second}
use Rattle.load_record.specs.File.{record_file, segment_text}
use Rattle.load_record.proofs.body.room_of.Given as goal

abbrev pub invariant-loop-i : goal.invariant-loop-i
invariant-loop-i l = l.room + length (flat_map (segment_text Second) (drop l.i l.of.segments)) ≡ length (record_file l.of)
