use Rattle.std.proofs.Common.{ap, ◌∙◌, ◌++◌, subst}
use Rattle.std.specs.List.{flat_map}
use Rattle.load_record.specs.declared.version.Version.TheVariants.{Second}
use Rattle.load_record.specs.Head.{head_text}
use Rattle.load_record.specs.File.{record_text, record_reading, segment_text}
use Rattle.load_record.specs.inner.Head.{IsInRange}
use Rattle.load_record.proofs.Laws.{reading_text}
use Rattle.load_record.proofs.load.LoadRecord.write.Goals as goal

pub returns-clause-file : goal.returns-clause-file
unfolding record_text
returns-clause-file c =
    rw (c.in_ok-put_segments.ensures, c.in_ok-extend_from_slice.ensures.items, c.in_ok-reserve_exact.ensures.items, c.new-out.ensures.items, c.bytes.ensures.value, c.block.ensures.value)
    (ap (λ h. head_text Second h ++ flat_map (segment_text Second) c.args.self.now.segments) c.of.ensures.value)

pub returns-clause-read_back : goal.returns-clause-read_back
returns-clause-read_back c = ap record_reading (returns-clause-file c) ∙ reading_text Second c.args.self.now (record { range = subst IsInRange c.of.ensures.value c.block.ensures.range; pages = c.of.ensures.pages; writable = c.requires })
