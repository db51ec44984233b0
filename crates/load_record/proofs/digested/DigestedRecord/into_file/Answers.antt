use Rattle.std.proofs.Common.{◌≡◌, ap, sym, ◌∙◌, ◌++◌, subst, List, ℕ, Ok}
use Rattle.std.specs.List.{flat_map}
use Rattle.segments.specs.Values.{SegmentValue}
use Rattle.segments.proofs.Laws.{AreSegments-from_IsBare}
use Rattle.load_record.specs.declared.version.Version.TheVariants.{Second}
use Rattle.load_record.specs.Head.{head_text}
use Rattle.load_record.specs.inner.Head.{IsInRange}
use Rattle.load_record.specs.File.{Record, record_file, record_text, record_reading, segment_text, head_of_record}
use Rattle.load_record.specs.inner.File.{IsWritable}
use Rattle.load_record.proofs.Laws.{reading_text}
use Rattle.load_record.proofs.digested.DigestedRecord.into_file.Goals as goal

pub give_segments-requires-clause-some : goal.give_segments-requires-clause-some
give_segments-requires-clause-some c = rw c.into_list-list.ensures.value (AreSegments-from_IsBare c.self.inside.load_record.segments c.into_list-list.ensures.valid).some

pub returns-clause-file : goal.returns-clause-file
unfolding record_text
returns-clause-file c =
    c.in_ok-file.ensures
    ∙ ap (λ (bytes : List ℕ). bytes ++ flat_map (segment_text Second) c.into_list-list.result.items) (c.bytes.ensures.value ∙ c.block-head.ensures.value ∙ ap (head_text Second) c.of.ensures.value)
    ∙ ap (λ (ss : List SegmentValue). head_text Second (head_of_record c.self.inside.load_record) ++ flat_map (segment_text Second) ss) c.into_list-list.ensures.value
    ∙ ap record_file c.self.view_is

pub returns-clause-read_back : goal.returns-clause-read_back
returns-clause-read_back c =
    let r = c.self.inside.load_record in
    let writable : IsWritable r = subst IsWritable (sym c.self.view_is) c.requires in
    ap record_reading (returns-clause-file c)
    ∙ subst (λ (r : Record). record_reading (record_file r) ≡ Ok r) c.self.view_is (reading_text Second r (record { range = subst IsInRange c.of.ensures.value c.block-head.ensures.range; pages = c.of.ensures.pages; writable = writable }))
