use Rattle.std.proofs.Common.{◌≡◌, ◌∙◌, ◌++◌, append_assoc, ap}
use Rattle.sha2.specs.Sha256.{sha256}
use Rattle.kx_fields.specs.Fields.{zeros}
use Rattle.kx_fields.specs.Formats.{written}
use Rattle.segments.specs.Values.{SegmentValue}
use Rattle.load_record.specs.File.{head_of_segment, segment_format, segment_text}
use Rattle.load_record.proofs.body.put_segment.Goals as goal

pub returns : goal.returns
unfolding segment_text
returns c =
    let out = c.args.out.now.items in
    let s = c.args.segment.now in
    let head = written segment_format (head_of_segment s) (zeros 24) in
    let bytes_are : c.segment.inside.bytes.items ≡ s.bytes = ap (λ (s : SegmentValue). s.bytes) c.segment.view_is in
    rw (c.in_ok-extend_from_slice-3.ensures.items, c.in_ok-extend_from_slice-2.ensures.items, c.in_ok-extend_from_slice.ensures.items, c.deref.ensures.value, c.bytes.ensures.value, c.head_of.ensures.value, c.requires, bytes_are)
    (append_assoc (out ++ head) (sha256 s.bytes) s.bytes ∙ append_assoc out head (sha256 s.bytes ++ s.bytes))
