use Rattle.std.proofs.Common.{ap, ◌∙◌}
use Rattle.sha2.specs.Sha256.{sha256}
use Rattle.segments.specs.Values.{SegmentValue}
use Rattle.load_record.proofs.Digests.{digest_step}
use Rattle.load_record.proofs.digested.digests_of.Goals as goal

pub loop-i-preserved : goal.loop-i-preserved
loop-i-preserved c =
    digest_step c.loop-i.digests.items c.push.new.self.items c.digest.result _ c.args.segments.now c.loop-i.i c.segment-segment.result.now c.segment-segment.ensures c.in_ok-push.ensures.items
    (c.digest.ensures ∙ ap (λ (s : SegmentValue). sha256 s.bytes) c.segment.view_is) c.loop-i.invariant
