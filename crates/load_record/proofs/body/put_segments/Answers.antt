use Rattle.load_record.specs.declared.version.Version.TheVariants.{Second}
use Rattle.load_record.proofs.Walking.{put_step}
use Rattle.load_record.proofs.body.put_segments.Goals as goal

pub loop-i-preserved : goal.loop-i-preserved
loop-i-preserved c =
    put_step Second c.loop-i.out.items c.put_segment.new.out.items _ c.args.segments.now c.loop-i.i c.segment-segment.result.now c.segment-segment.ensures c.in_ok-put_segment.ensures c.loop-i.invariant
