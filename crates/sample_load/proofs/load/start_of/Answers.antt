use Rattle.segments.proofs.Laws.{AreSegments-from_IsBare}
use Rattle.sample_load.proofs.load.start_of.Goals as goal

pub segment-requires : goal.segment-requires
segment-requires c = (AreSegments-from_IsBare c.args.segments.now c.count-count.ensures.valid).some
