use Rattle.sample_load.proofs.Rising.{byte_more}
use Rattle.sample_load.proofs.drawn_segments.bytes_of.Goals as goal

pub loop-j-preserved : goal.loop-j-preserved
loop-j-preserved c = byte_more c.loop-j.bytes.items c.push.new.self.items c.args.i c.loop-j.j c.byte_of.result c.loop-j.invariant c.byte_of.ensures c.in_ok-push.ensures.items
