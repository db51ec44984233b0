use Rattle.std.proofs.Common.{string_bytes, ◌∙◌}
use Rattle.list_commands.proofs.Lines.{segment_step}
use Rattle.list_commands.proofs.dump.push_segments.Goals as goal

pub loop-i-preserved : goal.loop-i-preserved
loop-i-preserved c =
    segment_step (string_bytes c.loop-i.text) _ _ _ c.record.result.now.segments c.loop-i.i c.segment.result.now c.segment.ensures
    c.in_ok-push_str.ensures.bytes (c.deref.ensures ∙ c.in_ok-line.ensures) c.loop-i.invariant
