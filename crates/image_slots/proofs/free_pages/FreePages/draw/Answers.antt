use Rattle.std.proofs.Common.{◌∙◌, drop, drop-drop, ap}
use Rattle.image_slots.proofs.free_pages.FreePages.draw.Goals as goal

pub loop-preserved : goal.loop-preserved
loop-preserved c = c.draw_one.ensures ∙ ap (drop 1) c.loop.invariant ∙ drop-drop 1 c.loop.counter c.args.self.now
