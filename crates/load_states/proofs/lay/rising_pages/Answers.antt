use Rattle.std.proofs.Common.{◌++◌, ◌∙◌, ap, sym}
use Rattle.std.specs.List.{range_with_len}
use Rattle.load_states.proofs.Laying.{pages_more}
use Rattle.load_states.proofs.lay.rising_pages.Goals as goal

pub loop-i-preserved : goal.loop-i-preserved
loop-i-preserved c =
    c.in_ok-push_span.ensures ∙ ap (λ ps. ps ++ range_with_len c.span.result.first c.span.result.count) c.loop-i.invariant
    ∙ sym (pages_more c.args.set.now c.loop-i.i c.span.result c.span.ensures.value)
