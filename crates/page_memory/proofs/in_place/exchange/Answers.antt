use Rattle.std.proofs.Common.{take, drop, ap, ◌∙◌}
use Rattle.page_memory.specs.inner.Frames.{frame_in}
use Rattle.page_memory.proofs.InPlace.{exchange_in_parts}
use Rattle.page_memory.proofs.in_place.exchange.Goals as goal

pub returns : goal.returns
unfolding frame_in
returns c =
    let xs = c.args.frames.now in
    let high = c.args.high in
    let front = c.split_at_mut-front.ensures.front in
    let back = c.split_at_mut-front.ensures.back in
    let second = c.split_at_mut-frame.ensures.front ∙ ap (take 4096) back in
    let rest = c.split_at_mut-frame.ensures.back ∙ ap (drop 4096) back in
    rw (c.trade.ensures.frames, c.trade.ensures.other, rest, second, front) (exchange_in_parts xs c.args.low high c.requires.apart c.requires.inside)
