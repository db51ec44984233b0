use Rattle.std.proofs.Common.{◌≡◌, ◌++◌, take, drop, length, ap, ◌∙◌, arith}
use Rattle.kx_pages.specs.Bytes.{page_of}
use Rattle.page_memory.specs.inner.Frames.{frame_in, put_frame}
use Rattle.page_memory.proofs.Moves.{moved_up, moved_down, moved_nowhere, length-frame_in}
use Rattle.page_memory.proofs.buffer.move_frame.Goals as goal

pub fill-requires-clause-fits : goal.fill-requires-clause-fits
fill-requires-clause-fits c =
    omega (arith, ap length c.frame.ensures, length-frame_in c.split_at_mut-low.result.0.now c.args.from (omega (arith, c.split_at_mut-low.ensures.front_len)))

pub fill-requires-then-to-from-clause-fits : goal.fill-requires-then-to-from-clause-fits
fill-requires-then-to-from-clause-fits c =
    omega (arith, ap length c.frame-then-to-from.ensures, length-frame_in c.split_at_mut-low-then-to-from.result.1.now 0 (omega (arith, c.split_at_mut-low-then-to-from.ensures.back_len)))

pub returns-then-from-to : goal.returns-then-from-to
returns-then-from-to c =
    let xs = c.args.frames.now in
    let n = c.args.to in
    let low = c.split_at_mut-low.ensures.front in
    let high = c.split_at_mut-low.ensures.back in
    ap (λ t. t ++ c.fill.new.frames) low
    ∙ moved_up xs c.fill.new.frames c.args.to c.args.from c.requires.to (c.requires.up c.if-from-to.true)
    (c.fill.ensures ∙ ap (λ t. put_frame t 0 (page_of c.frame.result.now)) high ∙ ap (λ t. put_frame (drop n xs) 0 (page_of t)) (c.frame.ensures ∙ ap (λ t. frame_in t c.args.from) low))

pub returns-then-to-from : goal.returns-then-to-from
returns-then-to-from c =
    let xs = c.args.frames.now in
    let n = c.args.from in
    let low = c.split_at_mut-low-then-to-from.ensures.front in
    let high = c.split_at_mut-low-then-to-from.ensures.back in
    ap (λ t. c.fill-then-to-from.new.frames ++ t) high
    ∙ moved_down xs c.fill-then-to-from.new.frames c.args.to c.args.from c.requires.from (c.requires.down c.if-to-from.true)
    (c.fill-then-to-from.ensures ∙ ap (λ t. put_frame t c.args.to (page_of c.frame-then-to-from.result.now)) low ∙ ap (λ t. put_frame (take n xs) c.args.to (page_of t)) (c.frame-then-to-from.ensures ∙ ap (λ t. frame_in t 0) high))

pub returns-else-to-from : goal.returns-else-to-from
returns-else-to-from c =
    let same : c.args.to ≡ c.args.from = omega arith in
    moved_nowhere c.args.frames.now c.args.to ∙ ap (λ i. put_frame c.args.frames.now c.args.to (frame_in c.args.frames.now i)) same
