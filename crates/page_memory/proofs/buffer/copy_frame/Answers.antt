use Rattle.std.proofs.Common.{◌≡◌, sym, ap, ◌∙◌, arith, length, List, ℕ}
use Rattle.std.specs.FinMap.{insert}
use Rattle.page_memory.specs.Contents.{frame_at}
use Rattle.page_memory.proofs.Laws.{frame_at-found, frame_at-none}
use Rattle.page_memory.specs.inner.Frames.{frame_in, put_frame, pages_in}
use Rattle.page_memory.proofs.Changes.{some_in}
use Rattle.page_memory.proofs.Moves.{length-frame_in, page_of-nothing}
use Rattle.page_memory.proofs.Tables.{none_held, some_held}
use Rattle.page_memory.proofs.Frames.{clear, inside_found, frame_in-put_same, other_page, pages_by-written, vec_back}
use Rattle.page_memory.proofs.buffer.copy_frame.Goals as goal

pub place_of-requires : goal.place_of-requires
place_of-requires c = some_in c.args.frames.now.items c.args.table.now.places c.args.d c.requires.held

pub move_frame-requires-clause-from : goal.move_frame-requires-clause-from
move_frame-requires-clause-from c = rw c.deref_mut.ensures.value (inside_found c.args.frames.now.items c.args.table.now.places c.args.s c.in-Some.from c.requires.old c.in-Some.ensures.value).1

pub move_frame-requires-clause-up : goal.move_frame-requires-clause-up
move_frame-requires-clause-up c = clear c.args.frames.now.items c.args.table.now.places c.args.s c.args.d c.in-Some.from c.place_of.result c.requires.old (sym c.in-Some.ensures.value) c.place_of.ensures

pub move_frame-requires-clause-down : goal.move_frame-requires-clause-down
move_frame-requires-clause-down c = clear c.args.frames.now.items c.args.table.now.places c.args.d c.args.s c.place_of.result c.in-Some.from c.requires.old c.place_of.ensures (sym c.in-Some.ensures.value)

pub returns-in-Some-clause-value : goal.returns-in-Some-clause-value
returns-in-Some-clause-value c =
    let xs = c.args.frames.now.items in
    let t = c.args.table.now.places in
    let i = c.place_of.result in
    let from = c.in-Some.from in
    let at_d = c.place_of.ensures in
    let at_s = c.in-Some.ensures.value in
    let to_is = inside_found xs t c.args.d i c.requires.old (sym at_d) in
    let from_is = inside_found xs t c.args.s from c.requires.old at_s in
    let ys = frame_in xs from in
    let whole = length-frame_in xs from from_is.1 in
    let read : frame_at (pages_in xs t) c.args.s ≡ ys = frame_at-found _ c.args.s ys (sym (some_held (frame_in xs) t c.args.s from at_s)) in
    let written : c.move_frame.new.frames ≡ put_frame xs i ys = c.move_frame.ensures ∙ ap (λ (zs : List ℕ). put_frame zs i (frame_in zs from)) c.deref_mut.ensures.value in
    let all : c.args.frames.now.len ≡ length c.move_frame.new.frames = omega (arith, c.args.frames.now.ok.0, c.move_frame.auto.frames, c.deref_mut.ensures.len) in
    let back = vec_back c.args.frames.now.len xs c.move_frame.new.frames all ∙ written in
    rw (back, read) (pages_by-written (frame_in xs) (frame_in (put_frame xs i ys)) t c.args.d i ys at_d
    (frame_in-put_same xs i ys to_is.1 whole)
    (other_page xs t c.args.d i ys c.requires.old at_d whole))

pub returns-in-None-clause-value : goal.returns-in-None-clause-value
returns-in-None-clause-value c =
    let m = pages_in c.args.frames.now.items c.args.table.now.places in
    let read = frame_at-none m c.args.s (sym (none_held (frame_in c.args.frames.now.items) c.args.table.now.places c.args.s c.in-None.ensures.value)) in
    c.write_frame.ensures.value ∙ ap (insert m c.args.d) (page_of-nothing ∙ sym read)
