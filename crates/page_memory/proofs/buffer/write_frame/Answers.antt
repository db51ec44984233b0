use Rattle.std.proofs.Common.{◌≡◌, sym, ap, ◌∙◌, arith, length}
use Rattle.kx_pages.specs.Bytes.{page_of}
use Rattle.page_memory.specs.inner.Frames.{frame_in, put_frame}
use Rattle.kx_pages.proofs.Bytes.{length-page_of}
use Rattle.page_memory.proofs.Tables.{none_held}
use Rattle.page_memory.proofs.Frames.{inside_found, frame_in-put_same, other_page, pages_by-written, vec_back}
use Rattle.page_memory.proofs.buffer.write_frame.Goals as goal

pub fill-requires-clause-inside : goal.fill-requires-clause-inside
fill-requires-clause-inside c = rw c.deref_mut.ensures.value (inside_found c.args.frames.now.items c.args.table.now.places c.args.p c.in-Some.place c.requires.old c.in-Some.ensures.value).1

pub unreachable-requires : goal.unreachable-requires
unreachable-requires c =
    let none = none_held (frame_in c.args.frames.now.items) c.args.table.now.places c.args.p c.in-None.ensures.value in
    let held = rw none at c.requires.held in cc

pub returns-clause-value : goal.returns-clause-value
returns-clause-value c =
    let xs = c.args.frames.now.items in
    let i = c.in-Some.place in
    let ys = page_of c.args.bytes.now in
    let found = inside_found xs c.args.table.now.places c.args.p i c.requires.old c.in-Some.ensures.value in
    let whole = length-page_of c.args.bytes.now in
    let written : c.fill.new.frames ≡ put_frame xs i ys = c.fill.ensures ∙ ap (λ xs. put_frame xs i ys) c.deref_mut.ensures.value in
    let all : c.args.frames.now.len ≡ length c.fill.new.frames = omega (arith, c.args.frames.now.ok.0, c.fill.auto.frames, c.deref_mut.ensures.len) in
    let back = vec_back c.args.frames.now.len xs c.fill.new.frames all ∙ written in
    rw back (pages_by-written (frame_in xs) (frame_in (put_frame xs i ys)) c.args.table.now.places c.args.p i ys (sym c.in-Some.ensures.value)
    (frame_in-put_same xs i ys found.1 whole)
    (other_page xs c.args.table.now.places c.args.p i ys c.requires.old (sym c.in-Some.ensures.value) whole))
