use Rattle.std.proofs.Common.{◌≡◌, sym, ap, ◌∙◌, arith, length}
use Rattle.page_memory.specs.Contents.{frame_at}
use Rattle.page_memory.specs.inner.Contents.{page_with_word}
use Rattle.page_memory.proofs.Laws.{frame_at-found}
use Rattle.page_memory.specs.inner.Frames.{frame_in, put_frame, pages_in}
use Rattle.page_memory.proofs.Bytes.{IsBlock-page_with_word}
use Rattle.page_memory.proofs.Tables.{none_held, some_held}
use Rattle.page_memory.proofs.Frames.{inside_found, frame_in-put_same, other_page, pages_by-written, vec_back, IsBlock-frame_in}
use Rattle.page_memory.proofs.buffer.write_word.Goals as goal

pub fill_word-requires-clause-inside : goal.fill_word-requires-clause-inside
fill_word-requires-clause-inside c = rw c.deref_mut.ensures.value (inside_found c.args.frames.now.items c.args.table.now.places c.args.p c.in-Some.start c.requires.old c.in-Some.ensures.value).1

pub unreachable-requires : goal.unreachable-requires
unreachable-requires c =
    let none = none_held (frame_in c.args.frames.now.items) c.args.table.now.places c.args.p c.in-None.ensures.value in
    let held = rw none at c.requires.held in cc

pub returns-clause-value : goal.returns-clause-value
returns-clause-value c =
    let xs = c.args.frames.now.items in
    let i = c.in-Some.start in
    let found = inside_found xs c.args.table.now.places c.args.p i c.requires.old c.in-Some.ensures.value in
    let ys = page_with_word (frame_in xs i) c.args.place c.args.v in
    let whole = (IsBlock-page_with_word (frame_in xs i) c.args.place c.args.v c.requires.fits (IsBlock-frame_in xs i found.1 c.requires.old.bytes)).long in
    let same : frame_at (pages_in xs c.args.table.now.places) c.args.p ≡ frame_in xs i = frame_at-found _ c.args.p (frame_in xs i) (sym (some_held (frame_in xs) c.args.table.now.places c.args.p i c.in-Some.ensures.value)) in
    let written : c.fill_word.new.frames ≡ put_frame xs i ys = c.fill_word.ensures ∙ ap (λ xs. put_frame xs i (page_with_word (frame_in xs i) c.args.place c.args.v)) c.deref_mut.ensures.value in
    let all : c.args.frames.now.len ≡ length c.fill_word.new.frames = omega (arith, c.args.frames.now.ok.0, c.fill_word.auto.frames, c.deref_mut.ensures.len) in
    let back = vec_back c.args.frames.now.len xs c.fill_word.new.frames all ∙ written in
    rw (back, same) (pages_by-written (frame_in xs) (frame_in (put_frame xs i ys)) c.args.table.now.places c.args.p i ys (sym c.in-Some.ensures.value)
    (frame_in-put_same xs i ys found.1 whole)
    (other_page xs c.args.table.now.places c.args.p i ys c.requires.old (sym c.in-Some.ensures.value) whole))
