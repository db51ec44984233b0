use Rattle.std.proofs.Common.{◌≡◌, ◌∙◌, sym, subst, ap, drop}
use Rattle.kimage_list.specs.Tracking.{whole_pool}
use Rattle.kimage_list.specs.inner.Writers.{StandsAt, Writer, draft_of, need}
use Rattle.kimage_list.specs.inner.Calls.{writer_of}
use Rattle.kimage_list.proofs.DrawnPools.{has_drawn}
use Rattle.kimage_list.proofs.WrittenLists.{has_link, list_written, image_with}
use Rattle.kimage_list.proofs.writer.ListWriter.finish.Goals as goal

pub end-ended-requires : goal.end-ended-requires
end-ended-requires c =
    let h = c.self.invariant.0 in
    let s = c.self.invariant.1 in
    let n = rw (← c.self.view_is) at c.requires.segments in
    let m = rw (← c.self.view_is) at c.requires.loaded in
    (draft_of h s.loading s.inside.first s.inside.links, s.inside.writes, has_link h (writer_of c.self.inside) s n m)

pub returns-clause-written : goal.returns-clause-written
returns-clause-written c = λ h t.
    let s = subst (StandsAt h) (sym c.self.view_is) t in
    let n = rw (← c.self.view_is) at c.requires.segments in
    let m = rw (← c.self.view_is) at c.requires.loaded in
    let r = c.end-ended.result in
    list_written h (writer_of c.self.inside) s n m (record { memory = r.memory; pool = r.pool; image = image_with r.head c.self.inside.mode c.self.inside.control })
    (c.end-ended.ensures.memory (draft_of h s.loading s.inside.first s.inside.links) s.inside.writes (has_link h (writer_of c.self.inside) s n m)) c.end-ended.ensures.pool
    (ap (λ x. image_with x c.self.inside.mode c.self.inside.control) c.end-ended.ensures.head)

pub returns-clause-drawn : goal.returns-clause-drawn
returns-clause-drawn c = λ h p t from whole.
    let r = c.end-ended.result in
    has_drawn (need h) p r.pool ((returns-clause-written c h t).usable ∙ ap (drop (need h)) from)
    (ap whole_pool c.end-ended.ensures.pool ∙ subst (λ (w : Writer). whole_pool w.pool ≡ whole_pool p) (sym c.self.view_is) whole)
