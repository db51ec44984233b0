use Rattle.std.proofs.Common.{◌∙◌, sym, ap, refl, [], ◌∷◌, subst, None}
use Rattle.kx_pages.specs.declared.image.Mode.TheVariants.{Kept}
use Rattle.kimage_list.specs.Load.{begun, give_page}
use Rattle.kimage_list.specs.inner.Drafts.{Renders, with_first}
use Rattle.kimage_list.specs.inner.Writers.{Writer, draft_of}
use Rattle.kimage_list.specs.inner.Calls.{writer_of}
use Rattle.kimage_list.proofs.Beginning.{control_page, swap_page, plain_begun, kept_begun, no_pairs}
use Rattle.kimage_list.proofs.writer.open.Goals as goal
use Rattle.kimage_list.proofs.writer.open.Goals.{in-Plain, in-Kept}

pub take_first-first-requires : goal.take_first-first-requires
take_first-first-requires c =
    let h = c.requires.0 in
    let k = c.requires.1 in
    let f = control_page h c.args.list c.args.segments c.args.wish k in
    (draft_of h (begun h.pool) [] [], f.page, k.writes, f.can, refl, refl)

pub take_first-requires : goal.take_first-requires
take_first-requires c =
    let h = c.requires.0 in
    let k = c.requires.1 in
    let f = control_page h c.args.list c.args.segments c.args.wish k in
    let g = swap_page h c.args.list c.args.segments c.args.wish k c.in-Kept.is in
    let w = c.take_first-first.ensures.given (draft_of h (begun h.pool) [] []) f.page k.writes f.can refl refl in
    (draft_of h (give_page None f.page) (f.page.0 ∷ []) [], g.page, w.1, g.can, refl, no_pairs f.page.1.pairs h.entries w.1.order k.nothing)

pub returns-clause-stands : goal.returns-clause-stands
returns-clause-stands c = λ h k.
    let f = control_page h c.args.list c.args.segments c.args.wish k in
    let w = c.take_first-first.ensures.given (draft_of h (begun h.pool) [] []) f.page k.writes f.can refl refl in
    let v : Writer = writer_of (record { list = c.match-wish.list; control = c.take_first-first.result; mode = c.match-wish.mode; segments_left = c.args.segments; destination = None }) in
    elim c.match-wish.branch [
      | in-Plain b ↦
          plain_begun h c.args.list c.args.segments c.args.wish k b.in-Plain.is v
          (subst (λ l. Renders (with_first (draft_of h (begun h.pool) [] []) f.page) [] l.memory l.pool l.table l.next l.entries) (sym b.list-is) w.1) w.0 b.mode-is refl refl
      | in-Kept b ↦
          let g = swap_page h c.args.list c.args.segments c.args.wish k b.in-Kept.is in
          let d = draft_of h (give_page None f.page) (f.page.0 ∷ []) [] in
          let x = b.take_first.ensures.given d g.page w.1 g.can refl (no_pairs f.page.1.pairs h.entries w.1.order k.nothing) in
          kept_begun h c.args.list c.args.segments c.args.wish k b.in-Kept.is v
          (subst (λ l. Renders (with_first d g.page) [] l.memory l.pool l.table l.next l.entries) (sym b.list-is) x.1) w.0 (b.mode-is ∙ ap (λ p. Kept p) x.0) refl refl
    ]

pub invariant_of-result : goal.invariant_of-result
invariant_of-result c = (c.requires.0, returns-clause-stands c c.requires.0 c.requires.1)
