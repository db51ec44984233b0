use Rattle.std.proofs.Common.{arith, refl, ap, ◌∙◌, ◌++◌, ◌∷◌, []}
use Rattle.memory_map.specs.inner.Rows.{covers}
use Rattle.memory_map.proofs.Parts.{longer_last, one_more, up_to_last, up_to_front, up_to_push, covers_hull}
use Rattle.memory_map.proofs.ranges.push_behind.Goals as goal

pub returns-then-area-last-clause-parts : goal.returns-then-area-last-clause-parts
returns-then-area-last-clause-parts c = rw (c.in_ok-push.ensures.items, c.join.ensures) (longer_last 0 0 c.args.made.now.items c.args.last _ c.requires.parts refl (omega arith) (omega arith) refl)

pub returns-then-area-last-clause-order : goal.returns-then-area-last-clause-order
returns-then-area-last-clause-order c = λ n l.
    rw (c.in_ok-push.ensures.items, c.join.ensures) (up_to_front c.args.area.start n c.args.made.now.items (c.args.last ∷ []) _ c.requires.order l (omega (arith, up_to_last c.args.area.start c.args.made.now.items c.args.last c.requires.order, l)))

pub returns-then-area-last-clause-bytes : goal.returns-then-area-last-clause-bytes
returns-then-area-last-clause-bytes c = λ q.
    ap (λ xs. covers q xs) (c.in_ok-push.ensures.items ∙ ap (λ h. c.args.made.now.items ++ h ∷ []) c.join.ensures)
    ∙ covers_hull c.args.made.now.items c.args.last c.args.area _ q refl refl (up_to_last c.args.area.start c.args.made.now.items c.args.last c.requires.order) c.if-area-last.true

pub returns-clause-parts : goal.returns-clause-parts
returns-clause-parts c = rw (c.in_ok-push-3.ensures.items, c.in_ok-push-2.ensures.items) (one_more 0 0 c.args.made.now.items c.args.last c.args.area c.requires.parts (omega arith) c.requires.some c.requires.area.end c.requires.kind)

pub returns-clause-order : goal.returns-clause-order
returns-clause-order c = λ n l. rw (c.in_ok-push-3.ensures.items, c.in_ok-push-2.ensures.items) (up_to_push c.args.area.start n (c.args.made.now.items ++ c.args.last ∷ []) c.args.area c.requires.order l l)
