use Rattle.std.proofs.Common.{ap, ◌∙◌}
use Rattle.kimage_list.specs.Tracking.{whole_pool}
use Rattle.kimage_list.proofs.taking.draw_page.Goals as goal
use Rattle.kimage_list.proofs.Drawing.{gives-given, gives-exchanged, gives-none, draws-filed, drawn_once, whole-drawn}

pub returns-in-Given-clause-gives : goal.returns-in-Given-clause-gives
returns-in-Given-clause-gives c = λ D l s.
    let e = c.in-Some.ensures.some in
    gives-given D c.args.wanted.now l c.loop-q.pool c.draw.new.self c.args.table.now c.loop-q.table c.in-Some.q (c.loop-q.invariant.reaches D l s) c.loop-q.invariant.same e.0 (ap (λ v. v.marks) e.1) c.in-Given.ensures

pub file-requires : goal.file-requires
file-requires c = drawn_once c.in-Some.q c.loop-q.pool.drawn c.draw.new.self.drawn (ap (λ v. v.drawn) c.in-Some.ensures.some.1)

pub loop-q-preserved : goal.loop-q-preserved
loop-q-preserved c =
    let e = c.in-Some.ensures.some in
    draws-filed c.args.wanted.now c.loop-q.pool c.draw.new.self c.file.new.self c.args.pool.now c.args.table.now c.loop-q.table c.in-Some.q c.loop-q.invariant e.0 e.1 c.in-Filed.ensures c.file.ensures

pub returns-in-Exchanged-clause-gives : goal.returns-in-Exchanged-clause-gives
returns-in-Exchanged-clause-gives c = λ D l s.
    let e = c.in-Some.ensures.some in
    gives-exchanged D c.args.wanted.now l c.loop-q.pool c.draw.new.self c.args.table.now c.loop-q.table c.exchange.new.table c.in-Some.q c.in-Exchanged.loaded c.exchange.result (c.loop-q.invariant.reaches D l s) c.loop-q.invariant.same e.0 (ap (λ v. v.marks) e.1) c.in-Exchanged.ensures
    c.exchange.ensures.page c.exchange.ensures.moved c.exchange.ensures.here c.exchange.ensures.others

pub returns-clause-gives : goal.returns-clause-gives
returns-clause-gives c = λ D l s. gives-none D c.args.wanted.now l c.loop-q.pool c.draw.new.self c.args.table.now c.loop-q.table (c.loop-q.invariant.reaches D l s) c.in_default.ensures.none.0

pub returns-in-Given-clause-pages : goal.returns-in-Given-clause-pages
returns-in-Given-clause-pages c =
    let e = c.in-Some.ensures.some in
    whole-drawn c.loop-q.pool c.draw.new.self c.in-Some.q e.0 e.1 ∙ c.loop-q.invariant.pages

pub returns-in-Exchanged-clause-pages : goal.returns-in-Exchanged-clause-pages
returns-in-Exchanged-clause-pages c =
    let e = c.in-Some.ensures.some in
    whole-drawn c.loop-q.pool c.draw.new.self c.in-Some.q e.0 e.1 ∙ c.loop-q.invariant.pages

pub returns-clause-pages : goal.returns-clause-pages
returns-clause-pages c = ap whole_pool c.in_default.ensures.none.1 ∙ c.loop-q.invariant.pages
