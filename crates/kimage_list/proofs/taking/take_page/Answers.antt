use Rattle.std.proofs.Common.{false}
use Rattle.kimage_list.proofs.taking.take_page.Goals as goal
use Rattle.kimage_list.proofs.Drawing.{gives-filed, whole-marked}

pub returns-in-Some-take_filed-clause-gives : goal.returns-in-Some-take_filed-clause-gives
returns-in-Some-take_filed-clause-gives c = λ D l s.
    let e = c.in-Some-take_filed.ensures.some in
    gives-filed D c.args.wanted l c.args.pool.now c.take_filed.new.self c.args.table.now c.in-Some.d c.in-Some-take_filed.page s c.in-Some.is e.0 e.1 e.2

pub returns-in-Some-take_filed-clause-pages : goal.returns-in-Some-take_filed-clause-pages
returns-in-Some-take_filed-clause-pages c = whole-marked c.args.pool.now c.take_filed.new.self c.in-Some.d false c.in-Some-take_filed.ensures.some.2
