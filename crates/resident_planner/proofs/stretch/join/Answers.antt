use Rattle.std.proofs.Common.{◌+◌, get_or, None, sym, subst}
use Rattle.resident_planner.specs.declared.stretch.Stretch.{Stretch}
use Rattle.resident_planner.specs.inner.Stretches.{LeadsTo, IsStretch, after}
use Rattle.resident_planner.proofs.Stretching.{joined_some, joined_none}
use Rattle.resident_planner.proofs.stretch.join.Goals as goal

pub returns-in-Some : goal.returns-in-Some
returns-in-Some c = λ D s n p all front.
    let y : Stretch = get_or c.args.stretches.now c.in-Some.place (record { end = None; lowest = 0; steps = 0 }) in
    let leads = subst (λ o. LeadsTo D o (after s n p)) c.in-Some.is front.end in
    let k = all.each c.in-Some.place (record { end = None; lowest = 0; steps = 0 }) leads.0 in
    subst (λ v. IsStretch D s (n + n) p (record { end = y.end; lowest = v; steps = c.args.front.steps + y.steps })) (sym c.min.ensures) (joined_some D s n p c.in-Some.place c.args.front y c.in-Some.is front k)

pub returns-in-None : goal.returns-in-None
returns-in-None c = λ D s n p all front. joined_none D s n p c.args.front c.in-None.is front
