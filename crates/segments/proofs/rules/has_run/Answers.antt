use Rattle.std.proofs.Common.{◌≤◌, length, arith, sym, ◌∙◌}
use Rattle.segments.proofs.Steps.{run_in_span, none_more, run_in_no_span}
use Rattle.segments.proofs.rules.has_run.Goals as goal

pub returns-then-has_all : goal.returns-then-has_all
returns-then-has_all c =
    sym (run_in_span c.args.ram.now c.span.result c.args.first c.args.count c.span.ensures.whole (sym c.has_all.ensures ∙ c.if-has_all.true))

pub loop-i-preserved : goal.loop-i-preserved
loop-i-preserved c =
    none_more c.args.ram.now c.args.first c.args.count c.loop-i.i c.span.result c.loop-i.invariant c.span.ensures.value c.span.ensures.whole (sym c.has_all.ensures ∙ c.if-has_all.false)

pub returns : goal.returns
returns c =
    let all : length c.args.ram.now ≤ c.loop-i.i = omega arith in
    run_in_no_span c.args.ram.now c.args.first c.args.count c.requires.some (λ k l r e. c.loop-i.invariant k (omega (arith, l, all)) r e)
