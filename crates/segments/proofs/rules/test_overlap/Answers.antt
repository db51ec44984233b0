use Rattle.std.proofs.Common.{sym, ap, ◌∙◌}
use Rattle.kx_laws.specs.Results.{unless}
use Rattle.segments.proofs.Steps.{overlap_here, overlap_later}
use Rattle.segments.proofs.rules.test_overlap.Goals as goal

pub returns-in-Some : goal.returns-in-Some
returns-in-Some c =
    ap unless (sym (overlap_here c.args.list.now c.loop-i.i c.index-list-i.result c.in-Some.j c.loop-i-test.true c.index-list-i.is (sym c.first_overlapped.ensures ∙ c.in-Some.is)) ∙ c.loop-i.invariant)

pub loop-i-preserved : goal.loop-i-preserved
loop-i-preserved c =
    overlap_later c.args.list.now c.loop-i.i c.index-list-i.result c.loop-i-test.true c.index-list-i.is (sym c.first_overlapped.ensures ∙ c.in_default.is) ∙ c.loop-i.invariant
