use Rattle.std.proofs.Common.{◌<◌, sym, ap, ◌∙◌, arith}
use Rattle.range_index.specs.inner.Ranges.{meets_any}
use Rattle.range_index.proofs.Finding.{tells_last, tells_none, empty_meets}
use Rattle.range_index.proofs.index.RangeIndex.meets.Goals as goal

pub returns-then-start-end : goal.returns-then-start-end
returns-then-start-end c = sym (empty_meets (c.args.start, c.args.end) c.args.self.now (omega arith))

pub returns-in-Some : goal.returns-in-Some
returns-in-Some c =
    let some : c.args.start < c.args.end = omega arith in
    tells_last 0 c.in-Some.field-0-0 c.in-Some.last_end (c.args.start, c.args.end) c.self.inside.ends.entries c.self.invariant some c.in-Some.ensures.before c.in-Some.ensures.some c.in-Some.ensures.last
    ∙ ap (meets_any (c.args.start, c.args.end)) c.self.view_is

pub returns-in-None : goal.returns-in-None
returns-in-None c =
    sym (tells_none 0 (c.args.start, c.args.end) c.self.inside.ends.entries c.self.invariant c.in-None.ensures.none)
    ∙ ap (meets_any (c.args.start, c.args.end)) c.self.view_is
