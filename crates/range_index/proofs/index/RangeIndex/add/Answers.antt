use Rattle.std.proofs.Common.{false, sym, ap, ◌∙◌, ◌≡◌, subst, arith}
use Rattle.range_index.specs.inner.Ranges.{meets_any, AreApart, AreWith}
use Rattle.range_index.proofs.Adding.{put_apart, put_with}
use Rattle.range_index.proofs.index.RangeIndex.add.Goals as goal

pub invariant_of-self-2 : goal.invariant_of-self-2
invariant_of-self-2 c =
    let apart : meets_any (c.args.start, c.args.end) c.self.inside.ends.entries ≡ false = ap (meets_any (c.args.start, c.args.end)) c.self.view_is ∙ c.requires.apart in
    subst (AreApart 0) (sym c.in_ok-insert.ensures.entries) (put_apart 0 (c.args.start, c.args.end) c.self.inside.ends.entries c.self.invariant (omega arith) c.requires.some apart)

pub returns-clause-ranges : goal.returns-clause-ranges
returns-clause-ranges c =
    let apart : meets_any (c.args.start, c.args.end) c.self.inside.ends.entries ≡ false = ap (meets_any (c.args.start, c.args.end)) c.self.view_is ∙ c.requires.apart in
    let put = put_with 0 (c.args.start, c.args.end) c.self.inside.ends.entries c.self.invariant c.requires.some apart in
    subst (λ old. AreWith old (c.args.start, c.args.end) c.insert.new.self.entries) c.self.view_is (subst (AreWith c.self.inside.ends.entries (c.args.start, c.args.end)) (sym c.in_ok-insert.ensures.entries) put)
