use Rattle.std.proofs.Common.{◌<◌, ◌^◌, ◌∙◌, ap, sym, subst}
use Rattle.std.specs.List.{AllByRecursion}
use Rattle.kx_pages.specs.Lists.{has}
use Rattle.resident_planner.specs.Stretches.{Rising}
use Rattle.resident_planner.proofs.Wanting.{rising_spans, low_spans, has_spans}
use Rattle.resident_planner.proofs.wanted.ordered_pages.Goals as goal

pub returns-clause-rising : goal.returns-clause-rising
returns-clause-rising c = subst Rising (sym c.in_ok-pages.ensures.value) (rising_spans 0 c.args.set.now c.in_ok-pages.ensures.apart)

pub returns-clause-low : goal.returns-clause-low
returns-clause-low c = subst (AllByRecursion (λ p. p < 2 ^ 34)) (sym c.in_ok-pages.ensures.value) (low_spans 0 c.args.set.now c.in_ok-pages.ensures.apart)

pub returns-clause-whole : goal.returns-clause-whole
returns-clause-whole c = λ p. ap (has p) c.in_ok-pages.ensures.value ∙ has_spans c.args.set.now p
