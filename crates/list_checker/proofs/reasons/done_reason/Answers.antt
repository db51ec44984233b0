use Rattle.std.proofs.Common.{sym, ap, ◌∙◌}
use Rattle.std.specs.Option.{option_map}
use Rattle.std.specs.Ordering.{nat_cmp}
use Rattle.std.specs.BTreeSet.{contains}
use Rattle.segments.specs.Values.{pages}
use Rattle.list_checker.specs.declared.fault.Why.TheVariants.{Missing}
use Rattle.kx_pages.specs.Lists.{destinations, has}
use Rattle.list_checker.proofs.Wanted.{missing_first}
use Rattle.list_checker.proofs.reasons.done_reason.Goals as goal

pub returns-in-Some : goal.returns-in-Some
returns-in-Some c = λ s h.
    let e = sym c.swap_meets_control.ensures ∙ c.if-swap_meets_control.false in
    rw e (ap (option_map Missing) (sym c.in-Some.is ∙ c.first_missing.ensures) ∙ missing_first (contains nat_cmp c.args.earlier.now.destinations) (λ p. has p (destinations s.pairs)) h.destinations (pages c.args.segments.now))

pub returns-in-None : goal.returns-in-None
returns-in-None c = λ s h.
    let e = sym c.swap_meets_control.ensures ∙ c.if-swap_meets_control.false in
    rw e (ap (option_map Missing) (sym c.in-None.is ∙ c.first_missing.ensures) ∙ missing_first (contains nat_cmp c.args.earlier.now.destinations) (λ p. has p (destinations s.pairs)) h.destinations (pages c.args.segments.now))
