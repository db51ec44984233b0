use Rattle.std.proofs.Common.{Some, sym, ap, ◌∙◌}
use Rattle.std.proofs.lemmas.Result.{on_ok_weaker}
use Rattle.list_checker.proofs.earlier.Earlier.add_source.Goals as goal

pub returns-in-Some-new : goal.returns-in-Some-new
returns-in-Some-new c = on_ok_weaker c.add_pair.result
    (λ f swap s h fits. f swap s h (sym h.next ∙ c.in-Some.is ∙ ap Some (sym c.in-Some-new.ensures.value)))
    c.add_pair.ensures
