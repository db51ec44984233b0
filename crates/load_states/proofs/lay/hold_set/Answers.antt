use Rattle.std.proofs.Common.{◌∙◌, inl, inr, subst, ⊎_elim}
use Rattle.kx_pages.specs.Lists.{Has}
use Rattle.load_states.proofs.Laying.{all_held, set-from_pages}
use Rattle.load_states.proofs.lay.hold_set.Goals as goal

pub returns-clause-held : goal.returns-clause-held
returns-clause-held c = all_held c.hold_all.result c.args.set.now c.hold_all.new.self c.deref.result.now (c.deref.ensures.value ∙ c.in_ok-pages.ensures.value) c.hold_all.ensures.held

pub returns-clause-only : goal.returns-clause-only
returns-clause-only c = λ q h. ⊎_elim
    (λ x. inl x)
    (λ x. inr (set-from_pages c.args.set.now q (subst (Has q) (c.deref.ensures.value ∙ c.in_ok-pages.ensures.value) x)))
    (c.hold_all.ensures.only q h)
