use Rattle.std.proofs.Common.{sym, subst, ◌∙◌}
use Rattle.purgatory_link.specs.inner.Taken.{AreTaken}
use Rattle.purgatory_link.proofs.Taking.{meets_fields}
use Rattle.purgatory_link.proofs.taken.Taken.meets.Goals as goal

pub returns : goal.returns
returns c = λ puts are.
    meets_fields c.args.at c.args.wide puts c.deref.result.now c.any_is_taken.result
    (subst (AreTaken puts) (sym (c.deref.ensures.value ∙ c.self.view_is)) are)
    c.any_is_taken.ensures.some c.any_is_taken.ensures.none
