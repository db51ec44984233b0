use Rattle.std.proofs.Common.{sym, ◌∙◌}
use Rattle.std.proofs.lemmas.Result.{err_from_is_err_and}
use Rattle.segments.proofs.Steps.{refused_here, refused_later, refused_last}
use Rattle.segments.specs.Rules.{bare_refusal}
use Rattle.segments.proofs.rules.test_bare.Goals as goal

pub returns-in_err-test_shape : goal.returns-in_err-test_shape
unfolding bare_refusal
returns-in_err-test_shape c =
    let p = err_from_is_err_and c.from_residual.result c.from_residual.ensures.1 in
    rw (p.1, p.2) (refused_here _ _ _ (sym c.test_shape.ensures.value ∙ c.in_err-test_shape.was))

pub returns : goal.returns
unfolding bare_refusal
returns c =
    refused_later _ _ _ _ (sym c.test_shape.ensures.value ∙ c.in_ok-test_shape.was) (refused_last _ _ c.test_size.ensures)
