use Rattle.std.proofs.Common.{sym, ◌∙◌}
use Rattle.std.proofs.lemmas.Result.{err_from_is_err_and}
use Rattle.segments.proofs.Steps.{refused_here, refused_later, refused_last}
use Rattle.segments.specs.Rules.{refusal}
use Rattle.segments.proofs.rules.test_all.Goals as goal

pub returns-in_err-test_shape : goal.returns-in_err-test_shape
unfolding refusal
returns-in_err-test_shape c =
    let p = err_from_is_err_and c.from_residual.result c.from_residual.ensures.1 in
    rw (p.1, p.2) (refused_here _ _ _ (sym c.test_shape.ensures.value ∙ c.in_err-test_shape.was))

pub returns-in_err-test_half_of_memory : goal.returns-in_err-test_half_of_memory
unfolding refusal
returns-in_err-test_half_of_memory c =
    let p = err_from_is_err_and c.from_residual-in_err-test_half_of_memory.result c.from_residual-in_err-test_half_of_memory.ensures.1 in
    rw (p.1, p.2)
    (refused_later _ _ _ _ (sym c.test_shape.ensures.value ∙ c.in_ok-test_shape.was)
    (refused_here _ _ _ (sym c.test_half_of_memory.ensures ∙ c.in_err-test_half_of_memory.was)))

pub returns-in_err-test_place : goal.returns-in_err-test_place
unfolding refusal
returns-in_err-test_place c =
    let p = err_from_is_err_and c.from_residual-in_err-test_place.result c.from_residual-in_err-test_place.ensures.1 in
    rw (p.1, p.2)
    (refused_later _ _ _ _ (sym c.test_shape.ensures.value ∙ c.in_ok-test_shape.was)
    (refused_later _ _ _ _ (sym c.test_half_of_memory.ensures ∙ c.in_ok-test_half_of_memory.was)
    (refused_here _ _ _ (sym c.test_place.ensures ∙ c.in_err-test_place.was))))

pub returns : goal.returns
unfolding refusal
returns c =
    refused_later _ _ _ _ (sym c.test_shape.ensures.value ∙ c.in_ok-test_shape.was)
    (refused_later _ _ _ _ (sym c.test_half_of_memory.ensures ∙ c.in_ok-test_half_of_memory.was)
    (refused_later _ _ _ _ (sym c.test_place.ensures ∙ c.in_ok-test_place.was)
    (refused_last _ _ c.test_size.ensures)))
