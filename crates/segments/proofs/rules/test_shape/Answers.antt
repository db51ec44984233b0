use Rattle.std.proofs.Common.{sym, ◌∙◌}
use Rattle.std.proofs.lemmas.Result.{err_from_is_err_and}
use Rattle.segments.proofs.Steps.{refused_here, refused_later, refused_last}
use Rattle.segments.specs.Rules.{shape_refusal}
use Rattle.segments.proofs.rules.test_shape.Goals as goal

pub returns-in_err-test_count-clause-value : goal.returns-in_err-test_count-clause-value
unfolding shape_refusal
returns-in_err-test_count-clause-value c =
    let p = err_from_is_err_and c.from_residual.result c.from_residual.ensures.1 in
    rw (p.1, p.2) (refused_here _ _ _ (sym c.test_count.ensures ∙ c.in_err-test_count.was))

pub returns-in_err-test_addresses-clause-value : goal.returns-in_err-test_addresses-clause-value
unfolding shape_refusal
returns-in_err-test_addresses-clause-value c =
    let p = err_from_is_err_and c.from_residual-in_err-test_addresses.result c.from_residual-in_err-test_addresses.ensures.1 in
    rw (p.1, p.2)
    (refused_later _ _ _ _ (sym c.test_count.ensures ∙ c.in_ok-test_count.was)
    (refused_here _ _ _ (sym c.test_addresses.ensures ∙ c.in_err-test_addresses.was)))

pub returns-in_err-test_overlap-clause-value : goal.returns-in_err-test_overlap-clause-value
unfolding shape_refusal
returns-in_err-test_overlap-clause-value c =
    let p = err_from_is_err_and c.from_residual-in_err-test_overlap.result c.from_residual-in_err-test_overlap.ensures.1 in
    rw (p.1, p.2)
    (refused_later _ _ _ _ (sym c.test_count.ensures ∙ c.in_ok-test_count.was)
    (refused_later _ _ _ _ (sym c.test_addresses.ensures ∙ c.in_ok-test_addresses.was)
    (refused_here _ _ _ (sym c.test_overlap.ensures ∙ c.in_err-test_overlap.was))))

pub returns-clause-value : goal.returns-clause-value
unfolding shape_refusal
returns-clause-value c =
    refused_later _ _ _ _ (sym c.test_count.ensures ∙ c.in_ok-test_count.was)
    (refused_later _ _ _ _ (sym c.test_addresses.ensures ∙ c.in_ok-test_addresses.was)
    (refused_later _ _ _ _ (sym c.test_overlap.ensures ∙ c.in_ok-test_overlap.was)
    (refused_last _ _ c.test_bytes.ensures)))
