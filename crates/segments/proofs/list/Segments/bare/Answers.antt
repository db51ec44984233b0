use Rattle.std.proofs.Common.{sym, ap, ◌∙◌}
use Rattle.std.proofs.lemmas.Result.{err_from_is_err_and}
use Rattle.kx_laws.specs.Results.{unless}
use Rattle.segments.specs.Rules.{bare_refusal}
use Rattle.segments.proofs.Steps.{pass_is_none, Answers-refused, Answers-made}
use Rattle.segments.proofs.list.Segments.bare.Goals as goal

pub of_tested-requires : goal.of_tested-requires
of_tested-requires c = pass_is_none _ _ (ap (λ xs. unless (bare_refusal xs)) (sym c.deref.ensures.value) ∙ sym c.test_bare.ensures ∙ c.in_ok-test_bare.was)

pub returns-in_err-test_bare : goal.returns-in_err-test_bare
returns-in_err-test_bare c =
    let p = err_from_is_err_and c.from_residual.result c.from_residual.ensures.1 in
    rw (p.1, p.2) (Answers-refused c.args.list.items _ _ (ap (λ xs. unless (bare_refusal xs)) (sym c.deref.ensures.value) ∙ sym c.test_bare.ensures ∙ c.in_err-test_bare.was))

pub returns : goal.returns
returns c =
    Answers-made c.args.list.items (bare_refusal c.args.list.items) c.of_tested.result
    (pass_is_none _ _ (ap (λ xs. unless (bare_refusal xs)) (sym c.deref.ensures.value) ∙ sym c.test_bare.ensures ∙ c.in_ok-test_bare.was)) c.of_tested.ensures
