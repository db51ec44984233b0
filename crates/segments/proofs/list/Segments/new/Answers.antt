use Rattle.std.proofs.Common.{sym, ap, ◌∙◌}
use Rattle.std.proofs.lemmas.Result.{err_from_is_err_and}
use Rattle.kx_laws.specs.Results.{unless}
use Rattle.segments.specs.Rules.{refusal}
use Rattle.segments.proofs.Laws.{IsBare-from_refusal}
use Rattle.segments.proofs.Steps.{pass_is_none, Answers-refused, Answers-made}
use Rattle.segments.proofs.list.Segments.new.Goals as goal

pub of_tested-requires : goal.of_tested-requires
of_tested-requires c =
    IsBare-from_refusal c.args.ram.now c.args.kind c.args.list.items
    (pass_is_none _ _ (ap (λ xs. unless (refusal c.args.ram.now c.args.kind xs)) (sym c.deref.ensures.value) ∙ sym c.test_all.ensures ∙ c.in_ok-test_all.was))

pub returns-in_err-test_all : goal.returns-in_err-test_all
returns-in_err-test_all c =
    let p = err_from_is_err_and c.from_residual.result c.from_residual.ensures.1 in
    rw (p.1, p.2) (Answers-refused c.args.list.items _ _ (ap (λ xs. unless (refusal c.args.ram.now c.args.kind xs)) (sym c.deref.ensures.value) ∙ sym c.test_all.ensures ∙ c.in_err-test_all.was))

pub returns : goal.returns
returns c =
    Answers-made c.args.list.items (refusal c.args.ram.now c.args.kind c.args.list.items) c.of_tested.result
    (pass_is_none _ _ (ap (λ xs. unless (refusal c.args.ram.now c.args.kind xs)) (sym c.deref.ensures.value) ∙ sym c.test_all.ensures ∙ c.in_ok-test_all.was)) c.of_tested.ensures
