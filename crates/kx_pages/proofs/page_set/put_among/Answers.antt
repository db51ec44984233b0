use Rattle.std.proofs.Common.{sym, ◌∙◌, ◌<◌, subst, List}
use Rattle.std.specs.List.{All}
use Rattle.kx_pages.specs.Spans.{Run, end}
use Rattle.kx_pages.proofs.Sets.{joined-last}
use Rattle.kx_pages.proofs.page_set.put_among.Goals as goal

pub returns-in_ok-push-clause-ok : goal.returns-in_ok-push-clause-ok
returns-in_ok-push-clause-ok c =
    let h : All (λ r. end r < c.first.result) c.args.spans.now.items = subst (λ (xs : List Run). All (λ r. end r < c.first.result) xs) c.deref.ensures.value (c.all_before.ensures c.if-all_before.true) in
    c.in_ok-push.ensures.items ∙ sym (joined-last c.args.spans.now.items c.args.span (subst (λ n. All (λ r. end r < n) c.args.spans.now.items) c.first.ensures.value h))
