use Rattle.std.proofs.Common.{subst, ◌<◌}
use Rattle.std.proofs.lemmas.Bool.{ltb-true}
use Rattle.kx_pages.proofs.Sets.{all_before_last}
use Rattle.kx_pages.proofs.page_set.all_before.Goals as goal

pub returns-in-Some : goal.returns-in-Some
returns-in-Some c = λ t.
    all_before_last 0 c.args.spans.now c.in-Some.last.now c.args.first c.requires c.in-Some.ensures.item.1 (subst (λ n. n < c.args.first) c.end.ensures.value (ltb-true _ _ t))
