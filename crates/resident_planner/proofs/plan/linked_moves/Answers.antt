use Rattle.std.proofs.Common.{◌∙◌, map, ap}
use Rattle.kx_pages.specs.Items.{code}
use Rattle.list_checker.specs.Checked.{as_pair}
use Rattle.resident_planner.specs.Laid.{pair_items}
use Rattle.resident_planner.specs.inner.LinkPages.{word_pages}
use Rattle.resident_planner.proofs.Stepping.{ok_both}
use Rattle.resident_planner.proofs.plan.linked_moves.Goals as goal

pub returns-clause-pages : goal.returns-clause-pages
returns-clause-pages c = ok_both c.link_pages.result
    (λ v are short. λ r D fresh rising moves. record {
      planned_pairs = map as_pair c.in_ok-pairs.pairs.items;
      planned = c.in_ok-pairs.ensures r D fresh rising moves;
      are = are ∙ ap (word_pages c.args.links.now) (c.deref-2.ensures.value ∙ c.in_ok-words.ensures ∙ ap (λ ps. map code (pair_items (map as_pair ps))) c.deref.ensures.value);
    })
    c.link_pages.ensures.pages c.link_pages.ensures.short
