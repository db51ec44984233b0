use Rattle.std.proofs.Common.{◌-◌, ◌/◌, ap, ◌∙◌}
use Rattle.memory_map.specs.Rows.{row_end}
use Rattle.memory_map.specs.Maps.{if_some_pages}
use Rattle.memory_map.specs.inner.Maps.{has_page}
use Rattle.memory_map.proofs.PageLemmas.{has_whole}
use Rattle.memory_map.proofs.pages.pages_inside.Goals as goal

pub returns-clause-pages : goal.returns-clause-pages
returns-clause-pages c = λ p.
    let end = row_end c.args.row / 4096 in
    ap (λ o. has_page o p) c.span_between.ensures ∙ ap (λ n. has_page (if_some_pages (record { first = n; count = end - n })) p) c.pages_for.ensures ∙ has_whole c.args.row p
