use Rattle.std.proofs.Common.{sym, ap, ◌∙◌}
use Rattle.memory_map.specs.inner.Rows.{covers}
use Rattle.memory_map.specs.Maps.{outside}
use Rattle.memory_map.proofs.ranges.core_ranges.Goals as goal

pub returns-clause-items : goal.returns-clause-items
returns-clause-items c =
    c.in_ok-ranges.ensures.items c.args.areas.now (λ q. sym (c.in_ok-areas.ensures.bytes q) ∙ sym (ap (λ xs. covers q xs) c.deref.ensures.value))
    ∙ ap (λ xs. outside c.args.areas.now xs) (c.deref-2.ensures.value ∙ c.in_ok-ram.ensures.items)
