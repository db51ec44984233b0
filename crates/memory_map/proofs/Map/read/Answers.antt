use Rattle.std.proofs.Common.{inl}
use Rattle.memory_map.specs.inner.Reader.{map_value_of}
use Rattle.memory_map.proofs.PageLemmas.{ram_count}
use Rattle.memory_map.proofs.Reading.{reads, no_ram}
use Rattle.memory_map.proofs.Map.read.Goals as goal

pub returns-then-total-eq0 : goal.returns-then-total-eq0
returns-then-total-eq0 c = inl (
    no_ram c.args.text.now (map_value_of c.in-Ok.reader) c.total.result c.in-Ok.ensures.exact
    (ram_count c.in_ok-ram.ram c.in-Ok.reader.rows.items c.in-Ok.reader.areas.items _ _ c.total.result c.deref.ensures.value c.deref-2.ensures.value c.in_ok-ram.ensures c.total.ensures.count)
    c.if-total-eq0.true)

pub returns : goal.returns
returns c =
    reads c.args.text.now (map_value_of c.in-Ok.reader) c.total.result c.in-Ok.ensures.exact
    (ram_count c.in_ok-ram.ram c.in-Ok.reader.rows.items c.in-Ok.reader.areas.items _ _ c.total.result c.deref.ensures.value c.deref-2.ensures.value c.in_ok-ram.ensures c.total.ensures.count)
    c.if-total-eq0.false
