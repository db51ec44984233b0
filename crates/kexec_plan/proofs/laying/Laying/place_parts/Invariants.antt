use Rattle.std.proofs.Common.{◌≡◌, map}
use Rattle.std.specs.Vec.Iter.{into_iter_items}
use Rattle.kx_pages.specs.Spans.{in_spans}
use Rattle.kexec_plan.specs.Laying.{place_parts}
use Rattle.kexec_plan.specs.inner.Laying.{part_of, laid_of, AreParts, EndLow}
use Rattle.kexec_plan.proofs.laying.Laying.place_parts.Given as goal

abbrev pub invariant-loop-part : goal.invariant-loop-part
invariant-loop-part l = record {
  can : goal.iterator-loop-part.can_next l.part-iterator;
  finite : goal.iterator-loop-part.is_finite l.part-iterator;
  parts : AreParts (into_iter_items l.part-iterator);
  rest : place_parts (in_spans l.ram) (laid_of l.self) (map part_of (into_iter_items l.part-iterator)) ≡ place_parts (in_spans l.ram) (laid_of l.fn.self) l.fn.parts;
  low : EndLow l.self.slots.items;
}
