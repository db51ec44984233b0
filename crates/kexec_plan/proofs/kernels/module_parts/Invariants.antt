use Rattle.std.proofs.Common.{◌≡◌, ◌++◌, map}
use Rattle.std.specs.Vec.Iter.{into_iter_items}
use Rattle.kexec_plan.specs.Laying.{Module}
use Rattle.kexec_plan.proofs.kernels.module_parts.Given as goal

abbrev pub invariant-loop-module : goal.invariant-loop-module
invariant-loop-module l = record {
  can : goal.iterator-loop-module.can_next l.module-iterator;
  finite : goal.iterator-loop-module.is_finite l.module-iterator;
  rest : l.parts ++ map Module (into_iter_items l.module-iterator) ≡ map Module l.fn.modules.items;
}
