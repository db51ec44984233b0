use Rattle.std.proofs.Common.{◌≡◌, ◌++◌, drop}
use Rattle.multiboot_image.specs.Modules.{module_table}
use Rattle.multiboot_image.specs.inner.Modules.{AreBelow}
use Rattle.multiboot_image.proofs.modules.put_module_table.Given as goal

abbrev pub invariant-loop-placed : goal.invariant-loop-placed
invariant-loop-placed l = record {
  below : AreBelow l.text (drop l.placed-index l.modules);
  same : l.out.items ++ module_table l.text (drop l.placed-index l.modules) ≡ l.fn.out.items ++ module_table l.texts l.modules;
}
