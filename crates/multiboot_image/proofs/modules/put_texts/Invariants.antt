use Rattle.std.proofs.Common.{◌≡◌, ◌++◌, take}
use Rattle.multiboot_image.specs.Modules.{texts}
use Rattle.multiboot_image.proofs.modules.put_texts.Given as goal

abbrev pub invariant-loop-placed : goal.invariant-loop-placed
invariant-loop-placed l = l.out.items ≡ l.fn.out.items ++ texts (take l.placed-index l.modules)
