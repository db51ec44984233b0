use Rattle.std.proofs.Common.{◌≡◌, ◌-◌, ◌^◌, take, min}
use Rattle.multiboot_image.specs.Modules.{texts_size}
use Rattle.multiboot_image.proofs.modules.texts_size.Given as goal

abbrev pub invariant-loop-placed : goal.invariant-loop-placed
invariant-loop-placed l = l.total ≡ min (2 ^ 64 - 1) (texts_size (take l.placed-index l.modules))
