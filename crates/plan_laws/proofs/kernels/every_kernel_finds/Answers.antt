use Rattle.plan_laws.proofs.Every.{every_kernel_finds}
use Rattle.plan_laws.proofs.kernels.every_kernel_finds.Goals as goal

pub returns : goal.returns
returns c = every_kernel_finds
