use Rattle.plan_laws.proofs.Bare.{elf_is_loaded}
use Rattle.plan_laws.proofs.executable.elf_is_loaded.Goals as goal

pub returns : goal.returns
returns c = elf_is_loaded
