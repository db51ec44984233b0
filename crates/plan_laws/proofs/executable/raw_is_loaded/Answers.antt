use Rattle.plan_laws.proofs.Bare.{raw_is_loaded}
use Rattle.plan_laws.proofs.executable.raw_is_loaded.Goals as goal

pub returns : goal.returns
returns c = raw_is_loaded
