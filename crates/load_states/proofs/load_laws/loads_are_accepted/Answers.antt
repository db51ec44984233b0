use Rattle.load_states.proofs.LaidPlan.{load_is_accepted}
use Rattle.load_states.proofs.load_laws.loads_are_accepted.Goals as goal

pub returns : goal.returns
returns c = load_is_accepted
