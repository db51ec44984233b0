use Rattle.load_states.proofs.Alike.{accept_alike}
use Rattle.load_states.proofs.loaded.Loaded.accept.Goals as goal

pub returns-in-Ok-clause-alike : goal.returns-in-Ok-clause-alike
returns-in-Ok-clause-alike c = accept_alike c.args.self c.hold_for_run.result c.hold_for_run.ensures.accepted
