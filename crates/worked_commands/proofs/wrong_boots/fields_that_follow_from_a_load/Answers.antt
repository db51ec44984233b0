use Rattle.worked_commands.proofs.WrongBoots.{again_follows, leaves_follow, proof_follows, runs_follow}
use Rattle.worked_commands.proofs.wrong_boots.fields_that_follow_from_a_load.Goals as goal

pub returns-clause-ends_again : goal.returns-clause-ends_again
returns-clause-ends_again c = λ b i p c l. again_follows b.kept i p c l

pub returns-clause-runs : goal.returns-clause-runs
returns-clause-runs c = λ b i p c l. runs_follow b.kept i p c l

pub returns-clause-leaves : goal.returns-clause-leaves
returns-clause-leaves c = λ b i p c l. leaves_follow b.kept i p c l

pub returns-clause-proves_itself : goal.returns-clause-proves_itself
returns-clause-proves_itself c = λ b i p c l. proof_follows b.kept i p c l
