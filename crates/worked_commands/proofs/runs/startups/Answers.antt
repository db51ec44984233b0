-- By computing.
use Rattle.std.specs.Prelude.{refl}
use Rattle.worked_commands.proofs.runs.startups.Goals as goal

pub returns-clause-none : goal.returns-clause-none
returns-clause-none c = refl

pub returns-clause-both : goal.returns-clause-both
returns-clause-both c = refl

pub returns-clause-table_at_0 : goal.returns-clause-table_at_0
returns-clause-table_at_0 c = refl

pub returns-clause-digest_at_0 : goal.returns-clause-digest_at_0
returns-clause-digest_at_0 c = refl

pub returns-clause-planned : goal.returns-clause-planned
returns-clause-planned c = refl

pub returns-clause-recorded : goal.returns-clause-recorded
returns-clause-recorded c = refl

pub returns-clause-recorded_without : goal.returns-clause-recorded_without
returns-clause-recorded_without c = refl
