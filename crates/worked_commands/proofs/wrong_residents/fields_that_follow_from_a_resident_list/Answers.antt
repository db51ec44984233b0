use Rattle.worked_commands.proofs.WrongResidents.{copies_follow, end_follows, least_follows, leaves_follow, runs_follow}
use Rattle.worked_commands.proofs.wrong_residents.fields_that_follow_from_a_resident_list.Goals as goal

pub returns-clause-copies : goal.returns-clause-copies
returns-clause-copies c = λ i p m c b. copies_follow i p m c b

pub returns-clause-least : goal.returns-clause-least
returns-clause-least c = λ i p m c b. least_follows i p m c b

pub returns-clause-ends : goal.returns-clause-ends
returns-clause-ends c = λ i p m c b. end_follows i p m c b

pub returns-clause-runs : goal.returns-clause-runs
returns-clause-runs c = λ i p m c b. runs_follow i p m c b

pub returns-clause-leaves : goal.returns-clause-leaves
returns-clause-leaves c = λ i p m c b. leaves_follow i p m c b
