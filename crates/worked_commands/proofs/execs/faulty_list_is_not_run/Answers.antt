-- The source word has the fault.
use Rattle.std.proofs.Common.{refl}
use Rattle.std.specs.Prelude.{codes}
use Rattle.page_memory.specs.Contents.{Contents, at}
use Rattle.list_checker.specs.declared.fault.Why.TheVariants.{WrongBytes}
use Rattle.list_commands.specs.Check.{IsFaultIn}
use Rattle.list_commands.specs.Records.{list_files}
use Rattle.worked_commands.specs.Lists.{HasList, HasSource, plain_record}
use Rattle.worked_commands.proofs.Lists.{faulty, none_accepted}
use Rattle.std.specs.Fmt.{digits}
use Rattle.worked_commands.proofs.execs.faulty_list_is_not_run.Goals as goal

fault : (m : Contents) → HasList m → HasSource m (codes "abd") → IsFaultIn (list_files m plain_record) (record { word = 2; why = WrongBytes })
fault m w s = (faulty (at m) w s, none_accepted (at m) w s)

pub returns-clause-told : goal.returns-clause-told
unfolding digits
returns-clause-told c = λ m w s. (refl, (fault m w s, record { outputs = refl; text = refl; fault = refl }))

pub returns-clause-not_run : goal.returns-clause-not_run
unfolding digits
returns-clause-not_run c = λ m w s h. none_accepted (at m) w s h.1.3.items h.1.3.accepted

pub returns-clause-cannot : goal.returns-clause-cannot
unfolding digits
returns-clause-cannot c = λ m w s h. none_accepted (at m) w s h.items h.accepted
