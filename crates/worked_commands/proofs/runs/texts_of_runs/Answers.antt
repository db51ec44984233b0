-- By computing.
use Rattle.std.proofs.Common.{refl, ap, ◌++◌}
use Rattle.command_parts.specs.Runs.{list_text}
use Rattle.command_parts.specs.Texts.{ran_line, regions_line}
use Rattle.worked_commands.specs.Runs.{kept_over}
use Rattle.worked_commands.specs.Texts.{registers}
use Rattle.std.specs.Fmt.{digits}
use Rattle.worked_commands.proofs.runs.texts_of_runs.Goals as goal

pub returns-clause-plain : goal.returns-clause-plain
unfolding digits
returns-clause-plain c = λ m. refl

pub returns-clause-once : goal.returns-clause-once
unfolding digits
returns-clause-once c = λ m e. ap (λ t. (list_text (kept_over m) registers ++ ran_line 4) ++ regions_line t) e

pub returns-clause-twice : goal.returns-clause-twice
unfolding digits
returns-clause-twice c = λ m. refl
