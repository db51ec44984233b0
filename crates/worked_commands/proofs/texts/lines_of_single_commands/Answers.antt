-- By computing.
use Rattle.std.proofs.Common.{refl, ap, ◌++◌}
use Rattle.std.specs.Prelude.{codes}
use Rattle.hex.specs.Hex.{encode_lower}
use Rattle.std.specs.Fmt.{digits}
use Rattle.load_commands.specs.Sample.{memory_line}
use Rattle.hex.specs.Hex.{encode_with}
use Rattle.worked_commands.proofs.texts.lines_of_single_commands.Goals as goal

pub returns-clause-segments : goal.returns-clause-segments
unfolding digits memory_line encode_with
returns-clause-segments c = refl

pub returns-clause-core : goal.returns-clause-core
unfolding digits memory_line encode_with
returns-clause-core c = refl

pub returns-clause-copied : goal.returns-clause-copied
unfolding digits memory_line encode_with
returns-clause-copied c = refl

pub returns-clause-resident : goal.returns-clause-resident
unfolding digits memory_line encode_with
returns-clause-resident c = refl

pub returns-clause-digest : goal.returns-clause-digest
unfolding digits memory_line encode_with
returns-clause-digest c = λ N e. ap (λ d. codes "memory " ++ (encode_lower d ++ codes "\n")) e
