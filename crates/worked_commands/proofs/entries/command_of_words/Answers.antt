-- By computing, and by what is read.
use Rattle.std.proofs.Common.{◌≡◌, ℕ, Result, Ok, Err, refl}
use Rattle.std.specs.Prelude.{codes}
use Rattle.file_commands.specs.Files.{whole_file}
use Rattle.file_commands.specs.Taking.{Refusal, too_long}
use Rattle.worked_commands.specs.Answers.{long_file}
use Rattle.worked_commands.proofs.Reading.{read_by}
use Rattle.worked_commands.proofs.entries.command_of_words.Goals as goal

pub returns-clause-copy : goal.returns-clause-copy
returns-clause-copy c = read_by long_file (whole_file {R = ℕ} 3 (codes "a"))

pub returns-clause-no_copy : goal.returns-clause-no_copy
returns-clause-no_copy c = λ h.
    let e : ◌≡◌ {A = Result ℕ (Refusal ℕ)} (Ok 0x41) (Err (too_long (codes "a") 3)) = h in
    cc

pub returns-clause-refused : goal.returns-clause-refused
returns-clause-refused c = refl

pub returns-clause-refusal : goal.returns-clause-refusal
returns-clause-refusal c = refl

pub returns-clause-makes_nothing : goal.returns-clause-makes_nothing
returns-clause-makes_nothing c = λ h. h

pub returns-clause-always : goal.returns-clause-always
returns-clause-always c = tt
