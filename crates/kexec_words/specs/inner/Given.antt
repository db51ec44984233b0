-- What is given for the arguments of a command, as the program holds it (this project's own).
-- No clause of `kexec` reaches what stands here: it serves laws, and contracts inside the crates.
use Rattle.std.specs.Prelude.{◌≡◌, [], Option, Result, Ok, Err, option_map, map, List}
use Rattle.std.specs.Borrow.{Bor}
use Rattle.clap.specs.Words.{App, fault_of, matches_of, rows_of, found_of}
use Rattle.clap.specs.declared.parser.matches.ArgMatches.{ArgMatches}
use Rattle.command_table.specs.Table.{Text}
use Rattle.command_table.specs.declared.faults.UsageWhy.TheVariants as why
use Rattle.kexec_words.specs.Given.{GivenValue}
use Rattle.kexec_words.specs.declared.faults.WordsFault.{WordsFault}
use Rattle.kexec_words.specs.declared.faults.WordsFault.TheVariants.{Memory, Usage}
use Rattle.kexec_words.specs.declared.given.Given.{Given}

-- the words after the command's name are taken
abbrev pub IsTaken : App → List Text → Type 0
IsTaken app words = fault_of app words ≡ []

-- what a parse answers: the values of words that are taken, a refusal of words that are not, or want of memory
abbrev pub Parses : App → List Text → Result ArgMatches WordsFault → Type 0
Parses app words (Ok m) = IsTaken app words × (rows_of (found_of m) ≡ matches_of app words)
Parses app words (Err Memory) = Unit {0}
Parses app words (Err (Usage why.Parse)) = IsTaken app words → ⊥
Parses app words (Err (Usage other)) = ⊥

-- the text behind a reference
abbrev pub text_in : Option (Bor Text) → Option Text
text_in = option_map (λ s. s.now)

abbrev pub texts_in : List (Bor Text) → List Text
texts_in = map (λ s. s.now)

abbrev pub given_value : Given → GivenValue
given_value g = record { id = g.argument.now.id.now; texts = texts_in g.texts.items }

abbrev pub given_values : List Given → List GivenValue
given_values = map given_value
