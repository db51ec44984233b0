-- What is given for the arguments of a command (this project's own).
use Rattle.std.specs.Prelude.{[], Bool, false, Option, Some, None, List, unwrap_or, option_map, option_and_then, codes, map, find, slice_get}
use Rattle.std.specs.Str.{bytes_eq}
use Rattle.clap.specs.Words.{Row, all_of}
use Rattle.command_table.specs.Table.{Text, ArgumentValue}

-- the texts that are given for an argument: none where it is not given
pub record GivenValue : Type 0 where
  pub id : Text
  pub texts : List Text

-- what clap states of an argument
abbrev pub given_by : List Row → ArgumentValue → GivenValue
given_by rows a = record { id = a.id; texts = unwrap_or (all_of a.id rows) [] }

-- each argument of a command, in the order of the table
abbrev pub given_of : List ArgumentValue → List Row → List GivenValue
given_of arguments rows = map (given_by rows) arguments

-- the texts of an argument
abbrev pub texts_of : Text → List GivenValue → Option (List Text)
texts_of id given = option_map (λ g. g.texts) (find (λ g. bytes_eq g.id id) given)

-- the positional words of which there may be none, one or several
abbrev pub words_of : Text → List GivenValue → List Text
words_of id given = unwrap_or (texts_of id given) []

-- the value of an option
abbrev pub option_of : Text → List GivenValue → Option Text
option_of id given = option_and_then (λ texts. slice_get texts 0) (texts_of id given)

-- a positional word that must be there; it is there wherever the words are taken
abbrev pub word_of : Text → List GivenValue → Text
word_of id given = unwrap_or (option_of id given) []

abbrev pub is_true : Option Text → Bool
is_true None = false
is_true (Some t) = bytes_eq t (codes "true")

-- whether an option without a value is given
abbrev pub flag_of : Text → List GivenValue → Bool
flag_of id given = is_true (option_of id given)
