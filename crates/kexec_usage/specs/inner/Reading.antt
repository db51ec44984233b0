-- How the words behind a command are read by the table of its arguments, up to the first that the command does not take
-- (this project's own; the same words as clap takes of a simple command).
-- No clause of `kexec` reaches what stands here: it serves laws, and contracts inside the crates.
use Rattle.std.specs.Prelude.{◌≡◌, ◌⊎◌, ◌==◌, ◌&&◌, find, Bool, true, false, List, [], ◌∷◌, ◌++◌, Option, Some, None, codes, if◌then◌else◌, nat_lt, length, slice_index, is_some, option_map, map}
use Rattle.std.specs.Borrow.{Bor}
use Rattle.std.specs.List.{position_or_len, before_first, after_first}
use Rattle.std.specs.Str.{bytes_eq}
use Rattle.command_table.specs.Table.{ArgumentValue}
use Rattle.command_table.specs.inner.Table.{argument_value, argument_values}
use Rattle.command_table.specs.inner.Texts.{first_name, arguments_of}
use Rattle.command_table.specs.declared.table.Argument.{Argument}
use Rattle.command_table.specs.declared.table.Form.{Form}
use Rattle.command_table.specs.declared.table.Form.TheVariants as form
use Rattle.command_table.specs.inner.Table as table
use Rattle.kexec_usage.specs.inner.Words.{Text, GivenValue, given_value, text_in}
use Rattle.kexec_usage.specs.declared.given.Answer.{Answer}
use Rattle.kexec_usage.specs.declared.given.Reading.{Reading}
use Rattle.kexec_usage.specs.declared.mistake.Mistake.{Mistake}
use Rattle.kexec_usage.specs.declared.mistake.Mistake.TheVariants as code

-- ---- the table

-- the option of this name
abbrev pub option_in : List ArgumentValue → Text → Option ArgumentValue
option_in arguments name = find (λ a. table.is_option a.form && bytes_eq a.name name) arguments

-- a word that may be given several times
abbrev pub is_repeated : Form → Bool
is_repeated form.Words = true
is_repeated other = false

-- the first positional word, and the arguments that are left behind it
abbrev pub next_word : List ArgumentValue → Option (ArgumentValue × List ArgumentValue)
next_word [] = None
next_word (a ∷ later) =
    if table.is_option a.form then next_word later
    else (if is_repeated a.form then Some (a, a ∷ later) else Some (a, later))

abbrev pub next_value : Bor Argument × Bor (List Argument)
    → ArgumentValue × List ArgumentValue
next_value n = (argument_value n.0.now, argument_values n.1.now)

-- ---- what is read

-- what stood among the words, and what must stand there
pub data MistakeValue : Type 0 where
  memory : MistakeValue
  unknown : Text → MistakeValue
  again : ArgumentValue → MistakeValue
  no_value : ArgumentValue → Option Text → MistakeValue
  has_value : ArgumentValue → MistakeValue
  surplus : Text → MistakeValue
  missing : ArgumentValue → MistakeValue

abbrev pub mistake_value : Mistake → MistakeValue
mistake_value code.Memory = memory
mistake_value (code.Unknown o) = unknown o.now
mistake_value (code.Again a) = again (argument_value a.now)
mistake_value (code.NoValue a t) = no_value (argument_value a.now) (option_map (λ s. s.now) t)
mistake_value (code.HasValue a) = has_value (argument_value a.now)
mistake_value (code.Surplus w) = surplus w.now
mistake_value (code.Missing a) = missing (argument_value a.now)

-- what was read so far
pub record ReadingValue : Type 0 where
  pub arguments : List ArgumentValue
  pub left : List ArgumentValue  -- those of which the positional words are still to come
  pub given : List GivenValue
  pub awaited : Option ArgumentValue  -- the option whose value comes next
  pub is_behind_hyphens : Bool

abbrev pub reading_value : Reading → ReadingValue
reading_value r = record {
  arguments = argument_values r.arguments.now;
  left = argument_values r.left.now;
  given = map given_value r.given.items;
  awaited = option_map (λ a. argument_value a.now) r.awaited;
  is_behind_hyphens = r.is_behind_hyphens;
}

-- what is given, and the first mistake
abbrev pub AnswerValue : Type 0
AnswerValue = List GivenValue × Option MistakeValue

abbrev pub answer_value : Answer → AnswerValue
answer_value a = (map given_value a.given.items, option_map mistake_value a.mistake)

-- ---- a word after another

-- a word that is read as an option; `-` alone is a positional word
abbrev pub is_option : Text → Bool
is_option w = if bytes_eq w (codes "-") then false else slice_index w 0 == 45

-- the option of a word, and the value behind an equals sign
abbrev pub split_value : Text → Text × Option Text
split_value w =
    if nat_lt (position_or_len (λ b. b == 61) w) (length w) then
    (before_first (λ b. b == 61) w, Some (after_first (λ b. b == 61) w))
    else (w, None)

abbrev pub Step : Type 0
Step = ReadingValue × Option MistakeValue

-- an argument is given with this text
abbrev pub value_step : ReadingValue → ArgumentValue → Text → Step
value_step r a text = (
  record r { given = r.given ++ record { name = a.name; text = text; kind = a.kind } ∷ [] },
  None,
)

abbrev pub word_where : ReadingValue → Option (ArgumentValue × List ArgumentValue) → Text → Step
word_where r None word = (r, Some (surplus word))
word_where r (Some n) word = value_step (record r { left = n.1 }) n.0 word

-- a positional word
abbrev pub word_step : ReadingValue → Text → Step
word_step r word = word_where r (next_word r.left) word

abbrev pub flag_step : ReadingValue → ArgumentValue → Option Text → Step
flag_step r a None = value_step r a []
flag_step r a (Some text) = (r, Some (has_value a))

abbrev pub valued_step : ReadingValue → ArgumentValue → Option Text → Step
valued_step r a None = (record r { awaited = Some a }, None)
valued_step r a (Some text) = value_step r a text

abbrev pub form_step : Form → ReadingValue → ArgumentValue → Option Text → Step
form_step form.Flag r a value = flag_step r a value
form_step other r a value = valued_step r a value

-- an option of the table
abbrev pub known_step : ReadingValue → ArgumentValue → Option Text → Step
known_step r a value =
    if is_some (text_in r.given a.name) then (r, Some (again a)) else form_step a.form r a value

abbrev pub option_where : ReadingValue → Option ArgumentValue → Text × Option Text → Step
option_where r None parts = (r, Some (unknown parts.0))
option_where r (Some a) parts = known_step r a parts.1

-- an option, with or without a value behind an equals sign
abbrev pub option_step : ReadingValue → Text → Step
option_step r word =
    option_where r (option_in r.arguments (split_value word).0) (split_value word)

-- a word behind an option that must have a value
abbrev pub awaited_step : ReadingValue → ArgumentValue → Text → Step
awaited_step r a word =
    if is_option word then (r, Some (no_value a (Some word)))
    else value_step (record r { awaited = None }) a word

-- a word that is not a value of an option, before two hyphens
abbrev pub free_step : ReadingValue → Text → Step
free_step r word =
    if bytes_eq word (codes "--") then (record r { is_behind_hyphens = true }, None)
    else (if is_option word then option_step r word else word_step r word)

abbrev pub step_where : Option ArgumentValue → ReadingValue → Text → Step
step_where (Some a) r word = awaited_step r a word
step_where None r word = if r.is_behind_hyphens then word_step r word else free_step r word

abbrev pub step : ReadingValue → Text → Step
step r word = step_where r.awaited r word

-- ---- all words

abbrev pub missing_where : Option (ArgumentValue × List ArgumentValue) → Option MistakeValue
missing_where None = None
missing_where (Some n) = if is_repeated n.0.form then None else Some (missing n.0)

abbrev pub want_where : Option ArgumentValue → ReadingValue → Option MistakeValue
want_where (Some a) r = Some (no_value a None)
want_where None r = missing_where (next_word r.left)

-- what is wrong at the end of the words
abbrev pub want : ReadingValue → Option MistakeValue
want r = want_where r.awaited r

-- the words that are left, up to the first mistake
abbrev pub reading_of : ReadingValue → List Text → AnswerValue
reading_of r [] = (r.given, want r)
reading_of r (word ∷ words) =
    if is_some (step r word).1 then ((step r word).0.given, (step r word).1)
    else reading_of (step r word).0 words

-- before the first word of a command with these arguments
abbrev pub reading_start : List ArgumentValue → ReadingValue
reading_start arguments = record {
  arguments = arguments;
  left = arguments;
  given = [];
  awaited = None;
  is_behind_hyphens = false;
}

abbrev pub rest_of : List Text → List Text
rest_of [] = []
rest_of (word ∷ words) = words

-- all words, of which the first names the command
abbrev pub answer_of : List Text → AnswerValue
answer_of words = reading_of (reading_start (arguments_of (first_name words))) (rest_of words)

-- this is answered, or that memory is wanting
abbrev pub IsRead : AnswerValue → Answer → Type 0
IsRead said a = (answer_value a ≡ said) ⊎ (option_map mistake_value a.mistake ≡ Some memory)
