-- Words that are given behind a command (this project's own).
-- No clause of `kexec` reaches what stands here: it serves laws, and contracts inside the crates.
use Rattle.std.specs.Prelude.{ℕ, ◌||◌, Bool, false, List, [], ◌∷◌, Option, codes, if◌then◌else◌, find, option_map}
use Rattle.std.specs.Str.{bytes_eq}
use Rattle.command_table.specs.declared.table.Kind.{Kind}
use Rattle.kexec_usage.specs.declared.given.Given.{Given}

-- a text is the list of its bytes
abbrev pub Text : Type 0
Text = List ℕ

-- what is given under a name of the table, and what it is
pub record GivenValue : Type 0 where
  pub name : Text
  pub text : Text
  pub kind : Kind

abbrev pub given_value : Given → GivenValue
given_value g = record {
  name = g.argument.now.name.now;
  text = g.text.now;
  kind = g.argument.now.kind;
}

-- the text that is given under this name: the first, where there are several
abbrev pub text_in : List GivenValue → Text → Option Text
text_in given name = option_map (λ g. g.text) (find (λ g. bytes_eq g.name name) given)

-- the option that asks for help
abbrev pub is_help : Text → Bool
is_help word = bytes_eq word (codes "--help") || bytes_eq word (codes "-h")

-- one of the words before `--` asks for help
abbrev pub has_help : List Text → Bool
has_help [] = false
has_help (word ∷ words) =
    if bytes_eq word (codes "--") then false else (is_help word || has_help words)

-- the first word asks for the version
abbrev pub has_version : List Text → Bool
has_version [] = false
has_version (word ∷ words) =
    bytes_eq word (codes "--version") || bytes_eq word (codes "-V")
