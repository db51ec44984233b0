-- Files among the words that are given (this project's own).
-- No clause of `kexec` reaches what stands here: it serves laws, and contracts inside the crates.
use Rattle.std.specs.Prelude.{◌&&◌, not, Bool, true, false, List, [], ◌∷◌, Option, Some, None, if◌then◌else◌, find, option_map}
use Rattle.std.specs.Borrow.{Bor}
use Rattle.std.specs.Str.{bytes_eq}
use Rattle.command_table.specs.inner.Table.{is_file}
use Rattle.command_table.specs.declared.table.Kind.{Kind}
use Rattle.command_table.specs.declared.table.Kind.TheVariants as kind
use Rattle.kexec_usage.specs.inner.Words.{Text, GivenValue, given_value}
use Rattle.kexec_usage.specs.declared.given.Given.{Given}

-- whether g is another file, with the text of this one
abbrev pub is_other_with : GivenValue → GivenValue → Bool
is_other_with file g =
    not (bytes_eq g.name file.name) && (is_file g.kind && bytes_eq g.text file.text)

-- the name of another file with the text of this one
abbrev pub other_with : List GivenValue → GivenValue → Option Text
other_with given file = option_map (λ g. g.name) (find (is_other_with file) given)

-- a file that is written
abbrev pub is_written : Kind → Bool
is_written kind.Output = true
is_written other = false

abbrev pub or_shared_file : GivenValue → Option Text → Option (GivenValue × Text)
    → Option (GivenValue × Text)
or_shared_file g None later = later
or_shared_file g (Some name) later = Some (g, name)

-- the first of these files that is written and has the text of another of all that are given, and that one's name
abbrev pub first_shared_file : List GivenValue → List GivenValue → Option (GivenValue × Text)
first_shared_file [] given = None
first_shared_file (g ∷ gs) given =
    if is_written g.kind then or_shared_file g (other_with given g) (first_shared_file gs given)
    else first_shared_file gs given

-- the same of all files that are given
abbrev pub shared_file : List GivenValue → Option (GivenValue × Text)
shared_file given = first_shared_file given given

abbrev pub shared_value : Given × Bor Text → GivenValue × Text
shared_value s = (given_value s.0, s.1.now)
