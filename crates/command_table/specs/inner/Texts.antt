-- How options and words are named in texts, and what the table says of which words (this project's own).
-- No clause of `kexec` reaches what stands here: it serves laws, and contracts inside the crates.
use Rattle.std.specs.Prelude.{ℕ, List, [], ◌∷◌, codes, Option, Some, None}
use Rattle.command_table.specs.declared.faults.Which.{Which}
use Rattle.command_table.specs.declared.faults.Which.TheVariants as which
use Rattle.command_table.specs.declared.names.Name.{Name}
use Rattle.command_table.specs.Table.{ArgumentValue}
use Rattle.command_table.specs.Arguments.{arguments_by}
use Rattle.command_table.specs.Names.{name_of}

-- the option or the word, as users write it
abbrev pub which_text : Which → List ℕ
which_text which.«Type» = codes "--type"
which_text which.Kept = codes "--kept"
which_text which.At = codes "--at"
which_text which.Entry = codes "--entry"
which_text which.Below = codes "--below"
which_text which.Swap = codes "--swap"
which_text which.Head = codes "HEAD"
which_text which.Limit = codes "LIMIT"
which_text which.Number = codes "NUMBER"
which_text which.Address = codes "ADDRESS"

-- none where no command is named
abbrev pub arguments_of : Option Name → List ArgumentValue
arguments_of None = []
arguments_of (Some name) = arguments_by name

-- the command that the first word names
abbrev pub first_name : List (List ℕ) → Option Name
first_name [] = None
first_name (word ∷ words) = name_of word
