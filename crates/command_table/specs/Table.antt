-- What the table says of an argument, as the contracts see it (this project's own).
use Rattle.std.specs.Prelude.{ℕ, List}
use Rattle.command_table.specs.declared.table.Form.{Form}
use Rattle.command_table.specs.declared.table.Kind.{Kind}

-- a text is the list of its bytes
abbrev pub Text : Type 0
Text = List ℕ

-- an argument: its names for clap and for people, that of its value, how it is given, and what it is
pub record ArgumentValue : Type 0 where
  pub id : Text
  pub name : Text
  pub value : Text
  pub form : Form
  pub kind : Kind
