-- What the table says of an argument, as the contracts see it (this project's own).
-- No clause of `kexec` reaches what stands here: it serves laws, and contracts inside the crates.
use Rattle.std.specs.Prelude.{Bool, true, false, List, map}
use Rattle.command_table.specs.declared.table.Argument.{Argument}
use Rattle.command_table.specs.declared.table.Form.{Form}
use Rattle.command_table.specs.declared.table.Form.TheVariants as form
use Rattle.command_table.specs.declared.table.Kind.{Kind}
use Rattle.command_table.specs.declared.table.Kind.TheVariants as kind
use Rattle.command_table.specs.Table.{ArgumentValue}

-- the name of a file
abbrev pub is_file : Kind → Bool
is_file kind.Input = true
is_file kind.Output = true
is_file other = false

-- a number in hexadecimal
abbrev pub is_hexadecimal : Kind → Bool
is_hexadecimal kind.Address = true
is_hexadecimal kind.ListWord = true
is_hexadecimal other = false

abbrev pub is_number : Kind → Bool
is_number kind.Address = true
is_number kind.ListWord = true
is_number kind.Count = true
is_number other = false

abbrev pub is_option : Form → Bool
is_option form.Word = false
is_option form.Words = false
is_option other = true

abbrev pub argument_value : Argument → ArgumentValue
argument_value a = record {
  id = a.id.now;
  name = a.name.now;
  value = a.value.now;
  form = a.form;
  kind = a.kind;
}

abbrev pub argument_values : List Argument → List ArgumentValue
argument_values = map argument_value
