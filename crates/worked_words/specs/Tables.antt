-- The table of a command's arguments, column by column (this project's own).
use Rattle.std.specs.Prelude.{List, map}
use Rattle.clap.specs.Words.{Rule, Text}
use Rattle.command_table.specs.Table.{ArgumentValue}
use Rattle.command_table.specs.declared.table.Form.{Form}
use Rattle.command_table.specs.declared.table.Kind.{Kind}

-- the names for people, in their order
abbrev pub names_in : List ArgumentValue → List Text
names_in = map (λ a. a.name)

-- the names for the parser
abbrev pub ids_in : List ArgumentValue → List Text
ids_in = map (λ a. a.id)

-- what their values are called
abbrev pub values_in : List ArgumentValue → List Text
values_in = map (λ a. a.value)

abbrev pub forms_in : List ArgumentValue → List Form
forms_in = map (λ a. a.form)

abbrev pub kinds_in : List ArgumentValue → List Kind
kinds_in = map (λ a. a.kind)

-- the names of the parser's rules
abbrev pub rule_names_in : List Rule → List Text
rule_names_in = map (λ r. r.id)
