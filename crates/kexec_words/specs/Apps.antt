-- The simple clap command of each command, which takes its arguments (this project's own).
use Rattle.std.specs.Prelude.{true, List, [], map, Some}
use Rattle.clap.specs.Words.{App, Rule, Text, new_rule}
use Rattle.clap.specs.Simple.{new_shape}
use Rattle.clap.specs.declared.builder.action.ArgAction.TheVariants.{Set, Append, SetTrue}
use Rattle.command_table.specs.Table.{ArgumentValue}
use Rattle.command_table.specs.Arguments.{arguments_by}
use Rattle.command_table.specs.Names.{name_text}
use Rattle.command_table.specs.declared.names.Name.{Name}
use Rattle.command_table.specs.declared.table.Form.{Form}
use Rattle.command_table.specs.declared.table.Form.TheVariants as form

-- how clap takes an argument
abbrev pub rule_in : Form → Text → Rule
rule_in form.Word id = record (new_rule id) { required = true; action = Some Set }
rule_in form.Words id = record (new_rule id) { action = Some Append }
rule_in form.Value id = record (new_rule id) { long = Some id; action = Some Set }
rule_in form.Needed id = record (new_rule id) { long = Some id; action = Some Set }
rule_in form.Flag id = record (new_rule id) { long = Some id; action = Some SetTrue }

abbrev pub rule_by : ArgumentValue → Rule
rule_by a = rule_in a.form a.id

abbrev pub rules_of : List ArgumentValue → List Rule
rules_of = map rule_by

-- a command of this name, which reads the words after its name
abbrev pub app_with : Text → List Rule → App
app_with name rules =
    record { top = record (new_shape name) { no_binary_name = true; rules = rules }; subs = [] }

abbrev pub app_taking : Text → List ArgumentValue → App
app_taking name arguments = app_with name (rules_of arguments)

-- the clap command of a command
abbrev pub app_by : Name → App
app_by name = app_taking (name_text name) (arguments_by name)
