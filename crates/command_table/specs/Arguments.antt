-- The arguments of each command, in their order (this project's own).
use Rattle.std.specs.Prelude.{List, [], ◌∷◌, ◌++◌, codes}
use Rattle.command_table.specs.Table.{Text, ArgumentValue}
use Rattle.command_table.specs.declared.names.Name.{Name}
use Rattle.command_table.specs.declared.names.Name.TheVariants as name
use Rattle.command_table.specs.declared.table.Form.TheVariants as form
use Rattle.command_table.specs.declared.table.Kind.{Kind}
use Rattle.command_table.specs.declared.table.Kind.TheVariants as kind

-- a positional word that must be there
abbrev pub word : Text → Kind → ArgumentValue
word id kind =
    record { id = id; name = id; value = []; form = form.Word; kind = kind }

-- an option of one value: --id VALUE
abbrev pub option : Text → Text → Kind → ArgumentValue
option id value kind =
    record { id = id; name = codes "--" ++ id; value = value; form = form.Value; kind = kind }

-- the same, without which the command is refused
abbrev pub needed_option : Text → Text → Kind → ArgumentValue
needed_option id value kind =
    record { id = id; name = codes "--" ++ id; value = value; form = form.Needed; kind = kind }

-- an option without a value: --id
abbrev pub flag : Text → ArgumentValue
flag id =
    record {
      id = id;
      name = codes "--" ++ id;
      value = [];
      form = form.Flag;
      kind = kind.Presence;
    }

abbrev pub input : Text → ArgumentValue
input id = word id kind.Input

abbrev pub output : Text → ArgumentValue
output id = word id kind.Output

-- an option with the name of a file that is read
abbrev pub file : Text → ArgumentValue
file id = option id (codes "FILE") kind.Input

abbrev pub address : Text → ArgumentValue
address id = option id (codes "ADDRESS") kind.Address

abbrev pub needed_map : ArgumentValue
needed_map = needed_option (codes "map") (codes "FILE") kind.Input

-- the modules of `boot` and `load`: no word, one or several
abbrev pub modules : ArgumentValue
modules =
    record {
      id = codes "MODULES";
      name = codes "MODULES";
      value = [];
      form = form.Words;
      kind = kind.Input;
    }

-- what `boot` and `load` take behind --kept
abbrev pub plan_options : List ArgumentValue
plan_options =
    address (codes "below") ∷ file (codes "map")
    ∷ option (codes "type") (codes "TYPE") kind.Choice ∷ address (codes "at")
    ∷ address (codes "entry") ∷ option (codes "command") (codes "TEXT") kind.Text
    ∷ file (codes "initrd") ∷ file (codes "purgatory") ∷ []

abbrev pub boot_arguments : List ArgumentValue
boot_arguments =
    input (codes "MEMORY") ∷ input (codes "POOL") ∷ output (codes "OUT") ∷ input (codes "KERNEL")
    ∷ modules ∷ option (codes "kept") (codes "RUNS") kind.Choice ∷ plan_options

abbrev pub load_arguments : List ArgumentValue
load_arguments =
    input (codes "MEMORY") ∷ input (codes "POOL") ∷ output (codes "OUT")
    ∷ output (codes "RECORD") ∷ input (codes "KERNEL") ∷ modules ∷ flag (codes "kept")
    ∷ plan_options

abbrev pub load_panic_arguments : List ArgumentValue
load_panic_arguments =
    input (codes "MEMORY") ∷ output (codes "OUT") ∷ output (codes "RECORD")
    ∷ input (codes "KERNEL") ∷ needed_map
    ∷ option (codes "command") (codes "TEXT") kind.Text ∷ file (codes "initrd")
    ∷ file (codes "purgatory") ∷ file (codes "notes") ∷ []

-- those of `check` and `dump`
abbrev pub loaded_arguments : List ArgumentValue
loaded_arguments = input (codes "MEMORY") ∷ input (codes "RECORD") ∷ []

abbrev pub exec_arguments : List ArgumentValue
exec_arguments =
    input (codes "MEMORY") ∷ input (codes "RECORD") ∷ output (codes "OUT")
    ∷ flag (codes "twice") ∷ []

abbrev pub trace_arguments : List ArgumentValue
trace_arguments =
    input (codes "MEMORY") ∷ output (codes "OUT") ∷ word (codes "HEAD") kind.ListWord
    ∷ word (codes "LIMIT") kind.Count ∷ address (codes "swap") ∷ []

abbrev pub migrate_arguments : List ArgumentValue
migrate_arguments = input (codes "RECORD") ∷ output (codes "OUT") ∷ []

abbrev pub sample_arguments : List ArgumentValue
sample_arguments = word (codes "NUMBER") kind.Count ∷ []

abbrev pub boot_resident_arguments : List ArgumentValue
boot_resident_arguments =
    input (codes "MEMORY") ∷ input (codes "POOL") ∷ output (codes "OUT")
    ∷ input (codes "KERNEL") ∷ input (codes "PAIRS")
    ∷ needed_option (codes "at") (codes "ADDRESS") kind.Address ∷ []

abbrev pub drill_arguments : List ArgumentValue
drill_arguments =
    input (codes "MEMORY") ∷ input (codes "POOL") ∷ output (codes "OUT")
    ∷ input (codes "EVENTS") ∷ needed_map ∷ []

abbrev pub core_arguments : List ArgumentValue
core_arguments =
    input (codes "MEMORY") ∷ output (codes "OUT") ∷ word (codes "ADDRESS") kind.Address ∷ []

-- the arguments of a command, in their order
abbrev pub arguments_by : Name → List ArgumentValue
arguments_by name.Boot = boot_arguments
arguments_by name.Load = load_arguments
arguments_by name.LoadPanic = load_panic_arguments
arguments_by name.Check = loaded_arguments
arguments_by name.Dump = loaded_arguments
arguments_by name.Exec = exec_arguments
arguments_by name.Trace = trace_arguments
arguments_by name.Migrate = migrate_arguments
arguments_by name.Sample = sample_arguments
arguments_by name.BootResident = boot_resident_arguments
arguments_by name.Drill = drill_arguments
arguments_by name.Core = core_arguments
