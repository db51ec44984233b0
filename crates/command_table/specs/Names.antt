-- The commands by their names (this project's own).
use Rattle.std.specs.Prelude.{List, [], ◌∷◌, Option, codes, find}
use Rattle.std.specs.Str.{bytes_eq}
use Rattle.command_table.specs.Table.{Text}
use Rattle.command_table.specs.declared.names.Name.{Name}
use Rattle.command_table.specs.declared.names.Name.TheVariants as name

-- all commands, in the order in which they are listed
abbrev pub names : List Name
names =
    name.Boot ∷ name.Load ∷ name.LoadPanic ∷ name.Check ∷ name.Dump ∷ name.Exec ∷ name.Trace
    ∷ name.Migrate ∷ name.Sample ∷ name.BootResident ∷ name.Drill ∷ name.Core ∷ []

-- the first word of a command, which names it
abbrev pub name_text : Name → Text
name_text name.Boot = codes "boot"
name_text name.Load = codes "load"
name_text name.LoadPanic = codes "load-panic"
name_text name.Check = codes "check"
name_text name.Dump = codes "dump"
name_text name.Exec = codes "exec"
name_text name.Trace = codes "trace"
name_text name.Migrate = codes "migrate"
name_text name.Sample = codes "sample"
name_text name.BootResident = codes "boot-resident"
name_text name.Drill = codes "drill"
name_text name.Core = codes "core"

-- the command that a word names
abbrev pub name_of : Text → Option Name
name_of t = find (λ n. bytes_eq (name_text n) t) names
