-- `load` and then `exec` on its two files do what `boot` does (this project's own).
-- No clause of `kexec` reaches what stands here: it serves laws, and contracts inside the crates.
use Rattle.std.specs.Prelude.{◌≡◌, ℕ, Bool, true, false, List, Option, Some, None, Ok}
use Rattle.kx_edge.specs.Edge.{Files}
use Rattle.kx_edge.specs.declared.edge.Shelf.{Ghosts as Shelf}
use Rattle.kx_edge.specs.declared.edge.Sink.{Ghosts as Sink}
use Rattle.load_record.specs.File.{record_file}
use Rattle.load_states.specs.States.{Checked}
use Rattle.file_commands.specs.Taking.{reads}
use Rattle.file_commands.specs.inner.Taking.{file_at}
use Rattle.kexec_words.specs.declared.commands.Runs.{Runs}
use Rattle.kexec_words.specs.declared.commands.Runs.TheVariants.{Once, Twice}
use Rattle.kexec_words.specs.Values.{BootValue, ExecValue, LoadValue}
use Rattle.kexec_plan.specs.Requests.{Plan}
use Rattle.list_commands.specs.declared.records.LoadFiles.{LoadFiles}
use Rattle.list_commands.specs.declared.records.TakenLoad.TheVariants.{Normal}
use Rattle.list_commands.specs.Exec.{HasExecuted, files_text}
use Rattle.list_commands.specs.Records.{load_files}
use Rattle.load_commands.specs.ByRules.{HasBootedLaid, HasLoadedLaid}
use Rattle.load_commands.specs.Load.{load_wish, record_of_load}
use Rattle.command_parts.specs.Runs.{run_text, wish_of}
use Rattle.load_commands.specs.Startup.{planned_startup}

-- whether these runs are two
abbrev pub is_twice : Option Runs → Bool
is_twice None = false
is_twice (Some Once) = false
is_twice (Some Twice) = true

-- the words of a load and of an exec on its two files, which ask together for what the words of a boot ask
pub record AskTogether (b : BootValue) (l : LoadValue) (e : ExecValue) : Type 0 where
  pub inputs : l.inputs ≡ b.inputs
  pub image : l.image ≡ b.image
  pub wish : load_wish l ≡ wish_of b.kept
  pub twice : e.twice ≡ is_twice b.kept
  pub memory : e.memory ≡ l.out
  pub load_record : e.load_record ≡ l.load_record

-- what a boot said
abbrev pub booted_text : Option Runs → Checked → Plan → List ℕ
booted_text runs c p = run_text runs c (planned_startup p)

-- Where `boot` was done over some files, `load` over the same ones, and `exec` over files that have what `load` put: OUT of
-- `exec` is that of `boot`, and both said the same.
abbrev pub LoadThenExecIsBoot : {S O : Type 0} → Shelf S → Sink O → Type 0
LoadThenExecIsBoot {S} {O} D E =
    (held after : Files) (s t u s' t' u' : S) (o p q o' p' q' : O) (b : BootValue) (l : LoadValue)
    (e : ExecValue) → AskTogether b l e
    → (boot : HasBootedLaid D E held s o s' o' b) (load : HasLoadedLaid D E held t p t' p' l)
    (files : LoadFiles) → reads (load_files e.memory e.load_record) after ≡ Ok (Normal files)
    → (exec : HasExecuted D E u q u' q' e files)
    → file_at after l.out ≡ load.loaded.output
    → file_at after l.load_record
    ≡ record_file (record_of_load load.loaded.checked.load load.loaded.planned)
    → (exec.output ≡ boot.booted.output)
    × (files_text e.twice files exec.checked
    ≡ booted_text b.kept boot.booted.checked boot.booted.planned)
