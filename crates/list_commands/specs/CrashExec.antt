-- What `exec` makes of a crash load (this project's own).
use Rattle.std.specs.Prelude.{◌≡◌, ℕ, Bool, true, false, List, length, Option, Some, None, Result, Ok, Err, ◌⊎◌}
use Rattle.page_memory.specs.Contents.{at}
use Rattle.kx_pages.specs.Bytes.{Mem}
use Rattle.segments.specs.Values.{pages}
use Rattle.list_checker.specs.declared.fault.ListFault.{ListFault}
use Rattle.file_commands.specs.Taking.{Refusal, too_long, by}
use Rattle.list_commands.specs.declared.records.CrashFiles.{CrashFiles}
use Rattle.command_parts.specs.declared.startup.Startup.{Startup}
use Rattle.command_parts.specs.declared.reason.Reason.{Reason}
use Rattle.command_parts.specs.declared.reason.Reason.TheVariants.{NotKept}
use Rattle.list_commands.specs.Check.{IsFaultLine, IsInPlace, IsPlaceFault}
use Rattle.command_parts.specs.Outputs.{Made, HasNoFile, IsMemoryFile}
use Rattle.command_parts.specs.Texts.{crash_ran_text}

-- A crash load of so many pages was run, which took one step and left this memory as it was: its
-- file is the output, and the text tells the load and the run.
pub record RunsInPlace (N : Mem) (pages : ℕ) (startup : Startup) (out : List ℕ) (goods : Made)
    : Type 0 where
  pub text : goods.text ≡ crash_ran_text N pages 1 startup
  pub fault : goods.fault ≡ None
  pub output : IsMemoryFile goods.outputs out N

-- what is said of a crash load that was run
abbrev pub crash_text : CrashFiles → List ℕ
crash_text x = crash_ran_text (at x.memory) (length (pages x.segments)) 1 x.startup

abbrev pub RunsCrash : CrashFiles → List ℕ → Made → Type 0
RunsCrash x out goods =
    IsInPlace x × RunsInPlace (at x.memory) (length (pages x.segments)) x.startup out goods

-- it lies in its place and was run, or its fault is told and nothing was run
abbrev pub executes_place_as : CrashFiles → List ℕ → Made → Option ListFault → Type 0
executes_place_as x out goods None = RunsCrash x out goods
executes_place_as x out goods (Some f) = IsPlaceFault x f × IsFaultLine f goods

-- A crash load is not run twice: this is refused before it is looked at. Its memory may have no
-- file.
abbrev pub executes_in_place : Bool → List ℕ → CrashFiles → Result Made (Refusal Reason) → Type 0
executes_in_place twice out x (Ok goods) =
    (twice ≡ false) × executes_place_as x out goods goods.fault
executes_in_place twice out x (Err (by why)) =
    ((why ≡ NotKept) × (twice ≡ true))
    ⊎ ((twice ≡ false) × IsInPlace x × HasNoFile (at x.memory) why)
executes_in_place twice out x (Err (too_long name limit)) = ⊥
