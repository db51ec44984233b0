-- What `exec` makes (this project's own).
use Rattle.std.specs.Prelude.{◌≡◌, ℕ, Bool, true, false, List, Option, Some, None, Result, Ok, Err, ◌⊎◌, [], ◌∷◌}
use Rattle.kx_pages.specs.declared.image.Mode.{Mode}
use Rattle.kx_pages.specs.declared.image.Mode.TheVariants.{Plain, Kept}
use Rattle.list_checker.specs.declared.fault.ListFault.{ListFault}
use Rattle.load_states.specs.States.{Load, no_pages, Checked}
use Rattle.load_states.specs.Ready.{Told}
use Rattle.file_commands.specs.Taking.{Refusal, too_long, by}
use Rattle.kexec_words.specs.Values.{ExecValue}
use Rattle.kexec_words.specs.declared.commands.Runs.{Runs}
use Rattle.kexec_words.specs.declared.commands.Runs.TheVariants.{Once, Twice}
use Rattle.list_commands.specs.declared.records.LoadFiles.{LoadFiles}
use Rattle.list_commands.specs.declared.records.TakenLoad.{TakenLoad}
use Rattle.list_commands.specs.declared.records.TakenLoad.TheVariants as kinds
use Rattle.command_parts.specs.declared.reason.Reason.{Reason}
use Rattle.command_parts.specs.declared.reason.Reason.TheVariants.{NotKept}
use Rattle.list_commands.specs.Check.{IsFaultIn, IsFaultLine, IsAcceptedIn, IsInPlace}
use Rattle.list_commands.specs.CrashExec.{executes_in_place, crash_text}
use Rattle.list_commands.specs.Records.{load_files}
use Rattle.command_parts.specs.Outputs.{Made, HasNoFile, IsMemoryFile, IsFileOf, IsTooHeavy}
use Rattle.command_parts.specs.Runs.{after_runs, checked_with, run_text, EndsAgain, Leaves, MachineLeaves}
use Rattle.kx_edge.specs.Edge.{Said}
use Rattle.kx_edge.specs.declared.edge.Shelf.{Ghosts as Shelf}
use Rattle.kx_edge.specs.declared.edge.Sink.{Ghosts as Sink}
use Rattle.kx_pages.specs.declared.item.Item.{Item}
use Rattle.page_memory.specs.Contents.{at}
use Rattle.load_states.specs.Runs.{EndsAfter}
use Rattle.file_commands.specs.Answers.{FilesPut, command_of}
use Rattle.list_commands.specs.declared.records.CrashFiles.{CrashFiles}
use Rattle.command_parts.specs.declared.startup.Startup.{Startup}
use Rattle.command_parts.specs.Entry.{ProgramEntry}

-- a second run is asked for, and there is no swap page to run the list again with
abbrev pub lacks_swap_page : Bool → Mode → Bool
lacks_swap_page twice Plain = twice
lacks_swap_page twice (Kept swap) = false

-- the runs of a list in this mode: a plain list runs once, and with context preserved the list may run once more
abbrev pub runs_of : Bool → Mode → Option Runs
runs_of twice Plain = None
runs_of false (Kept swap) = Some Once
runs_of true (Kept swap) = Some Twice

-- the load that the files tell: no page is drawn for it any more
abbrev pub load_of : LoadFiles → Load
load_of x = record {
  memory = x.memory;
  pool = no_pages;
  image = x.image;
  segments = x.segments;
}

-- The accepted list of a load is run: the file of the memory after the last run is the output, and the text tells the list
-- and each run.
abbrev pub RunsList : Option Runs → Load → Startup → List ℕ → Made → Type 0
RunsList runs load startup out goods =
    (words : ℕ) × (links : ℕ) × (qs : List (ℕ × ℕ)) × Told load words links qs
    × (goods.text ≡ run_text runs (checked_with load words links qs) startup)
    × (goods.fault ≡ None)
    × IsMemoryFile goods.outputs out (after_runs runs (checked_with load words links qs))

-- the memory after the last run has no file, for this reason
abbrev pub RefusesRun : Option Runs → Load → Reason → Type 0
RefusesRun runs load why =
    (words : ℕ) × (links : ℕ) × (qs : List (ℕ × ℕ)) × Told load words links qs
    × HasNoFile (after_runs runs (checked_with load words links qs)) why

-- the runs that are asked of the list of the files
abbrev pub runs_asked : Bool → LoadFiles → Option Runs
runs_asked twice x = runs_of twice x.image.mode

-- a second run is asked for, and there is no swap page
abbrev pub is_not_kept : Bool → LoadFiles → Bool
is_not_kept twice x = lacks_swap_page twice x.image.mode

abbrev pub RunsFiles : LoadFiles → Bool → List ℕ → Made → Type 0
RunsFiles x twice out goods = RunsList (runs_asked twice x) (load_of x) x.startup out goods

abbrev pub RefusesFiles : LoadFiles → Bool → Reason → Type 0
RefusesFiles x twice why = RefusesRun (runs_asked twice x) (load_of x) why

-- the list is accepted and was run, or its first fault is told and nothing was run
abbrev pub executes_as : LoadFiles → Bool → List ℕ → Made → Option ListFault → Type 0
executes_as x twice out goods None = RunsFiles x twice out goods
executes_as x twice out goods (Some f) = IsFaultIn x f × IsFaultLine f goods

-- A plain list is not run twice: this is refused before the list is looked at. After the runs memory
-- may have no file.
abbrev pub executes_list : Bool → List ℕ → LoadFiles → Result Made (Refusal Reason) → Type 0
executes_list twice out x (Ok goods) =
    (is_not_kept twice x ≡ false) × executes_as x twice out goods goods.fault
executes_list twice out x (Err (by why)) =
    ((why ≡ NotKept) × (is_not_kept twice x ≡ true))
    ⊎ ((is_not_kept twice x ≡ false) × RefusesFiles x twice why)
executes_list twice out x (Err (too_long name limit)) = ⊥

-- by the record's kind
abbrev pub executes : Bool → List ℕ → TakenLoad → Result Made (Refusal Reason) → Type 0
executes twice out (kinds.Normal x) r = executes_list twice out x r
executes twice out (kinds.Crash x) r = executes_in_place twice out x r

-- what `exec` says of a list that it ran, by what was taken
abbrev pub files_text : Bool → LoadFiles → Checked → List ℕ
files_text twice x c = run_text (runs_asked twice x) c x.startup

module _ {S O : Type 0} (D : Shelf S) (E : Sink O) (s : S) (o : O) (s' : S) (o' : O) where
  -- After `exec` of a normal load: the record's list is accepted in the memory for the record's
  -- segments. The machine's runs of it left what they are to leave, each after as many steps as the
  -- walk has words; OUT is the file of that memory, every other file is as it was, and the text tells
  -- the list and each run.
  pub record HasExecuted (e : ExecValue) (files : LoadFiles) : Type 0 where
    pub checked : Checked
    pub of_files : checked.load ≡ load_of files
    pub accepted : Told checked.load checked.words checked.links checked.pairs
    pub ends : EndsAfter checked.load checked.words
    pub ends_again : EndsAgain (runs_asked e.twice files) checked
    pub runs : MachineLeaves (runs_asked e.twice files) checked
    pub leaves : Leaves (runs_asked e.twice files) checked
        (after_runs (runs_asked e.twice files) checked)
    pub output : List ℕ
    pub is_memory : IsFileOf (after_runs (runs_asked e.twice files) checked) output
    pub put : FilesPut (D.files s) ((e.out, output) ∷ []) (D.files s')
    pub said : Said (E.said o) (files_text e.twice files checked) (E.said o')

  -- After `exec` of a crash load: it lies in its place. OUT is the file of the memory as it was, every
  -- other file is as it was, and the text tells the load, and one run of one step.
  pub record HasExecutedCrash (e : ExecValue) (files : CrashFiles) : Type 0 where
    pub once : e.twice ≡ false
    pub accepted : IsInPlace files
    pub output : List ℕ
    pub is_memory : IsFileOf (at files.memory) output
    pub put : FilesPut (D.files s) ((e.out, output) ∷ []) (D.files s')
    pub said : Said (E.said o) (crash_text files) (E.said o')

  -- after `exec`, by the load that was read
  abbrev pub HasExecutedLoad : ExecValue → TakenLoad → Type 0
  HasExecutedLoad e (kinds.Normal files) = HasExecuted e files
  HasExecutedLoad e (kinds.Crash files) = HasExecutedCrash e files

-- the record's list is accepted in the memory, a record that is to run twice is in kept mode, and the
-- memory after the runs has a file
pub record CanRun (x : LoadFiles) (twice : Bool) : Type 0 where
  pub items : List Item
  pub accepted : IsAcceptedIn x items
  pub kept : is_not_kept twice x ≡ false
  pub light : (c : Checked) (n : ℕ) → c.load ≡ load_of x
      → Told c.load c.words c.links c.pairs
      → IsTooHeavy (after_runs (runs_asked twice x) c) n → ⊥

-- a crash load lies in its place, and is to run once
pub record CanRunInPlace (x : CrashFiles) (twice : Bool) : Type 0 where
  pub accepted : IsInPlace x
  pub once : twice ≡ false
  pub light : (n : ℕ) → IsTooHeavy (at x.memory) n → ⊥

abbrev pub CanExec : TakenLoad → Bool → Type 0
CanExec (kinds.Normal x) twice = CanRun x twice
CanExec (kinds.Crash x) twice = CanRunInPlace x twice

abbrev pub exec_entry : ExecValue → ProgramEntry
exec_entry e = record {
  Inputs = TakenLoad;
  command = command_of (load_files e.memory e.load_record) (executes e.twice e.out);
  did = λ D E x s o s' o'. HasExecutedLoad D E s o s' o' e x;
  can = λ x. CanExec x e.twice;
}
