-- What `boot` makes (this project's own).
use Rattle.std.specs.Prelude.{◌≡◌, ℕ, List, Option, None, Result, Ok, Err, [], ◌∷◌}
use Rattle.file_commands.specs.Taking.{Refusal, too_long, by}
use Rattle.load_states.specs.States.{Checked}
use Rattle.kexec_words.specs.declared.commands.Runs.{Runs}
use Rattle.kexec_words.specs.Values.{BootValue}
use Rattle.kexec_plan.specs.Requests.{Plan}
use Rattle.command_parts.specs.declared.reason.Reason.{Reason}
use Rattle.load_commands.specs.Inputs.{LoadInputs, load_inputs}
use Rattle.command_parts.specs.Outputs.{Made, IsMemoryFile, IsFileOf}
use Rattle.command_parts.specs.Runs.{after_runs, run_text, wish_of, EndsAgain, IsOnce, Leaves, MachineLeaves}
use Rattle.kx_edge.specs.Edge.{Said}
use Rattle.kx_edge.specs.declared.edge.Shelf.{Ghosts as Shelf}
use Rattle.kx_edge.specs.declared.edge.Sink.{Ghosts as Sink}
use Rattle.file_commands.specs.Answers.{FilesPut, command_of}
use Rattle.purgatory_link.specs.declared.region_test.RegionTest.TheVariants.{Same}
use Rattle.purgatory_link.specs.RegionTest.{test}
use Rattle.kexec_plan.specs.Finish.{HasTableApart}
use Rattle.command_parts.specs.Entry.{ProgramEntry}
use Rattle.load_commands.specs.NormalLoad.{CanLoad, CannotLoad, IsToldLoad, NormalLoad}
use Rattle.load_commands.specs.Startup.{planned_startup}

-- The kernel is loaded and its list run so often: the file of the memory after the last run is the output of this name,
-- and the text tells the list and each run. Or the plan or the load refuses, or that memory has no file.
abbrev pub boots : Option Runs → List ℕ → LoadInputs → Result Made (Refusal Reason) → Type 0
boots runs out i (Ok goods) =
    (p : Plan) × (c : Checked) × IsToldLoad (wish_of runs) i p c
    × (goods.text ≡ run_text runs c (planned_startup p)) × (goods.fault ≡ None)
    × IsMemoryFile goods.outputs out (after_runs runs c)
boots runs out i (Err (by why)) = CannotLoad (wish_of runs) i (after_runs runs) why
boots runs out i (Err (too_long name limit)) = ⊥

module _ {S O : Type 0} (D : Shelf S) (E : Sink O) (s : S) (o : O) (s' : S) (o' : O) where
  -- After `boot`, by what was read: the kernel was loaded. The machine's runs of its list left what they are to leave, each
  -- after as many steps as the walk has words. OUT is the file of the memory after the last run, every other file is as it
  -- was, and the text tells the list and each run.
  pub record HasBooted (b : BootValue) (i : LoadInputs) : Type 0 where
    pub planned : Plan
    pub checked : Checked
    pub load : NormalLoad (wish_of b.kept) i planned checked
    pub ends_again : EndsAgain b.kept checked
    pub runs : MachineLeaves b.kept checked
    pub leaves : Leaves b.kept checked (after_runs b.kept checked)
    -- A purgatory whose table of regions lies apart from its digest finds after one run that the regions are as planned.
    pub proves_itself : HasTableApart planned → IsOnce b.kept
        → test (after_runs b.kept checked) planned.regions planned.digest ≡ Same
    pub output : List ℕ
    pub is_memory : IsFileOf (after_runs b.kept checked) output
    pub put : FilesPut (D.files s) ((b.out, output) ∷ []) (D.files s')
    pub said : Said (E.said o) (run_text b.kept checked (planned_startup planned)) (E.said o')

abbrev pub boot_entry : BootValue → ProgramEntry
boot_entry b = record {
  Inputs = LoadInputs;
  command = command_of (load_inputs b.image b.inputs) (boots b.kept b.out);
  did = λ D E i s o s' o'. HasBooted D E s o s' o' b i;
  can = λ i. CanLoad (wish_of b.kept) i (after_runs b.kept);
}
