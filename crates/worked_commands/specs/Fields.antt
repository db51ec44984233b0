-- The fields of what is promised of a run, in their order, where a shelf that held nothing holds these files after it, and a
-- sink to which nothing was said has been said this text (this project's own).
use Rattle.std.specs.Prelude.{◌≡◌, ℕ, List, [], ◌∷◌, Some, None, Ok, false}
use Rattle.std.specs.FinMap.{empty}
use Rattle.kx_pages.specs.Spans.{Run, in_span}
use Rattle.page_memory.specs.Contents.{Contents, at}
use Rattle.memory_map.specs.Maps.{reserved_area}
use Rattle.segments.specs.Values.{want}
use Rattle.load_record.specs.File.{Record}
use Rattle.load_states.specs.Ready.{Told}
use Rattle.load_states.specs.Runs.{EndsAfter}
use Rattle.load_states.specs.States.{Checked, CrashLoad}
use Rattle.purgatory_link.specs.declared.region_test.RegionTest.TheVariants.{Same}
use Rattle.purgatory_link.specs.RegionTest.{test}
use Rattle.resident_planner.specs.Cycles.{deviating}
use Rattle.resident_planner.specs.Made.{DeviatesAtLeast}
use Rattle.resident_planner.specs.Refusals.{resident_of}
use Rattle.resident_planner.specs.declared.plan.Made.{Made as ResidentList}
use Rattle.kexec_plan.specs.Finish.{HasTableApart}
use Rattle.kexec_plan.specs.Plan.{plan}
use Rattle.kexec_plan.specs.Requests.{Plan}
use Rattle.kexec_words.specs.Values.{BootResidentValue, BootValue, ExecValue}
use Rattle.kx_edge.specs.Edge.{Files, Said}
use Rattle.file_commands.specs.Answers.{FilesPut}
use Rattle.load_commands.specs.BootResident.{IsResident, ResidentInputs, load_with, resident_text}
use Rattle.load_commands.specs.CrashInputs.{CrashInputs}
use Rattle.list_commands.specs.Exec.{files_text, load_of, runs_asked}
use Rattle.list_commands.specs.Records.{list_files}
use Rattle.load_commands.specs.Inputs.{LoadInputs}
use Rattle.load_commands.specs.NormalLoad.{NormalLoad}
use Rattle.command_parts.specs.Outputs.{IsFileOf}
use Rattle.command_parts.specs.Runs.{EndsAgain, IsOnce, Leaves, MachineLeaves, after_runs, run_text, wish_of}
use Rattle.load_commands.specs.Startup.{planned_startup}
use Rattle.worked_commands.specs.Shelves.{Desk, Slate}

-- a shelf that holds these files, and a sink that has been said this
abbrev pub desk_of : Files → Desk
desk_of held = record { files = Some held; faults = 0 }

abbrev pub slate_of : List ℕ → Slate
slate_of text = record { said = Some text; faults = 0 }

-- these bytes were put under this name, and all else is as it was; this was said
abbrev pub IsPut : List ℕ → List ℕ → Files → Type 0
IsPut name output now = FilesPut (Some empty) ((name, output) ∷ []) (Some now)

abbrev pub IsSaid : List ℕ → List ℕ → Type 0
IsSaid line text = Said (Some []) line (Some text)

-- HasBooted
abbrev pub fields_of_boot : BootValue → LoadInputs → Plan → Checked → (output : List ℕ) → Files
    → (text : List ℕ) → List (Type 0)
fields_of_boot b i p c output now text =
    NormalLoad (wish_of b.kept) i p c
    ∷ EndsAgain b.kept c
    ∷ MachineLeaves b.kept c
    ∷ Leaves b.kept c (after_runs b.kept c)
    ∷ (HasTableApart p → IsOnce b.kept → test (after_runs b.kept c) p.regions p.digest ≡ Same)
    ∷ IsFileOf (after_runs b.kept c) output
    ∷ IsPut b.out output now
    ∷ IsSaid (run_text b.kept c (planned_startup p)) text ∷ []

-- HasExecuted, of a memory and the record of a list
abbrev pub fields_of_exec : ExecValue → Contents → Record → Checked → (output : List ℕ) → Files
    → (text : List ℕ) → List (Type 0)
fields_of_exec e m r c output now text =
    (c.load ≡ load_of (list_files m r))
    ∷ Told c.load c.words c.links c.pairs
    ∷ EndsAfter c.load c.words
    ∷ EndsAgain (runs_asked e.twice (list_files m r)) c
    ∷ MachineLeaves (runs_asked e.twice (list_files m r)) c
    ∷ Leaves (runs_asked e.twice (list_files m r)) c
    (after_runs (runs_asked e.twice (list_files m r)) c)
    ∷ IsFileOf (after_runs (runs_asked e.twice (list_files m r)) c) output
    ∷ IsPut e.out output now
    ∷ IsSaid (files_text e.twice (list_files m r) c) text ∷ []

-- PanicLoad
abbrev pub fields_of_panic : CrashInputs → Plan → Run → CrashLoad → List (Type 0)
fields_of_panic i p area load =
    (plan i.request (Some i.map) ≡ Ok p)
    ∷ (reserved_area i.map ≡ Some area)
    ∷ ((q : ℕ) → in_span area q ≡ false → at load.memory q ≡ at i.memory q)
    ∷ ((q : ℕ) (bytes : List ℕ) → want p.segments q ≡ Some bytes → at load.memory q ≡ bytes)
    ∷ ((q : ℕ) → want p.segments q ≡ None → at load.memory q ≡ at i.memory q)
    ∷ (load.head ≡ 4)
    ∷ (load.segments ≡ p.segments) ∷ []

-- HasBootedResident
abbrev pub fields_of_resident : BootResidentValue → ResidentInputs → Plan → ResidentList → Checked
    → (output : List ℕ) → Files → (text : List ℕ) → List (Type 0)
fields_of_resident b i p m c output now text =
    IsResident i.load i.pairs p m
    ∷ (c.load ≡ load_with p m)
    ∷ Told c.load c.words c.links c.pairs
    ∷ (deviating (resident_of i.pairs) c.pairs ≡ m.copied)
    ∷ DeviatesAtLeast p.segments i.pairs m.copied
    ∷ EndsAfter c.load c.words
    ∷ MachineLeaves None c
    ∷ Leaves None c (after_runs None c)
    ∷ IsFileOf (after_runs None c) output
    ∷ IsPut b.out output now
    ∷ IsSaid (resident_text c p.start m.copied) text ∷ []
