-- What `load-panic` makes (this project's own).
use Rattle.std.specs.Prelude.{◌≡◌, ℕ, List, [], ◌∷◌, length, true, None, Some, Result, Ok, Err, ◌⊎◌, false}
use Rattle.kx_pages.specs.declared.image.Mode.TheVariants.{Plain}
use Rattle.page_memory.specs.Contents.{at}
use Rattle.segments.specs.Values.{pages, want}
use Rattle.file_commands.specs.Taking.{Refusal, too_long, by}
use Rattle.load_states.specs.States.{CrashLoad}
use Rattle.load_record.specs.File.{Record, record_file}
use Rattle.kexec_words.specs.Values.{LoadPanicValue}
use Rattle.kexec_plan.specs.Requests.{Plan}
use Rattle.command_parts.specs.declared.reason.Reason.{Reason}
use Rattle.load_commands.specs.CrashInputs.{CrashInputs, crash_inputs}
use Rattle.load_commands.specs.CrashLoading.{IsCrashLoaded}
use Rattle.command_parts.specs.Outputs.{IsReadBack, Made, HasNoFile, IsFileOf, IsTooHeavy}
use Rattle.load_commands.specs.Loading.{HasNoPlan}
use Rattle.command_parts.specs.Texts.{crash_lines}
use Rattle.kx_edge.specs.Edge.{Said}
use Rattle.kx_edge.specs.declared.edge.Shelf.{Ghosts as Shelf}
use Rattle.kx_edge.specs.declared.edge.Sink.{Ghosts as Sink}
use Rattle.kx_pages.specs.Spans.{Run, in_span}
use Rattle.memory_map.specs.Maps.{reserved_area}
use Rattle.file_commands.specs.Answers.{FilesPut, command_of}
use Rattle.kexec_plan.specs.Plan.{plan}
use Rattle.command_parts.specs.Entry.{ProgramEntry}

-- the record of a crash load: plain, without a control page, its list the head alone
abbrev pub record_of_crash : CrashLoad → Plan → Record
record_of_crash load p = record {
  crash = true;
  image = record { head = load.head; mode = Plain; control = 0 };
  start = p.start;
  regions = p.regions;
  digest = p.digest;
  segments = load.segments;
}

-- what is said of a crash load
abbrev pub panic_text : Plan → List ℕ
panic_text p = crash_lines (length (pages p.segments)) p.start

-- The kernel lies in its place: the file of the memory after the load and its record, which reads back,
-- are the outputs of these names, and the text tells how many pages it has and how it starts. Or the
-- plan refuses, or that memory has no file.
abbrev pub loads_panic : List ℕ → List ℕ → CrashInputs → Result Made (Refusal Reason) → Type 0
loads_panic out load_record i (Ok goods) =
    (p : Plan) × (load : CrashLoad) × IsCrashLoaded i p load
    × (goods.text ≡ panic_text p) × (goods.fault ≡ None)
    × (bytes : List ℕ) × IsFileOf (at load.memory) bytes
    × (goods.outputs ≡ (out, bytes) ∷ (load_record, record_file (record_of_crash load p)) ∷ [])
    × IsReadBack (record_of_crash load p)
loads_panic out load_record i (Err (by why)) =
    HasNoPlan i.request (Some i.map) why
    ⊎ ((p : Plan) × (load : CrashLoad) × IsCrashLoaded i p load × HasNoFile (at load.memory) why)
loads_panic out load_record i (Err (too_long name limit)) = ⊥

-- A crash kernel was put in its place, whatever memory held.
pub record PanicLoad (i : CrashInputs) (p : Plan) (load : CrashLoad) : Type 0 where
  -- the request has this plan
  pub planned : plan i.request (Some i.map) ≡ Ok p
  -- the memory map has this reserved area
  pub area : Run
  pub reserved : reserved_area i.map ≡ Some area
  -- memory is as it was at every page outside the area
  pub only_the_area : (q : ℕ) → in_span area q ≡ false → at load.memory q ≡ at i.memory q
  -- each page of the segments has its segment's bytes and then zeros
  pub arrives : (q : ℕ) (bytes : List ℕ) → want p.segments q ≡ Some bytes → at load.memory q ≡ bytes
  -- and memory is as it was at every other page
  pub only_its_pages : (q : ℕ) → want p.segments q ≡ None → at load.memory q ≡ at i.memory q
  -- the list is the done word alone
  pub head : load.head ≡ 4
  pub segments : load.segments ≡ p.segments

module _ {S O : Type 0} (D : Shelf S) (E : Sink O) (s : S) (o : O) (s' : S) (o' : O) where
  -- After `load-panic`, by what was read: the crash kernel was put in its place. OUT is the file of the memory after the
  -- load. RECORD tells its start and segments, and reads back as it was written. Every other file is as
  -- it was, and the text tells how many pages it has and how it starts.
  pub record HasLoadedPanic (l : LoadPanicValue) (i : CrashInputs) : Type 0 where
    pub planned : Plan
    pub loaded : CrashLoad
    pub load : PanicLoad i planned loaded
    pub output : List ℕ
    pub is_memory : IsFileOf (at loaded.memory) output
    pub read_back : IsReadBack (record_of_crash loaded planned)
    pub put : FilesPut (D.files s)
        ((l.out, output) ∷ (l.load_record, record_file (record_of_crash loaded planned)) ∷ [])
        (D.files s')
    pub said : Said (E.said o) (panic_text planned) (E.said o')

-- Nothing refuses the crash load of what was taken: the request has a plan, and the memory that it leaves has a file.
pub record CanLoadPanic (i : CrashInputs) : Type 0 where
  pub p : Plan
  pub planned : plan i.request (Some i.map) ≡ Ok p
  pub light : (c : CrashLoad) (n : ℕ) → IsCrashLoaded i p c → IsTooHeavy (at c.memory) n → ⊥

abbrev pub load_panic_entry : LoadPanicValue → ProgramEntry
load_panic_entry l = record {
  Inputs = CrashInputs;
  command = command_of (crash_inputs l.inputs l.map) (loads_panic l.out l.load_record);
  did = λ D E i s o s' o'. HasLoadedPanic D E s o s' o' l i;
  can = CanLoadPanic;
}
