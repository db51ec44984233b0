-- What `boot-resident` takes and makes (this project's own).
use Rattle.std.specs.Prelude.{◌≡◌, ◌⊎◌, ℕ, List, [], ◌∷◌, ◌++◌, None, codes, decimal, map, Result, Ok, Err}
use Rattle.kx_edge.specs.Edge.{Said}
use Rattle.kx_edge.specs.declared.edge.Shelf.{Ghosts as Shelf}
use Rattle.kx_edge.specs.declared.edge.Sink.{Ghosts as Sink}
use Rattle.kx_pages.specs.declared.image.ImageType.{ImageType}
use Rattle.kx_pages.specs.declared.image.ImageType.TheVariants.{Raw}
use Rattle.kx_pages.specs.declared.image.Start.{Start}
use Rattle.kx_pages.specs.Bytes.{Mem}
use Rattle.page_memory.specs.Contents.{at}
use Rattle.segments.specs.Values.{SegmentValue}
use Rattle.list_checker.specs.Checked.{as_pair}
use Rattle.list_checker.specs.declared.earlier.Pair.{Pair}
use Rattle.load_states.specs.Ready.{Told}
use Rattle.load_states.specs.Runs.{EndsAfter}
use Rattle.load_states.specs.States.{Checked, Load, no_pages}
use Rattle.resident_planner.specs.Cycles.{deviating}
use Rattle.resident_planner.specs.Made.{DeviatesAtLeast, IsMade}
use Rattle.resident_planner.specs.Pairs.{pairs_reading}
use Rattle.resident_planner.specs.Refusals.{IsFault, resident_of}
use Rattle.resident_planner.specs.declared.plan.Made.{Made as ResidentList}
use Rattle.file_commands.specs.Answers.{FilesPut, command_of}
use Rattle.file_commands.specs.Files.{from_reader, whole_file}
use Rattle.file_commands.specs.Taking.{Refusal, Take, ok, too_long, by, ◌>>=◌}
use Rattle.kexec_words.specs.Values.{BootResidentValue, InputsValue}
use Rattle.kexec_plan.specs.Requests.{Plan}
use Rattle.kexec_plan.specs.Plan.{plan}
use Rattle.command_parts.specs.declared.reason.Reason.{Reason}
use Rattle.command_parts.specs.declared.reason.Reason.TheVariants as reasons
use Rattle.command_parts.specs.declared.reason.InputFault.TheVariants as inputs
use Rattle.command_parts.specs.Entry.{ProgramEntry}
use Rattle.command_parts.specs.Files.{text_limit}
use Rattle.load_commands.specs.Inputs.{LoadInputs, load_inputs}
use Rattle.load_commands.specs.Loading.{HasNoPlan}
use Rattle.command_parts.specs.Outputs.{Made, HasNoFile, IsFileOf, IsMemoryFile, IsTooHeavy}
use Rattle.command_parts.specs.Runs.{Leaves, MachineLeaves, after_runs, list_text}
use Rattle.command_parts.specs.Texts.{ran_line}

-- how many pages have a resident page and another source
abbrev pub copied_line : ℕ → List ℕ
copied_line copied = codes "copied " ++ (decimal copied ++ codes "\n")

-- what is said of the list, of what it copies, and of its run
abbrev pub resident_text : Checked → Start → ℕ → List ℕ
resident_text c start copied = (list_text c start ++ copied_line copied) ++ ran_line c.words

-- what `boot-resident` took: what the load of a raw kernel is made of, and the pairs of destination and
-- resident page
pub record ResidentInputs : Type 0 where
  pub load : LoadInputs
  pub pairs : List (ℕ × ℕ)

-- the pairs of a file: a destination, and the page that holds what it is to have
abbrev pub pairs_file : List ℕ → Take Reason (List Pair)
pairs_file name = do
  bytes ← whole_file text_limit name
  from_reader (λ e. reasons.Input (inputs.Pairs e)) (pairs_reading bytes)

-- the files of a raw kernel alone: each page of the pool is usable
abbrev pub raw_inputs : (memory pool kernel : List ℕ) → InputsValue
raw_inputs memory pool kernel = record {
  memory = memory;
  pool = pool;
  below = None;
  map = None;
  kernel = kernel;
  initrd = None;
  purgatory = None;
  modules = [];
  command = None;
}

-- what a load is made of, and then the pairs of a file
abbrev pub inputs_with_pairs : ImageType → InputsValue → List ℕ → Take Reason ResidentInputs
inputs_with_pairs image i pairs = do
  x ← load_inputs image i
  rs ← pairs_file pairs
  ok (record { load = x; pairs = map as_pair rs })

-- the kernel starts where it lies
abbrev pub resident_files : BootResidentValue → Take Reason ResidentInputs
resident_files b =
    inputs_with_pairs (Raw b.at b.at) (raw_inputs b.memory b.pool b.kernel) b.pairs

-- the load of a list that was made: no page is drawn for it any more
abbrev pub load_with : Plan → ResidentList → Load
load_with p m =
    record { memory = m.memory; pool = no_pages; image = m.image; segments = p.segments }

-- the kernel has this plan, and this is the list of its segments over the usable pages of the pool,
-- by the pairs
pub record IsResident (i : LoadInputs) (rs : List (ℕ × ℕ)) (p : Plan) (m : ResidentList)
    : Type 0 where
  pub planned : plan i.request i.map ≡ Ok p
  pub made : IsMade (at i.memory) p.segments i.usable rs m

-- the segments have no list by the pairs, for this reason
abbrev pub HasNoList : Mem → List SegmentValue → List ℕ → List (ℕ × ℕ) → Reason → Type 0
HasNoList M ss usable rs (reasons.Resident fault) = IsFault M ss usable rs fault
HasNoList M ss usable rs other = ⊥

-- the kernel has no plan, or its segments have no list
abbrev pub RefusesResident : LoadInputs → List (ℕ × ℕ) → Reason → Type 0
RefusesResident i rs (reasons.Resident fault) =
    (p : Plan) × (plan i.request i.map ≡ Ok p)
    × HasNoList (at i.memory) p.segments i.usable rs (reasons.Resident fault)
RefusesResident i rs why = HasNoPlan i.request i.map why

-- the list is that of this load, and so much is told of it
abbrev pub BootsResident : ResidentInputs → Plan → ResidentList → Checked → Type 0
BootsResident x p m c =
    IsResident x.load x.pairs p m × (c.load ≡ load_with p m)
    × Told c.load c.words c.links c.pairs

-- The list is made and run: the file of the memory after the run is the output of this name, and the text
-- tells the list, what it copies, and the run. Or the plan or the list is refused, or that memory has no
-- file.
abbrev pub boots_resident : List ℕ → ResidentInputs → Result Made (Refusal Reason) → Type 0
boots_resident out x (Ok goods) =
    (p : Plan) × (m : ResidentList) × (c : Checked) × BootsResident x p m c
    × (goods.text ≡ resident_text c p.start m.copied) × (goods.fault ≡ None)
    × IsMemoryFile goods.outputs out (after_runs None c)
boots_resident out x (Err (by why)) =
    RefusesResident x.load x.pairs why
    ⊎ ((p : Plan) × (m : ResidentList) × (c : Checked) × BootsResident x p m c
    × HasNoFile (after_runs None c) why)
boots_resident out x (Err (too_long name limit)) = ⊥

module _ {S O : Type 0} (D : Shelf S) (E : Sink O) (s : S) (o : O) (s' : S) (o' : O) where
  -- After `boot-resident`, by what was read: the list of the kernel was made.
  pub record HasBootedResident (b : BootResidentValue) (i : ResidentInputs) : Type 0 where
    pub planned : Plan
    pub list : ResidentList
    -- the kernel has this plan, and by the pairs its segments have this list, in this memory
    pub resident : IsResident i.load i.pairs planned list
    pub checked : Checked
    pub of_list : checked.load ≡ load_with planned list
    -- the list is accepted for the segments
    pub accepted : Told checked.load checked.words checked.links checked.pairs
    -- it copies so many pages that have a resident page
    pub copies : deviating (resident_of i.pairs) checked.pairs ≡ list.copied
    -- and no list that is accepted for the segments, in whatever memory, copies fewer
    pub least : DeviatesAtLeast planned.segments i.pairs list.copied
    -- the machine's run of it ends after as many steps as the walk has words
    pub ends : EndsAfter checked.load checked.words
    -- and leaves each page of the segments what it is to have, and every other page as it was
    pub runs : MachineLeaves None checked
    pub leaves : Leaves None checked (after_runs None checked)
    -- OUT is the file of that memory, and every other file is as it was
    pub output : List ℕ
    pub is_memory : IsFileOf (after_runs None checked) output
    pub put : FilesPut (D.files s) ((b.out, output) ∷ []) (D.files s')
    -- the text tells the list, how many pages it copies, and the run
    pub said : Said (E.said o) (resident_text checked planned.start list.copied) (E.said o')

-- Nothing refuses what was taken: the kernel has a plan, its segments have a list by the pairs, and each
-- memory that its run may leave, by what is told of it, has a file.
pub record CanBootResident (x : ResidentInputs) : Type 0 where
  pub p : Plan
  pub m : ResidentList
  pub resident : IsResident x.load x.pairs p m
  pub light : (q : Plan) (n : ResidentList) (c : Checked) (count : ℕ)
      → BootsResident x q n c → IsTooHeavy (after_runs None c) count → ⊥

abbrev pub boot_resident_entry : BootResidentValue → ProgramEntry
boot_resident_entry b = record {
  Inputs = ResidentInputs;
  command = command_of (resident_files b) (boots_resident b.out);
  did = λ D E x s o s' o'. HasBootedResident D E s o s' o' b x;
  can = CanBootResident;
}
