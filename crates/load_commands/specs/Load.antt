-- What `load` makes (this project's own).
use Rattle.std.specs.Prelude.{◌≡◌, ℕ, List, [], ◌∷◌, false, None, Result, Ok, Err, if◌then◌else◌}
use Rattle.kx_pages.specs.declared.image.Wish.{Wish}
use Rattle.kx_pages.specs.declared.image.Wish.TheVariants.{Plain, Kept}
use Rattle.page_memory.specs.Contents.{at}
use Rattle.file_commands.specs.Taking.{Refusal, too_long, by}
use Rattle.load_states.specs.States.{Checked, Load}
use Rattle.load_record.specs.File.{Record, record_file}
use Rattle.kexec_words.specs.Values.{LoadValue}
use Rattle.kexec_plan.specs.Requests.{Plan}
use Rattle.command_parts.specs.declared.reason.Reason.{Reason}
use Rattle.load_commands.specs.Inputs.{LoadInputs, load_inputs}
use Rattle.command_parts.specs.Outputs.{Made, IsFileOf, IsReadBack}
use Rattle.command_parts.specs.Runs.{list_text}
use Rattle.kx_edge.specs.Edge.{Said}
use Rattle.kx_edge.specs.declared.edge.Shelf.{Ghosts as Shelf}
use Rattle.kx_edge.specs.declared.edge.Sink.{Ghosts as Sink}
use Rattle.file_commands.specs.Answers.{FilesPut, command_of}
use Rattle.command_parts.specs.Entry.{ProgramEntry}
use Rattle.load_commands.specs.NormalLoad.{CanLoad, CannotLoad, IsToldLoad, NormalLoad}

-- the wish of `load`, with or without `--kept`
abbrev pub load_wish : LoadValue → Wish
load_wish l = if l.kept then Kept else Plain

-- the record of a load
abbrev pub record_of_load : Load → Plan → Record
record_of_load load p =
    record {
      crash = false;
      image = load.image;
      start = p.start;
      regions = p.regions;
      digest = p.digest;
      segments = load.segments;
    }

-- The kernel is loaded: the file of the memory after the load and its record, which reads back, are the outputs of these
-- names, and the text tells the list. Or the plan or the load refuses, or that memory has no file.
abbrev pub loads : Wish → List ℕ → List ℕ → LoadInputs → Result Made (Refusal Reason) → Type 0
loads wish out load_record i (Ok goods) =
    (p : Plan) × (c : Checked) × IsToldLoad wish i p c × (goods.text ≡ list_text c p.start)
    × (goods.fault ≡ None)
    × (bytes : List ℕ) × IsFileOf (at c.load.memory) bytes
    × (goods.outputs ≡ (out, bytes) ∷ (load_record, record_file (record_of_load c.load p)) ∷ [])
    × IsReadBack (record_of_load c.load p)
loads wish out load_record i (Err (by why)) = CannotLoad wish i (λ c. at c.load.memory) why
loads wish out load_record i (Err (too_long name limit)) = ⊥

module _ {S O : Type 0} (D : Shelf S) (E : Sink O) (s : S) (o : O) (s' : S) (o' : O) where
  -- After `load`, by what was read: the kernel was loaded. OUT is the file of the memory after the load. RECORD tells its list, start and
  -- segments, and reads back as it was written. Every other file is as it was, and the text tells the list.
  pub record HasLoaded (l : LoadValue) (i : LoadInputs) : Type 0 where
    pub planned : Plan
    pub checked : Checked
    pub load : NormalLoad (load_wish l) i planned checked
    pub output : List ℕ
    pub is_memory : IsFileOf (at checked.load.memory) output
    pub read_back : IsReadBack (record_of_load checked.load planned)
    pub put : FilesPut (D.files s)
        ((l.out, output) ∷ (l.load_record, record_file (record_of_load checked.load planned)) ∷ [])
        (D.files s')
    pub said : Said (E.said o) (list_text checked planned.start) (E.said o')

abbrev pub load_entry : LoadValue → ProgramEntry
load_entry l = record {
  Inputs = LoadInputs;
  command = command_of (load_inputs l.image l.inputs) (loads (load_wish l) l.out l.load_record);
  did = λ D E i s o s' o'. HasLoaded D E s o s' o' l i;
  can = λ i. CanLoad (load_wish l) i (λ c. at c.load.memory);
}
