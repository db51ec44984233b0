-- What `drill` takes and makes (this project's own).
use Rattle.std.specs.Prelude.{◌≡◌, ◌⊎◌, ℕ, List, [], ◌∷◌, Option, None, Result, Ok, Err}
use Rattle.std.specs.List.{find}
use Rattle.kx_edge.specs.Edge.{Said}
use Rattle.kx_edge.specs.declared.edge.Shelf.{Ghosts as Shelf}
use Rattle.kx_edge.specs.declared.edge.Sink.{Ghosts as Sink}
use Rattle.kx_pages.specs.Bytes.{Mem}
use Rattle.kx_pages.specs.Spans.{AreApart, Run, in_spans}
use Rattle.page_memory.specs.Contents.{Contents, at}
use Rattle.memory_map.specs.Maps.{MapValue, is_ram, reserved_area}
use Rattle.image_slots.specs.Events.{EventValue}
use Rattle.image_slots.specs.Pages.{in_area}
use Rattle.image_slots.specs.Sequences.{AreKept, after_events, fresh, replies_to}
use Rattle.image_slots.specs.Soundness as slots
use Rattle.image_slots.specs.States.{State}
use Rattle.file_commands.specs.Answers.{FilesPut, command_of}
use Rattle.file_commands.specs.Taking.{Refusal, Take, ok, too_long, by, ◌>>=◌}
use Rattle.kexec_words.specs.Values.{DrillValue}
use Rattle.command_parts.specs.declared.reason.Reason.{Reason}
use Rattle.command_parts.specs.declared.reason.Reason.TheVariants.{Slots}
use Rattle.command_parts.specs.Entry.{ProgramEntry}
use Rattle.load_commands.specs.EventFile.{events_file}
use Rattle.load_commands.specs.Files.{map_file, pool_file}
use Rattle.command_parts.specs.Files.{memory_file}
use Rattle.command_parts.specs.Outputs.{HasNoFile, IsFileOf, IsTooHeavy, Made}
use Rattle.load_commands.specs.Replies.{reply_lines}

-- what `drill` took
pub record DrillInputs : Type 0 where
  pub memory : Contents
  pub pool : List ℕ  -- in the order in which the pages are drawn
  pub map : MapValue
  pub events : List EventValue

-- these are taken by their names, in this order
abbrev pub drill_files : (memory pool map events : List ℕ) → Take Reason DrillInputs
drill_files memory pool map events = do
  m ← memory_file memory
  pages ← pool_file pool None
  ram ← map_file map
  es ← events_file events
  ok (record { memory = m; pool = pages; map = ram; events = es })

-- the pages that are RAM by a memory map, as their longest runs in rising order
pub record AreRam (m : MapValue) (ram : List Run) : Type 0 where
  pub apart : AreApart 0 ram
  pub pages : (p : ℕ) → in_spans ram p ≡ is_ram m p

-- the first page of the pool that lies in the reserved area, if there is one
abbrev pub first_meeting : DrillInputs → Option ℕ
first_meeting x = find (in_area (reserved_area x.map)) x.pool

-- there is such a page, and it is named
abbrev pub Meets : Option ℕ → Reason → Type 0
Meets found (Slots fault) = slots.Meets found fault
Meets found other = ⊥

-- the state before the first event
abbrev pub start : DrillInputs → List Run → State
start x ram = fresh (at x.memory) x.pool ram (reserved_area x.map)

-- the memory after the last one
abbrev pub memory_after : DrillInputs → List Run → Mem
memory_after x ram = (after_events (start x ram) x.events).memory

-- the line of each reply
abbrev pub drill_text : DrillInputs → List Run → List ℕ
drill_text x ram = reply_lines 1 (replies_to (start x ram) x.events)

-- No page of the pool lies in the reserved area. The file of the memory after the events is the output of this name, the
-- text has the reply to each, and the images and pages are kept over them. Or a page of the pool lies there, or that memory has no file.
abbrev pub drills : List ℕ → DrillInputs → Result Made (Refusal Reason) → Type 0
drills out x (Ok goods) =
    (ram : List Run) × AreRam x.map ram × (first_meeting x ≡ None)
    × (goods.text ≡ drill_text x ram) × (goods.fault ≡ None)
    × AreKept x.pool (start x ram) x.events
    × (bytes : List ℕ) × IsFileOf (memory_after x ram) bytes
    × (goods.outputs ≡ (out, bytes) ∷ [])
drills out x (Err (by why)) =
    Meets (first_meeting x) why
    ⊎ ((ram : List Run)
    × AreRam x.map ram × (first_meeting x ≡ None) × HasNoFile (memory_after x ram) why)
drills out x (Err (too_long name limit)) = ⊥

module _ {S O : Type 0} (D : Shelf S) (E : Sink O) (s : S) (o : O) (s' : S) (o' : O) where
  -- After `drill`, by what was read: the events of the file were applied one after another. OUT is the file of the memory after the last one,
  -- every other file is as it was, and the text has the reply to each event.
  pub record HasDrilled (d : DrillValue) (i : DrillInputs) : Type 0 where
    -- the pages that are RAM, and no page of the pool lies in the reserved area
    pub ram : List Run
    pub are_ram : AreRam i.map ram
    pub apart : first_meeting i ≡ None
    -- Until an image was run, after each event: what is installed or written is accepted in the memory as it is, and each
    -- page of the pool is left, or the load's, or the normal image's. Busy is answered exactly where another caller's load is
    -- under way, and NoPages exactly where fewer pages are left than a load takes that is to be written.
    pub kept : AreKept i.pool (start i ram) i.events
    pub output : List ℕ
    pub is_memory : IsFileOf (memory_after i ram) output
    pub put : FilesPut (D.files s) ((d.out, output) ∷ []) (D.files s')
    pub said : Said (E.said o) (drill_text i ram) (E.said o')

-- no page of the pool lies in the reserved area, and the memory after the events has a file
pub record CanDrill (x : DrillInputs) : Type 0 where
  pub ram : List Run
  pub are_ram : AreRam x.map ram
  pub apart : first_meeting x ≡ None
  pub light : (n : ℕ) → IsTooHeavy (memory_after x ram) n → ⊥

abbrev pub drill_entry : DrillValue → ProgramEntry
drill_entry d = record {
  Inputs = DrillInputs;
  command = command_of (drill_files d.memory d.pool d.map d.events) (drills d.out);
  did = λ D E x s o s' o'. HasDrilled D E s o s' o' d x;
  can = CanDrill;
}
