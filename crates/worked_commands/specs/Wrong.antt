-- Runs of which all that is promised is so but one field (this project's own). All are about the kernel `abc`.
use Rattle.std.specs.Prelude.{ℕ, List, [], ◌∷◌, None, codes, false}
use Rattle.std.specs.FinMap.{empty, insert}
use Rattle.page_memory.specs.Contents.{Contents}
use Rattle.page_memory.specs.File.{text_of}
use Rattle.load_record.specs.File.{Record}
use Rattle.load_states.specs.States.{Checked, CrashLoad}
use Rattle.resident_planner.specs.declared.plan.Made.{Made as ResidentList}
use Rattle.kx_edge.specs.Edge.{Files}
use Rattle.load_commands.specs.Boot.{HasBooted}
use Rattle.load_commands.specs.BootResident.{HasBootedResident, ResidentInputs, resident_text}
use Rattle.load_commands.specs.CrashInputs.{CrashInputs}
use Rattle.list_commands.specs.Exec.{HasExecuted, files_text, load_of}
use Rattle.list_commands.specs.Records.{list_files}
use Rattle.load_commands.specs.LoadPanic.{PanicLoad}
use Rattle.command_parts.specs.Runs.{run_text}
use Rattle.load_commands.specs.Startup.{planned_startup}
use Rattle.worked_commands.specs.Drawn.{EachBut, found, found_with}
use Rattle.worked_commands.specs.Fields.{desk_of, fields_of_boot, fields_of_exec, fields_of_panic, fields_of_resident, slate_of}
use Rattle.worked_commands.specs.Inputs.{few_read}
use Rattle.worked_commands.specs.Lists.{plain_record}
use Rattle.worked_commands.specs.Loads.{few_plan, nothing_loaded}
use Rattle.worked_commands.specs.Memories.{abc_page, list_page, loaded, memory_with, run_pages}
use Rattle.worked_commands.specs.Names.{boot_raw, boot_resident_raw, exec_record}
use Rattle.worked_commands.specs.Panics.{crash_load}
use Rattle.worked_commands.specs.Residents.{resident_over}
use Rattle.worked_commands.specs.Shelves.{desk, slate}
use Rattle.worked_commands.specs.Texts.{no_memory, plain_image}

-- the one output, under the name of `boot` or of `exec`
abbrev pub with_o : List ℕ → Files
with_o output = insert empty (codes "o") output

abbrev pub with_x : List ℕ → Files
with_x output = insert empty (codes "x") output

-- ---- `boot`: these files were there after it, and this was said
abbrev pub BootsTo : Files → List ℕ → Type 0
BootsTo now text =
    HasBooted desk slate (desk_of empty) (slate_of []) (desk_of now) (slate_of text)
    (boot_raw None) few_read

-- all fields but number n hold, by this load and this output, and it was no boot
abbrev pub BootNeeds : ℕ → Checked → List ℕ → Files → List ℕ → Type 0
BootNeeds n c output now text =
    EachBut n (fields_of_boot (boot_raw None) few_read few_plan c output now text)
    × (BootsTo now text → ⊥)

-- what would be said of the list of the done word alone
abbrev pub nothing_text : List ℕ
nothing_text = run_text None nothing_loaded (planned_startup few_plan)

-- ---- `exec` of the loaded memory and of a record
abbrev pub ExecsTo : Record → Files → List ℕ → Type 0
ExecsTo r now text =
    HasExecuted desk slate (desk_of empty) (slate_of []) (desk_of now) (slate_of text)
    (exec_record false) (list_files loaded r)

abbrev pub ExecNeeds : ℕ → Record → Checked → List ℕ → Files → List ℕ → Type 0
ExecNeeds n r c output now text =
    EachBut n (fields_of_exec (exec_record false) loaded r c output now text)
    × (ExecsTo r now text → ⊥)

-- what would be said of another list than the record's
abbrev pub text_of_exec : Record → Checked → List ℕ
text_of_exec r c = files_text false (list_files loaded r) c

-- the list of the done word alone, in the same memory, is run in place of the record's
abbrev pub nothing_found : Checked
nothing_found = record nothing_loaded { load = record nothing_loaded.load { memory = loaded } }

-- the control page of this record is the source of its list, which is not accepted so
abbrev pub control_record : Record
control_record = record plain_record { image = record plain_image { control = 0x12 } }

abbrev pub control_found : Checked
control_found = record found { load = load_of (list_files loaded control_record) }

-- ---- `load-panic`
abbrev pub PanicNeeds : ℕ → CrashInputs → CrashLoad → Type 0
PanicNeeds n i load =
    EachBut n (fields_of_panic i few_plan (record { first = 2; count = 3 }) load)
    × (PanicLoad i few_plan load → ⊥)

-- nothing was put in its place; page 3 of the area was written too; the head is no done word; there are no segments
abbrev pub nothing_in_place : CrashLoad
nothing_in_place = record crash_load { memory = loaded }

abbrev pub one_page_more : CrashLoad
one_page_more = record crash_load { memory = memory_with ((3, abc_page) ∷ run_pages) }

abbrev pub other_head : CrashLoad
other_head = record crash_load { head = 0x11002 }

abbrev pub no_segments : CrashLoad
no_segments = record crash_load { segments = [] }

-- ---- `boot-resident`, without resident pages
abbrev pub ResidentTo : ResidentInputs → Files → List ℕ → Type 0
ResidentTo i now text =
    HasBootedResident desk slate (desk_of empty) (slate_of []) (desk_of now)
    (slate_of text) boot_resident_raw i

-- the list that is made of it, in the pages 10, 11 and 12
abbrev pub made_list : ResidentList
made_list = record { memory = loaded; image = plain_image; copied = 0 }

abbrev pub ResidentNeeds : ℕ → ResidentInputs → Checked → List ℕ → Files → List ℕ → Type 0
ResidentNeeds n i c output now text =
    EachBut n (fields_of_resident boot_resident_raw i few_plan made_list c output now text)
    × (ResidentTo i now text → ⊥)

abbrev pub none_resident : ResidentInputs
none_resident = resident_over no_memory []

abbrev pub made_text : List ℕ
made_text = resident_text found few_plan.start 0

-- the pool has no page, and the list stands in memory already
abbrev pub without_a_pool : ResidentInputs
without_a_pool = record none_resident { load = found_with [] }

-- the list is run in another memory than it was made in: page 40 has something
abbrev pub elsewhere_pages : List (ℕ × List ℕ)
elsewhere_pages = (0x11, list_page) ∷ (0x12, abc_page) ∷ (0x40, abc_page) ∷ []

abbrev pub elsewhere : Contents
elsewhere = memory_with elsewhere_pages

abbrev pub run_elsewhere : Checked
run_elsewhere = record found { load = record found.load { memory = elsewhere } }

abbrev pub elsewhere_file : List ℕ
elsewhere_file = text_of ((2, abc_page) ∷ elsewhere_pages)
