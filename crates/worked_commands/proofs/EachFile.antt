-- What is read of the files of the examples, one after another. The rows of a memory map are looked through for RAM, which no
-- computing reaches the end of.
use Rattle.std.proofs.Common.{◌≡◌, ◌∙◌, ◌^◌, ℕ, List, [], ◌∷◌, false, true, cond, Ok, Err, Option, Some, None, refl, ap, arith}
use Rattle.std.specs.Prelude.{◌==◌, codes}
use Rattle.std.proofs.lemmas.Bool.Decides.{nat_tests}
use Rattle.kx_edge.specs.Edge.{Files}
use Rattle.kx_pages.specs.declared.image.ImageType.TheVariants.{Auto}
use Rattle.crash_headers.specs.Notes.{line_onto as note_line, note_of}
use Rattle.image_slots.specs.Events.{Panic}
use Rattle.image_slots.specs.Texts.{caller_in, event_in, events_onto, events_reading, named_event}
use Rattle.file_commands.specs.Taking.{Take, and_then, ok, reads}
use Rattle.file_commands.specs.Files.{from_reader, optional_file, whole_file}
use Rattle.file_commands.proofs.Steps.{reads_ok}
use Rattle.kx_fields.specs.Fields.{field}
use Rattle.memory_map.specs.Maps.{is_ram, ram_pages}
use Rattle.memory_map.specs.Text.{map_reading, lines_onto as map_onto, line_onto, checked_entry, entry_of, class_of}
use Rattle.memory_map.specs.declared.fault.MapFault.TheVariants as faults
use Rattle.page_memory.specs.File.{read_pages, pages_onto, entry_at}
use Rattle.page_pool.specs.File.{pool_reading, pages_onto as pool_onto, line_onto as pool_line, checked_range, range_of}
use Rattle.text_lines.specs.Lines.{lines, cut, number, number_of, decimal, lines_onto, two_numbers}
use Rattle.crash_headers.specs.declared.fault.NoteFault.TheVariants as notes
use Rattle.crash_headers.specs.declared.note.Note.{Note}
use Rattle.image_slots.specs.declared.fault.EventsFault.TheVariants as events
use Rattle.load_commands.specs.CrashInputs.{CrashInputs, crash_inputs, crash_request}
use Rattle.load_commands.specs.Drill.{DrillInputs, drill_files}
use Rattle.load_commands.specs.EventFile.{events_file}
use Rattle.load_commands.specs.Files.{map_file, pool_file, some_notes, usable_below}
use Rattle.command_parts.specs.Files.{memory_file, text_limit}
use Rattle.load_commands.specs.Inputs.{LoadInputs, kernel_files, load_inputs, request_with}
use Rattle.command_parts.specs.declared.reason.InputFault.TheVariants as inputs
use Rattle.command_parts.specs.declared.reason.Reason.{Reason}
use Rattle.command_parts.specs.declared.reason.Reason.TheVariants.{Input}
use Rattle.worked_commands.specs.Inputs.{all_asked, all_ram, each_file, each_of, spoiled, spoiled_of, unreadable}
use Rattle.worked_commands.specs.Names.{all_inputs, crash_inputs_of}
use Rattle.worked_commands.specs.Texts.{no_memory}
use Rattle.worked_commands.proofs.Passing.{one_passes}
use Rattle.worked_commands.proofs.Reading.{read_by}

abbrev map_text : List ℕ
map_text = codes "00000000-01ffffff : System RAM\n"

some_ram : (ram_pages all_ram == 0) ≡ false
some_ram = grind (arith, nat_tests, one_passes (is_ram all_ram) 1 refl (2 ^ 34) (omega arith))

map_is : map_reading map_text ≡ Ok all_ram
unfolding map_reading map_onto line_onto checked_entry entry_of class_of lines cut number number_of
map_is = ap (λ b. cond b (Err faults.NoRam) (Ok all_ram)) some_ram

map_read : (held : Files) → reads (whole_file {R = Reason} text_limit (codes "t")) held ≡ Ok map_text → reads (map_file (codes "t")) held ≡ Ok all_ram
map_read held h =
    reads_ok (whole_file text_limit (codes "t")) (λ bytes. from_reader (λ e. Input (inputs.Map e)) (map_reading bytes)) held map_text h
    ∙ ap (λ r. reads (from_reader (λ e. Input (inputs.Map e)) r) held) map_is

each_map : reads (map_file (codes "t")) each_file ≡ Ok all_ram
each_map = map_read each_file (read_by each_of (whole_file text_limit (codes "t")))

each_memory : reads (memory_file (codes "m")) each_file ≡ Ok no_memory
unfolding and_then read_pages pages_onto entry_at field
each_memory = read_by each_of (memory_file (codes "m"))

each_pool : (below : Option ℕ) (pages : List ℕ) → usable_below below (0x10 ∷ 0x11 ∷ 0x12 ∷ []) ≡ pages → reads (pool_file (codes "p") below) each_file ≡ Ok pages
unfolding and_then pool_reading pool_onto pool_line checked_range range_of lines cut number number_of
each_pool below pages e = read_by each_of (pool_file (codes "p") below) ∙ ap Ok e

-- what is behind the map
after_map : Take Reason LoadInputs
after_map = and_then (kernel_files (codes "k") (Some (codes "i")) (Some (codes "g")) (codes "x" ∷ codes "y" ∷ []))
    (λ files. ok (record { memory = no_memory; usable = 0x10 ∷ 0x11 ∷ []; map = Some all_ram; request = request_with Auto (Some (codes "quiet")) files }))

abbrev all_read : LoadInputs
all_read = record { memory = no_memory; usable = 0x10 ∷ 0x11 ∷ []; map = Some all_ram; request = all_asked }

kernel_read : reads after_map each_file ≡ Ok all_read
unfolding and_then after_map
kernel_read = read_by each_of after_map

pub load_read : reads (load_inputs Auto all_inputs) each_file ≡ Ok all_read
unfolding after_map
load_read =
    reads_ok (memory_file (codes "m")) _ each_file no_memory each_memory
    ∙ (reads_ok (pool_file (codes "p") (Some 0x12)) _ each_file (0x10 ∷ 0x11 ∷ []) (each_pool (Some 0x12) (0x10 ∷ 0x11 ∷ []) refl)
    ∙ (reads_ok (optional_file map_file (Some (codes "t"))) _ each_file (Some all_ram) (reads_ok (map_file (codes "t")) (λ x. ok (Some x)) each_file all_ram each_map)
    ∙ kernel_read))

-- what is behind the map of a crash kernel
after_crash_map : Option (List ℕ) → Take Reason CrashInputs
after_crash_map name = and_then (some_notes name)
    (λ notes. and_then (kernel_files (codes "k") (Some (codes "i")) (Some (codes "g")) [])
    (λ files. ok (record { memory = no_memory; map = all_ram; request = crash_request (Some (codes "quiet")) notes files })))

abbrev crash_read : List Note → CrashInputs
crash_read notes = record { memory = no_memory; map = all_ram; request = record all_asked { crash = true; modules = []; notes = notes } }

crash_kernel : reads (after_crash_map (Some (codes "n"))) each_file ≡ Ok (crash_read (record { start = 0x200000; size = 0x400 } ∷ []))
unfolding and_then after_crash_map lines_onto two_numbers note_line note_of lines cut number number_of
crash_kernel = read_by each_of (after_crash_map (Some (codes "n")))

crash_kernel_without : reads (after_crash_map None) each_file ≡ Ok (crash_read [])
unfolding and_then after_crash_map
crash_kernel_without = read_by each_of (after_crash_map None)

crash_inputs_read : (name : Option (List ℕ)) (notes : List Note) → reads (after_crash_map name) each_file ≡ Ok (crash_read notes) → reads (crash_inputs (crash_inputs_of name) (codes "t")) each_file ≡ Ok (crash_read notes)
unfolding after_crash_map
crash_inputs_read name notes h =
    reads_ok (memory_file (codes "m")) _ each_file no_memory each_memory
    ∙ (reads_ok (map_file (codes "t")) _ each_file all_ram each_map ∙ h)

pub with_notes : reads (crash_inputs (crash_inputs_of (Some (codes "n"))) (codes "t")) each_file ≡ Ok (crash_read (record { start = 0x200000; size = 0x400 } ∷ []))
with_notes = crash_inputs_read (Some (codes "n")) _ crash_kernel

pub without_notes : reads (crash_inputs (crash_inputs_of None) (codes "t")) each_file ≡ Ok (crash_read [])
without_notes = crash_inputs_read None [] crash_kernel_without

-- spoiled notes, and the memory and the map before them
spoiled_notes : reads (after_crash_map (Some (codes "n"))) (spoiled (codes "n" ∷ [])) ≡ Err (unreadable (inputs.Notes (notes.BadLine 1)))
unfolding and_then after_crash_map lines_onto two_numbers note_line note_of lines cut number number_of
spoiled_notes = read_by (spoiled_of (codes "n" ∷ [])) (after_crash_map (Some (codes "n")))

abbrev other_memory : (name : List ℕ) → Type 0
other_memory name = reads (memory_file (codes "m")) (spoiled (name ∷ [])) ≡ Ok no_memory

notes_memory : other_memory (codes "n")
unfolding and_then read_pages pages_onto entry_at field
notes_memory = read_by (spoiled_of (codes "n" ∷ [])) (memory_file (codes "m"))

pub crash_notes : reads (crash_inputs (crash_inputs_of (Some (codes "n"))) (codes "t")) (spoiled (codes "n" ∷ [])) ≡ Err (unreadable (inputs.Notes (notes.BadLine 1)))
unfolding after_crash_map
crash_notes =
    reads_ok (memory_file (codes "m")) _ (spoiled (codes "n" ∷ [])) no_memory notes_memory
    ∙ (reads_ok (map_file (codes "t")) _ (spoiled (codes "n" ∷ [])) all_ram (map_read (spoiled (codes "n" ∷ [])) (read_by (spoiled_of (codes "n" ∷ [])) (whole_file text_limit (codes "t"))))
    ∙ spoiled_notes)

-- what is behind the map of `drill`
after_drill_map : Take Reason DrillInputs
after_drill_map = and_then (events_file (codes "e"))
    (λ events. ok (record { memory = no_memory; pool = 0x10 ∷ 0x11 ∷ 0x12 ∷ []; map = all_ram; events = events }))

events_read : reads after_drill_map each_file ≡ Ok (record { memory = no_memory; pool = 0x10 ∷ 0x11 ∷ 0x12 ∷ []; map = all_ram; events = Panic ∷ [] })
unfolding and_then after_drill_map events_reading events_onto event_in named_event caller_in decimal lines cut number number_of
events_read = read_by each_of after_drill_map

pub drill_read : reads (drill_files (codes "m") (codes "p") (codes "t") (codes "e")) each_file ≡ Ok (record { memory = no_memory; pool = 0x10 ∷ 0x11 ∷ 0x12 ∷ []; map = all_ram; events = Panic ∷ [] })
unfolding after_drill_map
drill_read =
    reads_ok (memory_file (codes "m")) _ each_file no_memory each_memory
    ∙ (reads_ok (pool_file (codes "p") None) _ each_file (0x10 ∷ 0x11 ∷ 0x12 ∷ []) (each_pool None (0x10 ∷ 0x11 ∷ 0x12 ∷ []) refl)
    ∙ (reads_ok (map_file (codes "t")) _ each_file all_ram each_map ∙ events_read))

events_memory : other_memory (codes "e")
unfolding and_then read_pages pages_onto entry_at field
events_memory = read_by (spoiled_of (codes "e" ∷ [])) (memory_file (codes "m"))

events_pool : reads (pool_file (codes "p") None) (spoiled (codes "e" ∷ [])) ≡ Ok (0x10 ∷ 0x11 ∷ 0x12 ∷ [])
unfolding and_then pool_reading pool_onto pool_line checked_range range_of lines cut number number_of
events_pool = read_by (spoiled_of (codes "e" ∷ [])) (pool_file (codes "p") None)

events_spoiled : reads after_drill_map (spoiled (codes "e" ∷ [])) ≡ Err (unreadable (inputs.Events (events.BadLine 1)))
unfolding and_then after_drill_map events_reading events_onto event_in named_event caller_in decimal lines cut number number_of
events_spoiled = read_by (spoiled_of (codes "e" ∷ [])) after_drill_map

pub drill_spoiled : reads (drill_files (codes "m") (codes "p") (codes "t") (codes "e")) (spoiled (codes "e" ∷ [])) ≡ Err (unreadable (inputs.Events (events.BadLine 1)))
unfolding after_drill_map
drill_spoiled =
    reads_ok (memory_file (codes "m")) _ (spoiled (codes "e" ∷ [])) no_memory events_memory
    ∙ (reads_ok (pool_file (codes "p") None) _ (spoiled (codes "e" ∷ [])) (0x10 ∷ 0x11 ∷ 0x12 ∷ []) events_pool
    ∙ (reads_ok (map_file (codes "t")) _ (spoiled (codes "e" ∷ [])) all_ram (map_read (spoiled (codes "e" ∷ [])) (read_by (spoiled_of (codes "e" ∷ [])) (whole_file text_limit (codes "t"))))
    ∙ events_spoiled))
