-- By computing.
use Rattle.std.specs.Prelude.{[], ◌∷◌, codes}
use Rattle.load_commands.specs.BootResident.{resident_files}
use Rattle.command_parts.specs.Files.{memory_file}
use Rattle.load_commands.specs.Drill.{drill_files}
use Rattle.worked_commands.specs.Inputs.{spoiled_of}
use Rattle.worked_commands.specs.Names.{boot_resident_raw}
use Rattle.worked_commands.proofs.Reading.{read_by}
use Rattle.worked_commands.proofs.EachFile.{drill_spoiled}
use Rattle.file_commands.specs.Taking.{and_then}
use Rattle.kx_fields.specs.Fields.{field}
use Rattle.page_memory.specs.File.{read_pages, pages_onto, entry_at, text_of}
use Rattle.text_lines.specs.Lines.{lines, cut, number, number_of, decimal, lines_onto, two_numbers}
use Rattle.page_pool.specs.File.{pool_reading, pages_onto as pool_onto, line_onto, checked_range, range_of}
use Rattle.memory_map.specs.Text.{map_reading, lines_onto as map_onto, line_onto as map_line, checked_entry, entry_of, class_of}
use Rattle.resident_planner.specs.Pairs.{pair_of, line_onto as pair_line}
use Rattle.image_slots.specs.Texts.{caller_in, event_in, events_onto, events_reading, named_event, kind_in, segment_in, image_in, page_in, bytes_in}
use Rattle.worked_commands.proofs.inputs.first_of_more_spoiled_files.Goals as goal

pub returns-clause-resident_memory : goal.returns-clause-resident_memory
unfolding and_then field read_pages pages_onto entry_at text_of lines cut number number_of pool_reading pool_onto line_onto checked_range range_of map_reading map_onto map_line checked_entry entry_of class_of pair_of pair_line lines_onto two_numbers caller_in decimal event_in events_onto events_reading named_event kind_in segment_in image_in page_in bytes_in
returns-clause-resident_memory c = read_by (spoiled_of (codes "m" ∷ codes "p" ∷ codes "l" ∷ [])) (resident_files boot_resident_raw)

pub returns-clause-resident_pool : goal.returns-clause-resident_pool
unfolding and_then field read_pages pages_onto entry_at text_of lines cut number number_of pool_reading pool_onto line_onto checked_range range_of map_reading map_onto map_line checked_entry entry_of class_of pair_of pair_line lines_onto two_numbers caller_in decimal event_in events_onto events_reading named_event kind_in segment_in image_in page_in bytes_in
returns-clause-resident_pool c = read_by (spoiled_of (codes "p" ∷ codes "l" ∷ [])) (resident_files boot_resident_raw)

pub returns-clause-resident_pairs : goal.returns-clause-resident_pairs
unfolding and_then field read_pages pages_onto entry_at text_of lines cut number number_of pool_reading pool_onto line_onto checked_range range_of map_reading map_onto map_line checked_entry entry_of class_of pair_of pair_line lines_onto two_numbers caller_in decimal event_in events_onto events_reading named_event kind_in segment_in image_in page_in bytes_in
returns-clause-resident_pairs c = read_by (spoiled_of (codes "l" ∷ [])) (resident_files boot_resident_raw)

pub returns-clause-drill_memory : goal.returns-clause-drill_memory
unfolding and_then field read_pages pages_onto entry_at text_of lines cut number number_of pool_reading pool_onto line_onto checked_range range_of map_reading map_onto map_line checked_entry entry_of class_of pair_of pair_line lines_onto two_numbers caller_in decimal event_in events_onto events_reading named_event kind_in segment_in image_in page_in bytes_in
returns-clause-drill_memory c = read_by (spoiled_of (codes "m" ∷ codes "p" ∷ codes "t" ∷ codes "e" ∷ [])) (drill_files (codes "m") (codes "p") (codes "t") (codes "e"))

pub returns-clause-drill_pool : goal.returns-clause-drill_pool
unfolding and_then field read_pages pages_onto entry_at text_of lines cut number number_of pool_reading pool_onto line_onto checked_range range_of map_reading map_onto map_line checked_entry entry_of class_of pair_of pair_line lines_onto two_numbers caller_in decimal event_in events_onto events_reading named_event kind_in segment_in image_in page_in bytes_in
returns-clause-drill_pool c = read_by (spoiled_of (codes "p" ∷ codes "t" ∷ codes "e" ∷ [])) (drill_files (codes "m") (codes "p") (codes "t") (codes "e"))

pub returns-clause-drill_map : goal.returns-clause-drill_map
unfolding and_then field read_pages pages_onto entry_at text_of lines cut number number_of pool_reading pool_onto line_onto checked_range range_of map_reading map_onto map_line checked_entry entry_of class_of pair_of pair_line lines_onto two_numbers caller_in decimal event_in events_onto events_reading named_event kind_in segment_in image_in page_in bytes_in
returns-clause-drill_map c = read_by (spoiled_of (codes "t" ∷ codes "e" ∷ [])) (drill_files (codes "m") (codes "p") (codes "t") (codes "e"))

pub returns-clause-drill_events : goal.returns-clause-drill_events
unfolding and_then field read_pages pages_onto entry_at text_of lines cut number number_of pool_reading pool_onto line_onto checked_range range_of map_reading map_onto map_line checked_entry entry_of class_of pair_of pair_line lines_onto two_numbers caller_in decimal event_in events_onto events_reading named_event kind_in segment_in image_in page_in bytes_in
returns-clause-drill_events c = drill_spoiled

pub returns-clause-trace : goal.returns-clause-trace
unfolding and_then field read_pages pages_onto entry_at text_of lines cut number number_of pool_reading pool_onto line_onto checked_range range_of map_reading map_onto map_line checked_entry entry_of class_of pair_of pair_line lines_onto two_numbers caller_in decimal event_in events_onto events_reading named_event kind_in segment_in image_in page_in bytes_in
returns-clause-trace c = read_by (spoiled_of (codes "m" ∷ [])) (memory_file (codes "m"))

pub returns-clause-core : goal.returns-clause-core
unfolding and_then field read_pages pages_onto entry_at text_of lines cut number number_of pool_reading pool_onto line_onto checked_range range_of map_reading map_onto map_line checked_entry entry_of class_of pair_of pair_line lines_onto two_numbers caller_in decimal event_in events_onto events_reading named_event kind_in segment_in image_in page_in bytes_in
returns-clause-core c = read_by (spoiled_of (codes "m" ∷ [])) (memory_file (codes "m"))
