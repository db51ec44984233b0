-- By computing.
use Rattle.std.specs.Prelude.{[], ◌∷◌, Some, codes}
use Rattle.kx_pages.specs.declared.image.ImageType.TheVariants.{Auto}
use Rattle.load_commands.specs.Inputs.{load_inputs}
use Rattle.list_commands.specs.Records.{load_files_of, load_record_file}
use Rattle.worked_commands.specs.Inputs.{spoiled_of}
use Rattle.worked_commands.specs.Names.{all_inputs, crash_inputs_of, of_record}
use Rattle.worked_commands.proofs.Reading.{read_by}
use Rattle.load_commands.specs.CrashInputs.{crash_inputs}
use Rattle.worked_commands.proofs.EachFile.{crash_notes}
use Rattle.file_commands.specs.Taking.{and_then}
use Rattle.kx_fields.specs.Fields.{field}
use Rattle.page_memory.specs.File.{read_pages, pages_onto, entry_at, text_of}
use Rattle.text_lines.specs.Lines.{lines, cut, number, number_of, lines_onto, two_numbers}
use Rattle.page_pool.specs.File.{pool_reading, pages_onto as pool_onto, line_onto, checked_range, range_of}
use Rattle.memory_map.specs.Text.{map_reading, lines_onto as map_onto, line_onto as map_line, checked_entry, entry_of, class_of}
use Rattle.crash_headers.specs.Notes.{line_onto as note_line, note_of}
use Rattle.load_record.specs.File.{record_text, record_reading, tested_head, read_head, segment_at, segment_text, read_segments, tested_segments}
use Rattle.load_record.specs.Head.{head_text, head_fault}
use Rattle.segments.specs.Rules.{bare_refusal, shape_refusal}
use Rattle.sha2.specs.Sha256.{compress, digest_bytes, first_words, hash_after, rounds, schedule, sha256}
use Rattle.worked_commands.proofs.inputs.first_of_spoiled_files.Goals as goal

pub returns-clause-boot_memory : goal.returns-clause-boot_memory
unfolding and_then field read_pages pages_onto entry_at text_of lines cut number number_of pool_reading pool_onto line_onto checked_range range_of map_reading map_onto map_line checked_entry entry_of class_of lines_onto two_numbers note_line note_of record_text record_reading tested_head read_head segment_at segment_text read_segments tested_segments head_text head_fault bare_refusal shape_refusal compress digest_bytes first_words hash_after rounds schedule sha256
returns-clause-boot_memory c = read_by (spoiled_of (codes "m" ∷ codes "p" ∷ codes "t" ∷ [])) (load_inputs Auto all_inputs)

pub returns-clause-boot_pool : goal.returns-clause-boot_pool
unfolding and_then field read_pages pages_onto entry_at text_of lines cut number number_of pool_reading pool_onto line_onto checked_range range_of map_reading map_onto map_line checked_entry entry_of class_of lines_onto two_numbers note_line note_of record_text record_reading tested_head read_head segment_at segment_text read_segments tested_segments head_text head_fault bare_refusal shape_refusal compress digest_bytes first_words hash_after rounds schedule sha256
returns-clause-boot_pool c = read_by (spoiled_of (codes "p" ∷ codes "t" ∷ [])) (load_inputs Auto all_inputs)

pub returns-clause-boot_map : goal.returns-clause-boot_map
unfolding and_then field read_pages pages_onto entry_at text_of lines cut number number_of pool_reading pool_onto line_onto checked_range range_of map_reading map_onto map_line checked_entry entry_of class_of lines_onto two_numbers note_line note_of record_text record_reading tested_head read_head segment_at segment_text read_segments tested_segments head_text head_fault bare_refusal shape_refusal compress digest_bytes first_words hash_after rounds schedule sha256
returns-clause-boot_map c = read_by (spoiled_of (codes "t" ∷ [])) (load_inputs Auto all_inputs)

pub returns-clause-panic_memory : goal.returns-clause-panic_memory
unfolding and_then field read_pages pages_onto entry_at text_of lines cut number number_of pool_reading pool_onto line_onto checked_range range_of map_reading map_onto map_line checked_entry entry_of class_of lines_onto two_numbers note_line note_of record_text record_reading tested_head read_head segment_at segment_text read_segments tested_segments head_text head_fault bare_refusal shape_refusal compress digest_bytes first_words hash_after rounds schedule sha256
returns-clause-panic_memory c = read_by (spoiled_of (codes "m" ∷ codes "t" ∷ codes "n" ∷ [])) (crash_inputs (crash_inputs_of (Some (codes "n"))) (codes "t"))

pub returns-clause-panic_map : goal.returns-clause-panic_map
unfolding and_then field read_pages pages_onto entry_at text_of lines cut number number_of pool_reading pool_onto line_onto checked_range range_of map_reading map_onto map_line checked_entry entry_of class_of lines_onto two_numbers note_line note_of record_text record_reading tested_head read_head segment_at segment_text read_segments tested_segments head_text head_fault bare_refusal shape_refusal compress digest_bytes first_words hash_after rounds schedule sha256
returns-clause-panic_map c = read_by (spoiled_of (codes "t" ∷ codes "n" ∷ [])) (crash_inputs (crash_inputs_of (Some (codes "n"))) (codes "t"))

pub returns-clause-panic_notes : goal.returns-clause-panic_notes
unfolding and_then field read_pages pages_onto entry_at text_of lines cut number number_of pool_reading pool_onto line_onto checked_range range_of map_reading map_onto map_line checked_entry entry_of class_of lines_onto two_numbers note_line note_of record_text record_reading tested_head read_head segment_at segment_text read_segments tested_segments head_text head_fault bare_refusal shape_refusal compress digest_bytes first_words hash_after rounds schedule sha256
returns-clause-panic_notes c = crash_notes

pub returns-clause-check_memory : goal.returns-clause-check_memory
unfolding and_then field read_pages pages_onto entry_at text_of lines cut number number_of pool_reading pool_onto line_onto checked_range range_of map_reading map_onto map_line checked_entry entry_of class_of lines_onto two_numbers note_line note_of record_text record_reading tested_head read_head segment_at segment_text read_segments tested_segments head_text head_fault bare_refusal shape_refusal compress digest_bytes first_words hash_after rounds schedule sha256
returns-clause-check_memory c = read_by (spoiled_of (codes "m" ∷ codes "r" ∷ [])) (load_files_of of_record)

pub returns-clause-check_record : goal.returns-clause-check_record
unfolding and_then field read_pages pages_onto entry_at text_of lines cut number number_of pool_reading pool_onto line_onto checked_range range_of map_reading map_onto map_line checked_entry entry_of class_of lines_onto two_numbers note_line note_of record_text record_reading tested_head read_head segment_at segment_text read_segments tested_segments head_text head_fault bare_refusal shape_refusal compress digest_bytes first_words hash_after rounds schedule sha256
returns-clause-check_record c = read_by (spoiled_of (codes "r" ∷ [])) (load_files_of of_record)

pub returns-clause-migrate : goal.returns-clause-migrate
unfolding and_then field read_pages pages_onto entry_at text_of lines cut number number_of pool_reading pool_onto line_onto checked_range range_of map_reading map_onto map_line checked_entry entry_of class_of lines_onto two_numbers note_line note_of record_text record_reading tested_head read_head segment_at segment_text read_segments tested_segments head_text head_fault bare_refusal shape_refusal compress digest_bytes first_words hash_after rounds schedule sha256
returns-clause-migrate c = read_by (spoiled_of (codes "r" ∷ [])) (load_record_file (codes "r"))
