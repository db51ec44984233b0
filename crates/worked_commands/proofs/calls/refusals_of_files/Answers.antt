-- By what is read.
use Rattle.std.proofs.Common.{[], ◌∷◌, inl}
use Rattle.std.specs.Prelude.{codes}
use Rattle.kx_fields.specs.Fields.{field}
use Rattle.load_record.specs.File.{read_head, record_reading, tested_head}
use Rattle.page_memory.specs.File.{read_pages, pages_onto, entry_at}
use Rattle.page_pool.specs.File.{pool_reading, pages_onto as pool_onto, line_onto, checked_range, range_of}
use Rattle.text_lines.specs.Lines.{lines, cut, number, number_of, lines_onto, two_numbers}
use Rattle.resident_planner.specs.Pairs.{pair_of, line_onto as pair_line}
use Rattle.file_commands.specs.Taking.{and_then}
use Rattle.load_commands.specs.BootResident.{resident_files}
use Rattle.kx_pages.specs.declared.image.ImageType.TheVariants.{Raw}
use Rattle.command_parts.specs.Files.{memory_file}
use Rattle.load_commands.specs.Inputs.{load_inputs}
use Rattle.list_commands.specs.Records.{load_files_of}
use Rattle.worked_commands.specs.Inputs.{spoiled_of}
use Rattle.worked_commands.specs.Names.{boot_resident_raw, few_inputs, of_record}
use Rattle.worked_commands.proofs.EachFile.{crash_notes, drill_spoiled}
use Rattle.worked_commands.proofs.Reading.{read_by}
use Rattle.worked_commands.proofs.CallFiles.{migrate_spoiled}
use Rattle.worked_commands.proofs.calls.refusals_of_files.Goals as goal

pub returns-clause-boot : goal.returns-clause-boot
unfolding and_then read_pages pages_onto entry_at field pool_reading pool_onto line_onto checked_range range_of lines cut number number_of pair_of pair_line lines_onto two_numbers record_reading tested_head read_head
returns-clause-boot c = inl (read_by (spoiled_of (codes "p" ∷ [])) (load_inputs (Raw 0x2000 0x2000) few_inputs))

pub returns-clause-load : goal.returns-clause-load
unfolding and_then read_pages pages_onto entry_at field pool_reading pool_onto line_onto checked_range range_of lines cut number number_of pair_of pair_line lines_onto two_numbers record_reading tested_head read_head
returns-clause-load c = inl (read_by (spoiled_of (codes "p" ∷ [])) (load_inputs (Raw 0x2000 0x2000) few_inputs))

pub returns-clause-load_panic : goal.returns-clause-load_panic
returns-clause-load_panic c = inl crash_notes

pub returns-clause-check : goal.returns-clause-check
unfolding and_then read_pages pages_onto entry_at field pool_reading pool_onto line_onto checked_range range_of lines cut number number_of pair_of pair_line lines_onto two_numbers record_reading tested_head read_head
returns-clause-check c = inl (read_by (spoiled_of (codes "r" ∷ [])) (load_files_of of_record))

pub returns-clause-dump : goal.returns-clause-dump
unfolding and_then read_pages pages_onto entry_at field pool_reading pool_onto line_onto checked_range range_of lines cut number number_of pair_of pair_line lines_onto two_numbers record_reading tested_head read_head
returns-clause-dump c = inl (read_by (spoiled_of (codes "m" ∷ codes "r" ∷ [])) (load_files_of of_record))

pub returns-clause-exec : goal.returns-clause-exec
unfolding and_then read_pages pages_onto entry_at field pool_reading pool_onto line_onto checked_range range_of lines cut number number_of pair_of pair_line lines_onto two_numbers record_reading tested_head read_head
returns-clause-exec c = inl (read_by (spoiled_of (codes "r" ∷ [])) (load_files_of of_record))

pub returns-clause-trace : goal.returns-clause-trace
unfolding and_then read_pages pages_onto entry_at field pool_reading pool_onto line_onto checked_range range_of lines cut number number_of pair_of pair_line lines_onto two_numbers record_reading tested_head read_head
returns-clause-trace c = inl (read_by (spoiled_of (codes "m" ∷ [])) (memory_file (codes "m")))

pub returns-clause-migrate : goal.returns-clause-migrate
returns-clause-migrate c = inl migrate_spoiled

pub returns-clause-boot_resident : goal.returns-clause-boot_resident
unfolding and_then read_pages pages_onto entry_at field pool_reading pool_onto line_onto checked_range range_of lines cut number number_of pair_of pair_line lines_onto two_numbers record_reading tested_head read_head
returns-clause-boot_resident c = inl (read_by (spoiled_of (codes "l" ∷ [])) (resident_files boot_resident_raw))

pub returns-clause-drill : goal.returns-clause-drill
returns-clause-drill c = inl drill_spoiled

pub returns-clause-core : goal.returns-clause-core
unfolding and_then read_pages pages_onto entry_at field pool_reading pool_onto line_onto checked_range range_of lines cut number number_of pair_of pair_line lines_onto two_numbers record_reading tested_head read_head
returns-clause-core c = inl (read_by (spoiled_of (codes "m" ∷ [])) (memory_file (codes "m")))
