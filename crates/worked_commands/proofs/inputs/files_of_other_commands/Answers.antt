-- By computing.
use Rattle.std.specs.Prelude.{refl, codes}
use Rattle.load_commands.specs.BootResident.{resident_files}
use Rattle.command_parts.specs.Files.{memory_file}
use Rattle.worked_commands.specs.Inputs.{each_of}
use Rattle.worked_commands.specs.Names.{boot_resident_raw}
use Rattle.worked_commands.proofs.Reading.{read_by}
use Rattle.worked_commands.proofs.EachFile.{drill_read}
use Rattle.file_commands.specs.Taking.{and_then}
use Rattle.kx_fields.specs.Fields.{field}
use Rattle.page_memory.specs.File.{read_pages, pages_onto, entry_at, text_of}
use Rattle.text_lines.specs.Lines.{lines, cut, number, number_of, lines_onto, two_numbers}
use Rattle.page_pool.specs.File.{pool_reading, pages_onto as pool_onto, line_onto, checked_range, range_of}
use Rattle.resident_planner.specs.Pairs.{pair_of, line_onto as pair_line}
use Rattle.worked_commands.proofs.inputs.files_of_other_commands.Goals as goal

pub returns-clause-resident : goal.returns-clause-resident
unfolding and_then field read_pages pages_onto entry_at text_of lines cut number number_of pool_reading pool_onto line_onto checked_range range_of pair_of pair_line lines_onto two_numbers
returns-clause-resident c = read_by each_of (resident_files boot_resident_raw)

pub returns-clause-drill : goal.returns-clause-drill
unfolding and_then field read_pages pages_onto entry_at text_of lines cut number number_of pool_reading pool_onto line_onto checked_range range_of pair_of pair_line lines_onto two_numbers
returns-clause-drill c = drill_read

pub returns-clause-trace : goal.returns-clause-trace
unfolding and_then field read_pages pages_onto entry_at text_of lines cut number number_of pool_reading pool_onto line_onto checked_range range_of pair_of pair_line lines_onto two_numbers
returns-clause-trace c = read_by each_of (memory_file (codes "m"))

pub returns-clause-trace_mode : goal.returns-clause-trace_mode
returns-clause-trace_mode c = refl

pub returns-clause-trace_plain : goal.returns-clause-trace_plain
unfolding and_then field read_pages pages_onto entry_at text_of lines cut number number_of pool_reading pool_onto line_onto checked_range range_of pair_of pair_line lines_onto two_numbers
returns-clause-trace_plain c = refl

pub returns-clause-core : goal.returns-clause-core
unfolding and_then field read_pages pages_onto entry_at text_of lines cut number number_of pool_reading pool_onto line_onto checked_range range_of pair_of pair_line lines_onto two_numbers
returns-clause-core c = read_by each_of (memory_file (codes "m"))

pub returns-clause-sample : goal.returns-clause-sample
unfolding and_then field read_pages pages_onto entry_at text_of lines cut number number_of pool_reading pool_onto line_onto checked_range range_of pair_of pair_line lines_onto two_numbers
returns-clause-sample c = refl
