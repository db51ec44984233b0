-- What is read of the files of the examples, for the calls.
use Rattle.std.proofs.Common.{◌≡◌, [], ◌∷◌, Ok, Err}
use Rattle.std.specs.Prelude.{codes}
use Rattle.kx_fields.specs.Fields.{field, with_field, zeros}
use Rattle.load_record.specs.File.{read_head, read_segments, record_reading, record_text, segment_at, segment_text, tested_head, tested_segments}
use Rattle.load_record.specs.Head.{head_fault, head_text}
use Rattle.segments.specs.Rules.{bare_refusal, shape_refusal}
use Rattle.sha2.specs.Sha256.{compress, digest_bytes, first_words, hash_after, rounds, schedule, sha256}
use Rattle.page_memory.specs.File.{read_pages, pages_onto, entry_at}
use Rattle.page_pool.specs.File.{pool_reading, pages_onto as pool_onto, line_onto, checked_range, range_of}
use Rattle.text_lines.specs.Lines.{lines, cut, number, number_of}
use Rattle.file_commands.specs.Taking.{and_then, reads}
use Rattle.list_commands.specs.Records.{load_by, load_files_of, load_record_file}
use Rattle.kx_pages.specs.declared.image.ImageType.TheVariants.{Raw}
use Rattle.load_commands.specs.Inputs.{load_inputs}
use Rattle.command_parts.specs.declared.reason.InputFault.TheVariants as inputs
use Rattle.load_record.specs.declared.fault.RecFault.TheVariants as records
use Rattle.worked_commands.specs.Inputs.{each_file, each_of, few_read, short_pool, short_pool_of, spoiled, spoiled_of, three_bytes_record, unreadable}
use Rattle.worked_commands.specs.Loads.{few_with}
use Rattle.worked_commands.specs.Names.{few_inputs, of_record}
use Rattle.worked_commands.specs.Texts.{no_memory}
use Rattle.worked_commands.proofs.Reading.{read_by}

pub few_taken : reads (load_inputs (Raw 0x2000 0x2000) few_inputs) each_file ≡ Ok few_read
unfolding and_then read_pages pages_onto entry_at field pool_reading pool_onto line_onto checked_range range_of lines cut number number_of
few_taken = read_by each_of (load_inputs (Raw 0x2000 0x2000) few_inputs)

pub short_taken : reads (load_inputs (Raw 0x2000 0x2000) few_inputs) short_pool ≡ Ok (few_with (0x10 ∷ 0x11 ∷ []))
unfolding and_then read_pages pages_onto entry_at field pool_reading pool_onto line_onto checked_range range_of lines cut number number_of
short_taken = read_by short_pool_of (load_inputs (Raw 0x2000 0x2000) few_inputs)

pub record_taken : reads (load_files_of of_record) each_file ≡ Ok (load_by no_memory three_bytes_record)
unfolding and_then read_pages pages_onto entry_at field record_text record_reading tested_head read_head segment_at segment_text read_segments tested_segments head_text head_fault bare_refusal shape_refusal with_field zeros compress digest_bytes first_words hash_after rounds schedule sha256
record_taken = read_by each_of (load_files_of of_record)

pub migrate_read : reads (load_record_file (codes "r")) each_file ≡ Ok three_bytes_record
unfolding and_then read_pages pages_onto entry_at field record_text record_reading tested_head read_head segment_at segment_text read_segments tested_segments head_text head_fault bare_refusal shape_refusal with_field zeros compress digest_bytes first_words hash_after rounds schedule sha256
migrate_read = read_by each_of (load_record_file (codes "r"))

pub migrate_spoiled : reads (load_record_file (codes "r")) (spoiled (codes "r" ∷ [])) ≡ Err (unreadable (inputs.Rec records.BadMagic))
unfolding and_then record_reading tested_head read_head
migrate_spoiled = read_by (spoiled_of (codes "r" ∷ [])) (load_record_file (codes "r"))
