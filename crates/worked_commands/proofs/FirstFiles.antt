-- What is read of the files that `load` put.
use Rattle.std.proofs.Common.{◌≡◌, ◌∙◌, [], ◌∷◌, Ok, refl, ap}
use Rattle.std.specs.Prelude.{codes}
use Rattle.kx_fields.specs.Fields.{field, with_field, zeros}
use Rattle.kx_pages.specs.Bytes.{page_of}
use Rattle.load_record.specs.File.{read_head, read_segments, record_reading, record_text, segment_at, segment_text, tested_head, tested_segments}
use Rattle.load_record.specs.Head.{head_fault, head_text}
use Rattle.segments.specs.Rules.{bare_refusal, shape_refusal}
use Rattle.sha2.specs.Sha256.{compress, digest_bytes, first_words, hash_after, rounds, schedule, sha256}
use Rattle.page_memory.specs.File.{read_pages, pages_onto, entry_at, reading, text_of}
use Rattle.file_commands.specs.Files.{from_reader, whole_file}
use Rattle.file_commands.specs.Taking.{and_then, reads}
use Rattle.file_commands.proofs.Steps.{reads_ok}
use Rattle.list_commands.specs.Records.{load_by, load_files, load_record_file}
use Rattle.command_parts.specs.Files.{memory_file, memory_limit}
use Rattle.command_parts.specs.declared.reason.InputFault.TheVariants as inputs
use Rattle.command_parts.specs.declared.reason.Reason.{Reason}
use Rattle.command_parts.specs.declared.reason.Reason.TheVariants as reasons
use Rattle.worked_commands.specs.Firsts.{loaded_files, loaded_of}
use Rattle.worked_commands.specs.Inputs.{three_bytes_record}
use Rattle.worked_commands.specs.Memories.{abc_page, list_page, loaded, loaded_file, loaded_pages, memory_with}
use Rattle.worked_commands.proofs.Memories.{one_memory_of}
use Rattle.worked_commands.proofs.Reading.{read_by}

-- the memory file reads as the memory after the load
reading_is : reading loaded_file ≡ Ok (memory_with ((0x12, abc_page) ∷ (0x11, list_page) ∷ []))
unfolding and_then read_pages pages_onto entry_at field text_of page_of
reading_is = refl

whole_read : reads (whole_file {R = Reason} memory_limit (codes "m")) loaded_files ≡ Ok loaded_file
unfolding text_of page_of
whole_read = read_by loaded_of (whole_file memory_limit (codes "m"))

pub memory_read : reads (memory_file (codes "m")) loaded_files ≡ Ok loaded
memory_read =
    reads_ok (whole_file memory_limit (codes "m")) (λ bytes. from_reader (λ e. reasons.Input (inputs.Mem e)) (reading bytes)) loaded_files loaded_file whole_read
    ∙ ap (λ r. reads (from_reader (λ e. reasons.Input (inputs.Mem e)) r) loaded_files) (reading_is ∙ ap Ok (one_memory_of ((0x12, abc_page) ∷ (0x11, list_page) ∷ []) loaded_pages refl))

record_read : reads (load_record_file (codes "r")) loaded_files ≡ Ok three_bytes_record
unfolding and_then field record_text record_reading tested_head read_head segment_at segment_text read_segments tested_segments head_text head_fault bare_refusal shape_refusal with_field zeros compress digest_bytes first_words hash_after rounds schedule sha256
record_read = read_by loaded_of (load_record_file (codes "r"))

pub load_read : reads (load_files (codes "m") (codes "r")) loaded_files ≡ Ok (load_by loaded three_bytes_record)
load_read =
    reads_ok (memory_file (codes "m")) _ loaded_files loaded memory_read
    ∙ (reads_ok (load_record_file (codes "r")) _ loaded_files three_bytes_record record_read ∙ refl)
