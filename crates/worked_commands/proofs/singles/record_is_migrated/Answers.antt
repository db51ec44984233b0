-- By the one file of the record.
use Rattle.std.proofs.Common.{◌≡◌, ◌∙◌, [], ◌∷◌, Ok, refl, sym, ap}
use Rattle.std.specs.Prelude.{codes}
use Rattle.std.specs.Fmt.{digits}
use Rattle.command_parts.specs.Outputs.{IsReadBack, Made}
use Rattle.list_commands.specs.Migrate.{segments_line}
use Rattle.kx_fields.specs.Fields.{field, with_field, zeros}
use Rattle.load_record.specs.File.{read_head, read_segments, record_file, record_reading, record_text, segment_at, segment_text, tested_head, tested_segments}
use Rattle.load_record.specs.Head.{head_fault, head_text}
use Rattle.segments.specs.Rules.{bare_refusal, shape_refusal}
use Rattle.sha2.specs.Sha256.{compress, digest_bytes, first_words, hash_after, rounds, schedule, sha256}
use Rattle.worked_commands.specs.Inputs.{three_bytes_file, three_bytes_record}
use Rattle.worked_commands.specs.Singles.{migrate_makes, one_output}
use Rattle.worked_commands.proofs.singles.record_is_migrated.Goals as goal

bytes_are : record_file three_bytes_record ≡ three_bytes_file
unfolding record_text record_reading tested_head read_head segment_at segment_text read_segments tested_segments head_text head_fault bare_refusal shape_refusal field with_field zeros compress digest_bytes first_words hash_after rounds schedule sha256
bytes_are = refl

reads_back : IsReadBack three_bytes_record
unfolding record_text record_reading tested_head read_head segment_at segment_text read_segments tested_segments head_text head_fault bare_refusal shape_refusal field with_field zeros compress digest_bytes first_words hash_after rounds schedule sha256
reads_back = refl

line_is : segments_line 1 ≡ codes "record segments 1\n"
unfolding digits
line_is = refl

alone : (goods : Made) → migrate_makes (Ok goods) → goods ≡ one_output three_bytes_file (codes "record segments 1\n")
alone goods (text, fault, outputs, back) =
    let said : goods.text ≡ codes "record segments 1\n" = text ∙ line_is in
    let put : goods.outputs ≡ (codes "o", three_bytes_file) ∷ [] = outputs ∙ ap (λ bytes. (codes "o", bytes) ∷ []) bytes_are in
    λ i. record { outputs = put i; text = said i; fault = fault i }

pub returns-clause-made : goal.returns-clause-made
returns-clause-made c = (sym line_is, refl, ap (λ bytes. (codes "o", bytes) ∷ []) (sym bytes_are), reads_back)

pub returns-clause-nothing_else : goal.returns-clause-nothing_else
returns-clause-nothing_else c = alone

pub returns-clause-not_refused : goal.returns-clause-not_refused
returns-clause-not_refused c = λ why h. h
