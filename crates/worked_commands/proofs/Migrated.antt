-- The record that is migrated is the one of the examples.
use Rattle.std.proofs.Common.{◌≡◌, [], ◌∷◌, Ok, refl, sym, subst}
use Rattle.std.specs.Prelude.{codes}
use Rattle.std.specs.Fmt.{digits}
use Rattle.kx_edge.specs.Edge.{Said}
use Rattle.kx_edge.specs.declared.edge.Shelf.{Ghosts as Shelf}
use Rattle.kx_edge.specs.declared.edge.Sink.{Ghosts as Sink}
use Rattle.kx_fields.specs.Fields.{field, with_field, zeros}
use Rattle.load_record.specs.File.{read_head, read_segments, record_file, record_reading, record_text, segment_at, segment_text, tested_head, tested_segments}
use Rattle.load_record.specs.Head.{head_fault, head_text}
use Rattle.segments.specs.Rules.{bare_refusal, shape_refusal}
use Rattle.sha2.specs.Sha256.{compress, digest_bytes, first_words, hash_after, rounds, schedule, sha256}
use Rattle.file_commands.specs.Answers.{FilesPut}
use Rattle.kexec_words.specs.Values as words
use Rattle.kexec_main.specs.Call.{HasDone}
use Rattle.list_commands.specs.Migrate.{segments_line}
use Rattle.worked_commands.specs.Inputs.{each_file, three_bytes_file, three_bytes_record}
use Rattle.worked_commands.specs.Lists.{GivenBy}
use Rattle.worked_commands.specs.Names.{migrate_record}
use Rattle.worked_commands.proofs.CallFiles.{migrate_read}

pub bytes_are : record_file three_bytes_record ≡ three_bytes_file
unfolding field record_text record_reading tested_head read_head segment_at segment_text read_segments tested_segments head_text head_fault bare_refusal shape_refusal with_field zeros compress digest_bytes first_words hash_after rounds schedule sha256
bytes_are = refl

reads_back : record_reading (record_file three_bytes_record) ≡ Ok three_bytes_record
unfolding field record_text record_reading tested_head read_head segment_at segment_text read_segments tested_segments head_text head_fault bare_refusal shape_refusal with_field zeros compress digest_bytes first_words hash_after rounds schedule sha256
reads_back = refl

pub line_is : segments_line 1 ≡ codes "record segments 1\n"
unfolding digits
line_is = refl

pub migrated : {S O : Type 0} (D : Shelf S) (E : Sink O) → GivenBy D E (λ s o t p. HasDone D E each_file s o t p (words.migrate migrate_record)) ((codes "o", three_bytes_file) ∷ []) (codes "record segments 1\n")
migrated D E = λ a o t p put say. (
  three_bytes_record,
  migrate_read,
  record {
    read_back = reads_back;
    put = subst (λ bytes. FilesPut (D.files a) ((codes "o", bytes) ∷ []) (D.files t)) (sym bytes_are) put;
    said = subst (λ text. Said (E.said o) text (E.said p)) (sym line_is) say;
  },
)
