-- By computing.
use Rattle.std.specs.Prelude.{refl}
use Rattle.load_record.specs.File.{record_text, record_reading, tested_head, read_head, segment_at, segment_text, read_segments, tested_segments}
use Rattle.kx_fields.specs.Fields.{field, with_field, zeros}
use Rattle.load_record.specs.Head.{head_text, head_fault}
use Rattle.segments.specs.Rules.{bare_refusal, shape_refusal}
use Rattle.sha2.specs.Sha256.{compress, digest_bytes, first_words, hash_after, rounds, schedule, sha256}
use Rattle.worked_examples.proofs.records.changed_bytes.Goals as goal

pub returns-clause-last_byte : goal.returns-clause-last_byte
unfolding record_text record_reading tested_head read_head segment_at read_segments tested_segments head_text segment_text field with_field zeros head_fault bare_refusal shape_refusal first_words schedule rounds compress hash_after digest_bytes sha256
returns-clause-last_byte c = refl

pub returns-clause-digest : goal.returns-clause-digest
unfolding record_text record_reading tested_head read_head segment_at read_segments tested_segments head_text segment_text field with_field zeros head_fault bare_refusal shape_refusal first_words schedule rounds compress hash_after digest_bytes sha256
returns-clause-digest c = refl

pub returns-clause-before_the_rules : goal.returns-clause-before_the_rules
unfolding record_text record_reading tested_head read_head segment_at read_segments tested_segments head_text segment_text field with_field zeros head_fault bare_refusal shape_refusal first_words schedule rounds compress hash_after digest_bytes sha256
returns-clause-before_the_rules c = refl

pub returns-clause-after_the_end : goal.returns-clause-after_the_end
unfolding record_text record_reading tested_head read_head segment_at read_segments tested_segments head_text segment_text field with_field zeros head_fault bare_refusal shape_refusal first_words schedule rounds compress hash_after digest_bytes sha256
returns-clause-after_the_end c = refl
