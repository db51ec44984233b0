-- By computing.
use Rattle.std.specs.Prelude.{refl}
use Rattle.load_record.specs.File.{record_text, record_reading, tested_head, read_head, segment_at, segment_text, read_segments, tested_segments}
use Rattle.kx_fields.specs.Fields.{field, with_field, zeros}
use Rattle.load_record.specs.Head.{head_text, head_fault}
use Rattle.segments.specs.Rules.{bare_refusal, shape_refusal}
use Rattle.sha2.specs.Sha256.{compress, digest_bytes, first_words, hash_after, rounds, schedule, sha256}
use Rattle.worked_examples.proofs.records.record_of_one_page.Goals as goal

pub returns-clause-bytes : goal.returns-clause-bytes
unfolding record_text record_reading tested_head read_head segment_at read_segments tested_segments head_text segment_text field with_field zeros head_fault bare_refusal shape_refusal first_words schedule rounds compress hash_after digest_bytes sha256
returns-clause-bytes c = refl

pub returns-clause-length : goal.returns-clause-length
unfolding record_text record_reading tested_head read_head segment_at read_segments tested_segments head_text segment_text field with_field zeros head_fault bare_refusal shape_refusal first_words schedule rounds compress hash_after digest_bytes sha256
returns-clause-length c = refl

pub returns-clause-read : goal.returns-clause-read
unfolding record_text record_reading tested_head read_head segment_at read_segments tested_segments head_text segment_text field with_field zeros head_fault bare_refusal shape_refusal first_words schedule rounds compress hash_after digest_bytes sha256
returns-clause-read c = refl

pub returns-clause-first_bytes : goal.returns-clause-first_bytes
unfolding record_text record_reading tested_head read_head segment_at read_segments tested_segments head_text segment_text field with_field zeros head_fault bare_refusal shape_refusal first_words schedule rounds compress hash_after digest_bytes sha256
returns-clause-first_bytes c = refl

pub returns-clause-first_length : goal.returns-clause-first_length
unfolding record_text record_reading tested_head read_head segment_at read_segments tested_segments head_text segment_text field with_field zeros head_fault bare_refusal shape_refusal first_words schedule rounds compress hash_after digest_bytes sha256
returns-clause-first_length c = refl

pub returns-clause-first_read : goal.returns-clause-first_read
unfolding record_text record_reading tested_head read_head segment_at read_segments tested_segments head_text segment_text field with_field zeros head_fault bare_refusal shape_refusal first_words schedule rounds compress hash_after digest_bytes sha256
returns-clause-first_read c = refl

pub returns-clause-kept : goal.returns-clause-kept
unfolding record_text record_reading tested_head read_head segment_at read_segments tested_segments head_text segment_text field with_field zeros head_fault bare_refusal shape_refusal first_words schedule rounds compress hash_after digest_bytes sha256
returns-clause-kept c = refl
