-- By computing.
use Rattle.std.specs.Prelude.{refl}
use Rattle.load_record.specs.File.{record_text, record_reading, tested_head, read_head, segment_at, segment_text, read_segments, tested_segments}
use Rattle.kx_fields.specs.Fields.{field, with_field, zeros}
use Rattle.load_record.specs.Head.{head_text, head_fault}
use Rattle.segments.specs.Rules.{bare_refusal, shape_refusal}
use Rattle.sha2.specs.Sha256.{compress, digest_bytes, first_words, hash_after, rounds, schedule, sha256}
use Rattle.worked_examples.proofs.records.spoiled_records.Goals as goal

pub returns-clause-shorter : goal.returns-clause-shorter
unfolding record_text record_reading tested_head read_head segment_at read_segments tested_segments head_text segment_text field with_field zeros head_fault bare_refusal shape_refusal first_words schedule rounds compress hash_after digest_bytes sha256
returns-clause-shorter c = refl

pub returns-clause-short_digest : goal.returns-clause-short_digest
unfolding record_text record_reading tested_head read_head segment_at read_segments tested_segments head_text segment_text field with_field zeros head_fault bare_refusal shape_refusal first_words schedule rounds compress hash_after digest_bytes sha256
returns-clause-short_digest c = refl

pub returns-clause-short_head : goal.returns-clause-short_head
unfolding record_text record_reading tested_head read_head segment_at read_segments tested_segments head_text segment_text field with_field zeros head_fault bare_refusal shape_refusal first_words schedule rounds compress hash_after digest_bytes sha256
returns-clause-short_head c = refl

pub returns-clause-longer : goal.returns-clause-longer
unfolding record_text record_reading tested_head read_head segment_at read_segments tested_segments head_text segment_text field with_field zeros head_fault bare_refusal shape_refusal first_words schedule rounds compress hash_after digest_bytes sha256
returns-clause-longer c = refl

pub returns-clause-first_shorter : goal.returns-clause-first_shorter
unfolding record_text record_reading tested_head read_head segment_at read_segments tested_segments head_text segment_text field with_field zeros head_fault bare_refusal shape_refusal first_words schedule rounds compress hash_after digest_bytes sha256
returns-clause-first_shorter c = refl

pub returns-clause-first_longer : goal.returns-clause-first_longer
unfolding record_text record_reading tested_head read_head segment_at read_segments tested_segments head_text segment_text field with_field zeros head_fault bare_refusal shape_refusal first_words schedule rounds compress hash_after digest_bytes sha256
returns-clause-first_longer c = refl

pub returns-clause-magic : goal.returns-clause-magic
unfolding record_text record_reading tested_head read_head segment_at read_segments tested_segments head_text segment_text field with_field zeros head_fault bare_refusal shape_refusal first_words schedule rounds compress hash_after digest_bytes sha256
returns-clause-magic c = refl

pub returns-clause-kind : goal.returns-clause-kind
unfolding record_text record_reading tested_head read_head segment_at read_segments tested_segments head_text segment_text field with_field zeros head_fault bare_refusal shape_refusal first_words schedule rounds compress hash_after digest_bytes sha256
returns-clause-kind c = refl

pub returns-clause-mode : goal.returns-clause-mode
unfolding record_text record_reading tested_head read_head segment_at read_segments tested_segments head_text segment_text field with_field zeros head_fault bare_refusal shape_refusal first_words schedule rounds compress hash_after digest_bytes sha256
returns-clause-mode c = refl

pub returns-clause-crash_kept : goal.returns-clause-crash_kept
unfolding record_text record_reading tested_head read_head segment_at read_segments tested_segments head_text segment_text field with_field zeros head_fault bare_refusal shape_refusal first_words schedule rounds compress hash_after digest_bytes sha256
returns-clause-crash_kept c = refl

pub returns-clause-crash_control_page : goal.returns-clause-crash_control_page
unfolding record_text record_reading tested_head read_head segment_at read_segments tested_segments head_text segment_text field with_field zeros head_fault bare_refusal shape_refusal first_words schedule rounds compress hash_after digest_bytes sha256
returns-clause-crash_control_page c = refl

pub returns-clause-swap_page_without_need : goal.returns-clause-swap_page_without_need
unfolding record_text record_reading tested_head read_head segment_at read_segments tested_segments head_text segment_text field with_field zeros head_fault bare_refusal shape_refusal first_words schedule rounds compress hash_after digest_bytes sha256
returns-clause-swap_page_without_need c = refl

pub returns-clause-no_segments : goal.returns-clause-no_segments
unfolding record_text record_reading tested_head read_head segment_at read_segments tested_segments head_text segment_text field with_field zeros head_fault bare_refusal shape_refusal first_words schedule rounds compress hash_after digest_bytes sha256
returns-clause-no_segments c = refl

pub returns-clause-bad_address : goal.returns-clause-bad_address
unfolding record_text record_reading tested_head read_head segment_at read_segments tested_segments head_text segment_text field with_field zeros head_fault bare_refusal shape_refusal first_words schedule rounds compress hash_after digest_bytes sha256
returns-clause-bad_address c = refl
