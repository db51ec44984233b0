-- By computing.
use Rattle.std.specs.Prelude.{refl}
use Rattle.load_record.specs.File.{record_reading, tested_head, read_head, segment_at, read_segments, tested_segments}
use Rattle.load_record.specs.Head.{head_fault, head_text}
use Rattle.kx_fields.specs.Fields.{field, with_field, zeros}
use Rattle.worked_examples.proofs.records.numbers_of_a_record.Goals as goal

pub returns-clause-kinds : goal.returns-clause-kinds
unfolding field head_fault head_text read_head read_segments record_reading segment_at tested_head tested_segments with_field zeros
returns-clause-kinds c = refl

pub returns-clause-numbers : goal.returns-clause-numbers
unfolding field head_fault head_text read_head read_segments record_reading segment_at tested_head tested_segments with_field zeros
returns-clause-numbers c = refl

pub returns-clause-sixteen : goal.returns-clause-sixteen
unfolding field head_fault head_text read_head read_segments record_reading segment_at tested_head tested_segments with_field zeros
returns-clause-sixteen c = refl

pub returns-clause-seventeen : goal.returns-clause-seventeen
unfolding field head_fault head_text read_head read_segments record_reading segment_at tested_head tested_segments with_field zeros
returns-clause-seventeen c = refl
