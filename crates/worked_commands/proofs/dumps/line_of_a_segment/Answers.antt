-- By computing.
use Rattle.std.specs.Prelude.{refl}
use Rattle.std.specs.Fmt.{digits}
use Rattle.list_commands.specs.Dump.{segment_line}
use Rattle.hex.specs.Hex.{encode_with}
use Rattle.sha2.specs.Sha256.{compress, digest_bytes, first_words, hash_after, rounds, schedule, sha256}
use Rattle.worked_commands.proofs.dumps.line_of_a_segment.Goals as goal

pub returns-clause-line : goal.returns-clause-line
unfolding digits segment_line encode_with compress digest_bytes first_words hash_after rounds schedule sha256
returns-clause-line c = refl

pub returns-clause-no_bytes : goal.returns-clause-no_bytes
unfolding digits segment_line encode_with compress digest_bytes first_words hash_after rounds schedule sha256
returns-clause-no_bytes c = refl
