-- By computing.
use Rattle.std.specs.Fmt.{digits}
use Rattle.hex.specs.Hex.{encode_with}
use Rattle.sha2.specs.Sha256.{compress, digest_bytes, first_words, hash_after, rounds, schedule, sha256}
use Rattle.std.proofs.Common.{◌≡◌, ◌∙◌, ◌++◌, refl, sym, ap}
use Rattle.std.specs.List.{flat_map}
use Rattle.list_commands.specs.Dump.{head_text, lines_of, segment_line, word_line}
use Rattle.worked_commands.specs.Dumps.{crash_text}
use Rattle.worked_commands.specs.Inputs.{three_bytes}
use Rattle.worked_commands.proofs.dumped.crash_kernel_is_dumped.Goals as goal

said : head_text 4 ++ flat_map segment_line three_bytes ≡ crash_text
unfolding digits segment_line word_line encode_with compress digest_bytes first_words hash_after rounds schedule sha256
said = refl

pub returns-clause-told : goal.returns-clause-told
returns-clause-told c = λ m. ap lines_of (sym said)

pub returns-clause-nothing_else : goal.returns-clause-nothing_else
returns-clause-nothing_else c = λ m goods h. h ∙ ap lines_of said

pub returns-clause-not_refused : goal.returns-clause-not_refused
returns-clause-not_refused c = λ m why h. h
