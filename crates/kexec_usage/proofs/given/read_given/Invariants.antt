use Rattle.std.proofs.Common.{◌≡◌, drop, map, string_bytes}
use Rattle.command_table.specs.inner.Table.{argument_values}
use Rattle.kexec_usage.specs.inner.Reading.{reading_value, reading_of, reading_start}
use Rattle.kexec_usage.proofs.given.read_given.Given as goal

abbrev pub invariant-loop-word : goal.invariant-loop-word
invariant-loop-word l = reading_of (reading_value l.reading) (map string_bytes (drop l.word-index l.words)) ≡ reading_of (reading_start (argument_values l.arguments)) (map string_bytes l.words)
