use Rattle.std.proofs.Common.{◌≡◌, drop, map, string_bytes}
use Rattle.kexec_usage.specs.inner.Words.{has_help}
use Rattle.kexec_usage.proofs.asking.asks_for_help.Given as goal

abbrev pub invariant-loop-word : goal.invariant-loop-word
invariant-loop-word l = has_help (map string_bytes (drop l.word-index l.words)) ≡ has_help (map string_bytes l.words)
