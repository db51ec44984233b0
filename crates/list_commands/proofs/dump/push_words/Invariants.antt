use Rattle.std.proofs.Common.{◌≡◌, ◌++◌, drop, string_bytes}
use Rattle.list_commands.specs.Dump.{word_lines}
use Rattle.list_commands.proofs.dump.push_words.Given as goal

abbrev pub invariant-loop-number : goal.invariant-loop-number
invariant-loop-number l = string_bytes l.text ++ word_lines l.number (drop l.number l.words) ≡ string_bytes l.fn.text ++ word_lines 0 l.words
