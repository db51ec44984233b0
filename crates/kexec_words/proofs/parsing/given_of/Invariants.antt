use Rattle.std.proofs.Common.{◌≡◌, take}
use Rattle.clap.specs.Words.{rows_of, found_of}
use Rattle.command_table.specs.inner.Table.{argument_values}
use Rattle.kexec_words.specs.Given.{given_of}
use Rattle.kexec_words.specs.inner.Given.{given_values}
use Rattle.kexec_words.proofs.parsing.given_of.Given as goal

abbrev pub invariant-loop-argument : goal.invariant-loop-argument
invariant-loop-argument l = given_values l.given.items ≡ given_of (argument_values (take l.argument-index l.arguments)) (rows_of (found_of l.matches))
