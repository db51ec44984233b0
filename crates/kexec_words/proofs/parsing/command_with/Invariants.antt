use Rattle.std.proofs.Common.{◌≡◌, take}
use Rattle.clap.specs.Words.{app_of}
use Rattle.kexec_words.specs.Apps.{app_taking}
use Rattle.command_table.specs.inner.Table.{argument_values}
use Rattle.kexec_words.proofs.parsing.command_with.Given as goal

abbrev pub invariant-loop-argument : goal.invariant-loop-argument
invariant-loop-argument l = app_of l.command ≡ app_taking l.name (argument_values (take l.argument-index l.arguments))
