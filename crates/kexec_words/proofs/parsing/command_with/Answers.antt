use Rattle.std.proofs.Common.{◌≡◌, ◌∙◌, ◌+◌, ◌<◌, ℕ, List, [], ◌∷◌, length, take, get_or, refl}
use Rattle.std.proofs.lemmas.List.{take_more, map-append}
use Rattle.clap.specs.Words.{App, Rule, Text, with_rule}
use Rattle.kexec_words.specs.Apps.{rule_by, app_taking}
use Rattle.command_table.specs.inner.Table.{argument_value, argument_values}
use Rattle.command_table.specs.declared.table.Argument.{Argument}
use Rattle.kexec_words.proofs.parsing.command_with.Goals as goal

step : (name : Text) (xs : List Argument) (i : ℕ) (d : Argument) (a : App) (r : Rule) → i < length xs
    → a ≡ app_taking name (argument_values (take i xs)) → r ≡ rule_by (argument_value (get_or xs i d)) → with_rule a r ≡ app_taking name (argument_values (take (i + 1) xs))
step name xs i d a r lt at rule = rw (at, rule, take_more xs i d lt, map-append argument_value (take i xs) (get_or xs i d ∷ []), map-append rule_by (argument_values (take i xs)) (argument_value (get_or xs i d) ∷ [])) refl

pub loop-argument-preserved : goal.loop-argument-preserved
loop-argument-preserved c =
    c.in_ok-command.ensures.shape c.arg_of.ensures.own
    ∙ step c.args.name.now c.args.arguments.now c.loop-argument.argument-index _ _ _ c.loop-argument-test.true c.loop-argument.invariant c.arg_of.ensures.rule
