use Rattle.std.proofs.Common.{◌&&◌, bytes_eq, rules, tests}
use Rattle.std.proofs.lemmas.Iterator.{YieldsList-from_slice}
use Rattle.std.proofs.lemmas.Iterator.Search.{find_from_yields_List}
use Rattle.command_table.specs.inner.Table.{argument_value, is_option}
use Rattle.kexec_usage.proofs.Words.{found}
use Rattle.kexec_usage.proofs.lookup.option_in.Goals as goal

pub returns : goal.returns
returns c =
    found argument_value (λ a. is_option a.form && bytes_eq a.name c.args.name.now) c.args.arguments.now _
    (find_from_yields_List (λ a. is_option a.form && bytes_eq a.name.now c.args.name.now) _ _ _ c.find.ensures.ran (YieldsList-from_slice c.args.arguments.now cc) (λ x b q k. search (rules, tests)))
