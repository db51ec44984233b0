use Rattle.std.proofs.Common.{bytes_eq, rules, tests}
use Rattle.std.proofs.lemmas.Iterator.{YieldsList-from_slice}
use Rattle.std.proofs.lemmas.Iterator.Search.{find_from_yields_List}
use Rattle.kexec_usage.specs.inner.Words.{given_value}
use Rattle.kexec_usage.proofs.Words.{found}
use Rattle.kexec_usage.proofs.given.one_of.Goals as goal

pub returns : goal.returns
returns c =
    found given_value (λ g. bytes_eq g.name c.args.name.now) c.args.given.now _
    (find_from_yields_List (λ g. bytes_eq g.argument.now.name.now c.args.name.now) _ _ _ c.find.ensures.ran (YieldsList-from_slice c.args.given.now cc) (λ x b q k. search (rules, tests)))
