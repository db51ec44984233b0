use Rattle.std.proofs.Common.{bytes_eq, rules, tests}
use Rattle.std.proofs.lemmas.Iterator.{YieldsList-from_slice}
use Rattle.std.proofs.lemmas.Iterator.Search.{find_from_yields_List}
use Rattle.kexec_words.proofs.Texts.{found}
use Rattle.kexec_words.proofs.given.one_of.Goals as goal

pub returns : goal.returns
returns c =
    found c.args.given.now c.args.id.now _
    (find_from_yields_List (λ g. bytes_eq g.argument.now.id.now c.args.id.now) _ _ _ c.find.ensures.ran (YieldsList-from_slice c.args.given.now cc) (λ x b q k. search (rules, tests)))
