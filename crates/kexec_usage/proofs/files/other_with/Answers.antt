use Rattle.std.proofs.Common.{rules, tests}
use Rattle.std.proofs.lemmas.Iterator.{YieldsList-from_slice}
use Rattle.std.proofs.lemmas.Iterator.Search.{find_from_yields_List}
use Rattle.kexec_usage.specs.inner.Words.{given_value}
use Rattle.kexec_usage.specs.inner.Files.{is_other_with}
use Rattle.kexec_usage.proofs.Words.{found}
use Rattle.kexec_usage.proofs.files.other_with.Goals as goal

pub returns : goal.returns
returns c =
    found given_value (is_other_with (given_value c.args.file.now)) c.args.given.now _
    (find_from_yields_List (λ g. is_other_with (given_value c.args.file.now) (given_value g)) _ _ _ c.find.ensures.ran (YieldsList-from_slice c.args.given.now cc) (λ x b q k. search (rules, tests)))
