use Rattle.std.proofs.Common.{◌∙◌, bytes_eq, string_bytes, rules, tests}
use Rattle.std.proofs.lemmas.Iterator.{YieldsList-from_slice}
use Rattle.std.proofs.lemmas.Iterator.Search.{any_from_yields_List}
use Rattle.clap.proofs.WalkLemmas.{list_any-map}
use Rattle.kexec_words.proofs.naming.is_listed.Goals as goal

pub returns : goal.returns
returns c =
    any_from_yields_List (λ s. bytes_eq (string_bytes s) c.args.text.now) _ _ _ c.any.ensures.ran
    (YieldsList-from_slice c.args.names.now (cc)) (λ x b q k. search (rules, tests))
    ∙ list_any-map (λ n. bytes_eq n c.args.text.now) string_bytes c.args.names.now
