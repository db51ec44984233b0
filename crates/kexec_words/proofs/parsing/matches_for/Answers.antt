use Rattle.std.proofs.Common.{◌≡◌, true, subst, sym, map, string_bytes, Ok}
use Rattle.clap.specs.Words.{app_of, is_simple_and_free}
use Rattle.clap.proofs.WalkLemmas.{both}
use Rattle.kexec_words.specs.inner.Given.{Parses}
use Rattle.kexec_words.proofs.parsing.matches_for.Goals as goal

pub returns-in-Ok : goal.returns-in-Ok
returns-in-Ok c =
    let is = c.in_ok-command.ensures in
    let parsed = c.in-Ok in
    let simple : is_simple_and_free (app_of c.in_ok-command.command) ≡ true = subst (λ a. is_simple_and_free a ≡ true) (sym is) c.requires.simple in
    subst (λ a. Parses a (map string_bytes c.args.words.now) (Ok parsed.matches)) is (parsed.ensures.kinds simple, (parsed.ensures.matches (both _ _ simple).0).0)
