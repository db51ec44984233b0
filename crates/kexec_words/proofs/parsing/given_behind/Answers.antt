use Rattle.std.proofs.Math.Path.{subst₂}
use Rattle.std.proofs.Common.{◌≡◌, ◌∙◌, ap, sym, true, map, string_bytes, Global, Vec, Ok, Err}
use Rattle.clap.specs.Words.{found_of, is_simple_and_free, rows_of}
use Rattle.kexec_words.specs.Apps.{app_taking}
use Rattle.kexec_words.specs.Given.{given_of}
use Rattle.kexec_words.specs.Meaning.{answer_by}
use Rattle.kexec_words.specs.inner.Given.{Parses, given_values}
use Rattle.kexec_words.specs.declared.given.Given.{Given}
use Rattle.kexec_words.proofs.Taken.{simple, exits, given_taken, given_refused}
use Rattle.kexec_words.proofs.parsing.given_behind.Goals as goal

pub matches_for-requires : goal.matches_for-requires
matches_for-requires c =
    record {
      simple = subst₂ (λ t a. is_simple_and_free (app_taking t a) ≡ true) (sym c.text.ensures) (sym c.arguments-arguments.ensures) (simple c.args.name);
    }

pub returns : goal.returns
returns c =
    given_taken c.args.name (map string_bytes c.args.words.now) c.in_ok-matches.matches (given_values c.in_ok-given_of.field-0.items)
    (subst₂ (λ t a. Parses (app_taking t a) (map string_bytes c.args.words.now) (Ok c.in_ok-matches.matches)) c.text.ensures c.arguments-arguments.ensures c.in_ok-matches.ensures)
    (c.in_ok-given_of.ensures ∙ ap (λ a. given_of a (rows_of (found_of c.in_ok-matches.matches))) c.arguments-arguments.ensures)

pub returns-in_err-matches : goal.returns-in_err-matches
returns-in_err-matches c =
    exits (λ (v : Vec Given Global). given_values v.items) (answer_by c.args.name (λ given. Ok given) (map string_bytes c.args.words.now)) c.from_residual.result c.in_err-matches.field-0.0 c.from_residual.ensures.1
    (given_refused (λ (v : Vec Given Global). given_values v.items) c.args.name (λ given. Ok given) (map string_bytes c.args.words.now) c.in_err-matches.field-0.0
    (subst₂ (λ t a. Parses (app_taking t a) (map string_bytes c.args.words.now) (Err c.in_err-matches.field-0.0)) c.text.ensures c.arguments-arguments.ensures c.in_err-matches.ensures))
