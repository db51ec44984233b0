-- Texts among what is given.
use Rattle.std.proofs.Common.{◌≡◌, ◌∙◌, ap, refl, List, Option, Some, None, option_map, find}
use Rattle.std.specs.Borrow.{Bor}
use Rattle.std.specs.Str.{bytes_eq}
use Rattle.clap.proofs.WalkLemmas.{find-map}
use Rattle.command_table.specs.Table.{Text}
use Rattle.kexec_words.specs.inner.Given.{given_value, given_values}
use Rattle.kexec_words.specs.declared.given.Given.{Given}

-- what a search finds, as a value
pub found : (gs : List Given) (id : Text) (r : Option (Bor Given))
    → option_map (λ g. g.now) r ≡ find (λ g. bytes_eq g.argument.now.id.now id) gs
    → option_map (λ g. given_value g.now) r ≡ find (λ g. bytes_eq g.id id) (given_values gs)
found gs id r e = values r ∙ ap (option_map given_value) e ∙ find-map (λ g. bytes_eq g.id id) given_value gs
  where
    values : (o : Option (Bor Given)) → option_map (λ g. given_value g.now) o ≡ option_map given_value (option_map (λ g. g.now) o)
    values None = refl
    values (Some g) = refl
