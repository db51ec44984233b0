-- What is found among words, one by one.
use Rattle.std.proofs.Common.{◌≡◌, ℕ, ◌+◌, ◌<◌, ◌≤◌, ◌∙◌, sym, refl, Bool, cond, true, false, List, [], ◌∷◌, Option, Some, None, ap, length, drop, get_or, map}
use Rattle.std.proofs.lemmas.List.{drop_all, drop_more}
use Rattle.std.specs.Borrow.{Bor}
use Rattle.std.specs.List.{find}
use Rattle.std.specs.Option.{option_map}
use Rattle.std.specs.Prelude.{◌||◌, codes, if◌then◌else◌}
use Rattle.std.specs.Str.{bytes_eq}
use Rattle.kexec_usage.specs.inner.Words.{is_help, has_help}

find_map : {A B : Type 0} (value : A → B) (test : B → Bool) (xs : List A) → option_map value (find (λ x. test (value x)) xs) ≡ find test (map value xs)
find_map value test [] = refl
find_map value test (x ∷ xs) = go (test (value x)) (find_map value test xs)
  where
    go : (b : Bool) → option_map value (find (λ y. test (value y)) xs) ≡ find test (map value xs)
        → option_map value (cond b (Some x) (find (λ y. test (value y)) xs)) ≡ cond b (Some (value x)) (find test (map value xs))
    go true h = refl
    go false h = h

-- what a search finds, as a value
pub found : {A B : Type 0} (value : A → B) (test : B → Bool) (xs : List A) (r : Option (Bor A))
    → option_map (λ x. x.now) r ≡ find (λ x. test (value x)) xs → option_map (λ x. value x.now) r ≡ find test (map value xs)
found {A = A} value test xs r e = values r ∙ ap (option_map value) e ∙ find_map value test xs
  where
    values : (o : Option (Bor A)) → option_map (λ x. value x.now) o ≡ option_map value (option_map (λ x. x.now) o)
    values None = refl
    values (Some x) = refl

-- what the words that are left tell: by the text of the first, whether it is `--`, and whether it asks for help
help_step : {X : Type 0} (f : X → List ℕ) (ws : List X) (i : ℕ) (d : X) (word : List ℕ) (ends asks : Bool) → i < length ws → word ≡ f (get_or ws i d) → ends ≡ bytes_eq word (codes "--") → asks ≡ is_help word → has_help (map f (drop i ws)) ≡ (if ends then false else (asks || has_help (map f (drop (i + 1) ws))))
help_step f ws i d word ends asks h w e a =
    let rest = has_help (map f (drop (i + 1) ws)) in
    ap (λ xs. has_help (map f xs)) (drop_more ws i d h)
    ∙ ap (λ x. if bytes_eq x (codes "--") then false else (is_help x || rest)) (sym w)
    ∙ ap (λ x. if x then false else (is_help word || rest)) (sym e)
    ∙ ap (λ x. if ends then false else (x || rest)) (sym a)

pub help_ends : {X : Type 0} (f : X → List ℕ) (ws : List X) (i : ℕ) (d : X) (word : List ℕ) (ends : Bool) → i < length ws → word ≡ f (get_or ws i d) → ends ≡ bytes_eq word (codes "--") → ends ≡ true → has_help (map f (drop i ws)) ≡ has_help (map f ws) → false ≡ has_help (map f ws)
help_ends f ws i d word ends h w e is all = sym (help_step f ws i d word true (is_help word) h w (sym is ∙ e) refl) ∙ all

pub help_asked : {X : Type 0} (f : X → List ℕ) (ws : List X) (i : ℕ) (d : X) (word : List ℕ) (ends asks : Bool) → i < length ws → word ≡ f (get_or ws i d) → ends ≡ bytes_eq word (codes "--") → asks ≡ is_help word → ends ≡ false → asks ≡ true → has_help (map f (drop i ws)) ≡ has_help (map f ws) → true ≡ has_help (map f ws)
help_asked f ws i d word ends asks h w e a on is all = sym (help_step f ws i d word false true h w (sym on ∙ e) (sym is ∙ a)) ∙ all

pub help_on : {X : Type 0} (f : X → List ℕ) (ws : List X) (i : ℕ) (d : X) (word : List ℕ) (ends asks : Bool) → i < length ws → word ≡ f (get_or ws i d) → ends ≡ bytes_eq word (codes "--") → asks ≡ is_help word → ends ≡ false → asks ≡ false → has_help (map f (drop i ws)) ≡ has_help (map f ws) → has_help (map f (drop (i + 1) ws)) ≡ has_help (map f ws)
help_on f ws i d word ends asks h w e a on other all = sym (help_step f ws i d word false false h w (sym on ∙ e) (sym other ∙ a)) ∙ all

pub help_none : {X : Type 0} (f : X → List ℕ) (ws : List X) (i : ℕ) → length ws ≤ i → has_help (map f (drop i ws)) ≡ has_help (map f ws) → false ≡ has_help (map f ws)
help_none f ws i h all = sym (ap (λ xs. has_help (map f xs)) (drop_all i ws h)) ∙ all
