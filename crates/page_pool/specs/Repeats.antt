-- The first page that stands twice (this project's own).
use Rattle.std.specs.Prelude.{ℕ, ◌++◌, List, [], ◌∷◌, nat_eq, if◌then◌else◌, Option, Some, None}
use Rattle.std.specs.List.{list_any}

-- the first of these numbers that stands earlier too, among those seen before included
abbrev pub first_repeat : List ℕ → List ℕ → Option ℕ
first_repeat seen [] = None
first_repeat seen (x ∷ xs) =
    if list_any (nat_eq x) seen then Some x
    else first_repeat (seen ++ x ∷ []) xs
