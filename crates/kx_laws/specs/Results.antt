-- What readers answer: a value, or the first refusal (this project's own).
use Rattle.std.specs.Prelude.{ℕ, Option, Some, None, Result, Ok, Err}

-- one step after another: the first refusal is the answer of all
infixl 10 ◌>>=◌
abbrev pub ◌>>=◌ : {A B F : Type 0} → Result A F → (A → Result B F) → Result B F
(Ok x) >>= f = f x
(Err e) >>= f = Err e

-- what a test answers: nothing, or its refusal
abbrev pub unless : {F : Type 0} → Option F → Result (Unit {0}) F
unless None = Ok tt
unless (Some fault) = Err fault

-- refused at this place, if there is one
abbrev pub unless_at : {F : Type 0} → (ℕ → F) → Option ℕ → Result (Unit {0}) F
unless_at fault None = Ok tt
unless_at fault (Some i) = Err (fault i)
