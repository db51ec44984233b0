-- What readers answer: a value, or the first refusal (this project's own).
-- No clause of `kexec` reaches what stands here: it serves laws, and contracts inside the crates.
use Rattle.std.specs.Prelude.{◌≡◌, ◌⊎◌, Result, Ok, Err}

-- The answer of a call, whose value is seen by `view`, is the one that is defined; or the call wants memory, and answers
-- the fault that says so.
abbrev pub Gives : {X Y F : Type 0} → (memory : F) → (X → Y) → Result X F → Result Y F → Type 0
Gives memory view (Ok x) defined = defined ≡ Ok (view x)
Gives memory view (Err e) defined = (defined ≡ Err e) ⊎ (e ≡ memory)
