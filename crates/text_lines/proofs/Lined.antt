-- Lines taken one after another: laws for the loops that read them.
use Rattle.std.proofs.Common.{◌≡◌, ◌⊎◌, ℕ, ◌+◌, List, [], ◌∷◌, Result, Ok, Err, refl, inl, inr}
use Rattle.text_lines.specs.Lines.{lines_onto}

pub onto_ok : {A E : Type 0} (add : ℕ → A → List ℕ → Result A E) (n : ℕ) (value more : A) (line : List ℕ) (ls rest : List (List ℕ)) → ls ≡ line ∷ rest → add n value line ≡ Ok more → lines_onto add n value ls ≡ lines_onto add (n + 1) more rest
unfolding lines_onto
onto_ok add n value more line ls rest split step = rw (split, step) refl

pub onto_fails : {A E : Type 0} (memory : E) (add : ℕ → A → List ℕ → Result A E) (n : ℕ) (value : A) (line : List ℕ) (ls rest : List (List ℕ)) (e : E) → ls ≡ line ∷ rest → (add n value line ≡ Err e) ⊎ (e ≡ memory) → (lines_onto add n value ls ≡ Err e) ⊎ (e ≡ memory)
unfolding lines_onto
onto_fails memory add n value line ls rest e split (inl step) = inl (rw (split, step) refl)
onto_fails memory add n value line ls rest e split (inr out) = inr out

pub onto_end : {A E : Type 0} (add : ℕ → A → List ℕ → Result A E) (n : ℕ) (value : A) (ls : List (List ℕ)) → ls ≡ [] → lines_onto add n value ls ≡ Ok value
unfolding lines_onto
onto_end add n value ls none = rw none refl
