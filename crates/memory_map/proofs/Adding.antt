-- Lines read one after another.
use Rattle.std.proofs.Common.{◌≡◌, ℕ, ◌+◌, List, [], ◌∷◌, refl, Ok, Err, inl, inr}
use Rattle.std.specs.Prelude.{◌⊎◌}
use Rattle.memory_map.specs.Maps.{MapValue}
use Rattle.memory_map.specs.Text.{lines_onto, line_onto}
use Rattle.memory_map.specs.declared.fault.MapFault.{MapFault}
use Rattle.memory_map.specs.declared.fault.MapFault.TheVariants as faults

pub onto_ok : (n : ℕ) (found more : MapValue) (line : List ℕ) (ls rest : List (List ℕ)) → ls ≡ line ∷ rest → line_onto n found line ≡ Ok more → lines_onto n found ls ≡ lines_onto (n + 1) more rest
unfolding lines_onto
onto_ok n found more line ls rest split step = rw (split, step) refl

pub onto_fails : (n : ℕ) (found : MapValue) (line : List ℕ) (ls rest : List (List ℕ)) (e : MapFault) → ls ≡ line ∷ rest → (line_onto n found line ≡ Err e) ⊎ (e ≡ faults.Memory) → (lines_onto n found ls ≡ Err e) ⊎ (e ≡ faults.Memory)
unfolding lines_onto
onto_fails n found line ls rest e split (inl step) = inl (rw (split, step) refl)
onto_fails n found line ls rest e split (inr memory) = inr memory

pub onto_end : (n : ℕ) (found : MapValue) (ls : List (List ℕ)) → ls ≡ [] → lines_onto n found ls ≡ Ok found
unfolding lines_onto
onto_end n found ls none = rw none refl
