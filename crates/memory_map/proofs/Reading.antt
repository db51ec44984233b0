-- What a text reads as.
use Rattle.std.proofs.Common.{◌≡◌, ℕ, List, Ok, Err, refl, sym, ◌∙◌, inl, inr}
use Rattle.std.specs.Prelude.{◌==◌, ◌⊎◌, Result}
use Rattle.std.proofs.lemmas.Bool.{eq-eqb, ne_eqb, cond-true, cond-false}
use Rattle.text_lines.specs.Lines.{lines}
use Rattle.memory_map.specs.Maps.{MapValue, nothing, ram_pages}
use Rattle.memory_map.specs.Text.{lines_onto, map_reading}
use Rattle.memory_map.specs.declared.fault.MapFault.{MapFault}
use Rattle.memory_map.specs.declared.fault.MapFault.TheVariants as faults

abbrev pub found_in : List ℕ → Result MapValue MapFault
found_in text = lines_onto 1 nothing (lines text)

pub reads : (text : List ℕ) (m : MapValue) (n : ℕ) → found_in text ≡ Ok m → n ≡ ram_pages m → (n ≡ 0 → ⊥) → map_reading text ≡ Ok m
unfolding map_reading
reads text m n found count some = rw found (cond-false (ram_pages m == 0) (Err faults.NoRam) (Ok m) (ne_eqb (ram_pages m) 0 (λ z. some (count ∙ z))))

pub no_ram : (text : List ℕ) (m : MapValue) (n : ℕ) → found_in text ≡ Ok m → n ≡ ram_pages m → n ≡ 0 → map_reading text ≡ Err faults.NoRam
unfolding map_reading
no_ram text m n found count none = rw found (cond-true (ram_pages m == 0) (Err faults.NoRam) (Ok m) (eq-eqb (ram_pages m) 0 (sym count ∙ none)))

pub fails : (text : List ℕ) (e : MapFault) → (found_in text ≡ Err e) ⊎ (e ≡ faults.Memory) → (map_reading text ≡ Err e) ⊎ (e ≡ faults.Memory)
unfolding map_reading
fails text e (inl found) = inl (rw found refl)
fails text e (inr memory) = inr memory
