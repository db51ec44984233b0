-- Rows of shortcuts, and what is noted in them.
use Rattle.std.proofs.Common.{◌≡◌, ℕ, zero, suc, List, [], ◌∷◌, length, get_or, Bool, true, false, cond, Option, Some, None, refl, sym, ap, ◌∙◌, ◌⊎◌, inl, inr}
use Rattle.std.proofs.lemmas.List.{length-set}
use Rattle.std.specs.Cmp.{nat_cmp_total, eq_by_cmp_equiv}
use Rattle.std.specs.Prelude.{replicate, set}
use Rattle.std.specs.Ordering.{nat_cmp}
use Rattle.std.specs.BTreeMap.{BTreeMap, is_at}
use Rattle.std.specs.BTreeMap as tree
use Rattle.std.specs.FinMap.{nat_cmp-IsAntisymmetric}
use Rattle.kx_laws.proofs.Options.{some_same}
use Rattle.page_memory.specs.inner.Frames.{Differs}
use Rattle.page_memory.specs.inner.Shortcuts.{AreInPlace, SayWhat, shortcut_place}
use Rattle.kx_laws.proofs.Booleans.{Equal-from_is_eq}

-- a row of shortcuts
abbrev Row : Type 0
Row = List (Option (ℕ × ℕ))

first_same : (p i q j : ℕ) → ◌≡◌ {A = Option (ℕ × ℕ)} (Some (p, i)) (Some (q, j)) → q ≡ p
first_same p i q j h = sym (ap (λ (e : ℕ × ℕ). e.0) (some_same (p, i) (q, j) h))

second_same : (p i q j : ℕ) → ◌≡◌ {A = Option (ℕ × ℕ)} (Some (p, i)) (Some (q, j)) → i ≡ j
second_same p i q j h = ap (λ (e : ℕ × ℕ). e.1) (some_same (p, i) (q, j) h)

-- what stands in a row after a shortcut was noted at k is that one, or stood elsewhere in it before
from_set : (row : Row) (k j : ℕ) (v : Option (ℕ × ℕ)) (e : ℕ × ℕ) → get_or (set row k v) j None ≡ Some e → ((j ≡ k) × (v ≡ Some e)) ⊎ ((j ≡ k → ⊥) × (get_or row j None ≡ Some e))
from_set [] k j v e h = cc
from_set (x ∷ row) zero zero v e h = inl (refl, h)
from_set (x ∷ row) zero (suc j) v e h = inr ((λ same. cc), h)
from_set (x ∷ row) (suc k) zero v e h = inr ((λ same. cc), h)
from_set (x ∷ row) (suc k) (suc j) v e h = elim (from_set row k j v e h) [
  | inl here ↦ inl (ap suc here.0, here.1)
  | inr before ↦ inr ((λ same. before.0 (cc)), before.1)
]

-- of what is related to no shortcut by a relation that no shortcut has with one
pub none_alone : (R : Option (ℕ × ℕ) → Type 0) → ((e : ℕ × ℕ) → R (Some e) → ⊥) → (o : Option (ℕ × ℕ)) → R o → o ≡ None
none_alone R f None h = refl
none_alone R f (Some e) h = absurd (f e h)

nothing_in : (n k : ℕ) (e : ℕ × ℕ) → get_or (replicate {A = Option (ℕ × ℕ)} n None) k None ≡ Some e → ⊥
nothing_in zero k e h = cc
nothing_in (suc n) zero e h = cc
nothing_in (suc n) (suc k) e h = nothing_in n k e h

-- a row of no shortcuts
pub none_in_place : (row : Row) (n : ℕ) → row ≡ replicate n None → AreInPlace row
none_in_place row n is = λ k p i h. absurd (nothing_in n k (p, i) (ap (λ xs. get_or xs k None) (sym is) ∙ h))

pub none_says : (m : BTreeMap ℕ ℕ) (row : Row) (n : ℕ) → row ≡ replicate n None → SayWhat m row
none_says m row n is = λ k p i h. absurd (nothing_in n k (p, i) (ap (λ xs. get_or xs k None) (sym is) ∙ h))

at_itself : (p : ℕ) → is_at (nat_cmp p) p ≡ true
at_itself p = (eq_by_cmp_equiv nat_cmp_total).refl p

same_key : (p q : ℕ) → is_at (nat_cmp p) q ≡ true → q ≡ p
same_key p q t = sym (nat_cmp-IsAntisymmetric p q (Equal-from_is_eq (nat_cmp p q) t))

other_or_same : (p q : ℕ) (b : Bool) → is_at (nat_cmp p) q ≡ b → (q ≡ p → ⊥) → b ≡ false
other_or_same p q true t apart = absurd (apart (same_key p q t))
other_or_same p q false t apart = refl

differs_here : (m n : BTreeMap ℕ ℕ) (p i : ℕ) → Differs m n p i → tree.get nat_cmp n p ≡ Some i
differs_here m n p i h = h p ∙ ap (λ b. cond b (Some i) (tree.get nat_cmp m p)) (at_itself p)

differs_elsewhere : (m n : BTreeMap ℕ ℕ) (p i q : ℕ) → Differs m n p i → (q ≡ p → ⊥) → tree.get nat_cmp n q ≡ tree.get nat_cmp m q
differs_elsewhere m n p i q h apart = h q ∙ ap (λ b. cond b (Some i) (tree.get nat_cmp m q)) (other_or_same p q (is_at (nat_cmp p) q) refl apart)

-- a shortcut of page p is noted
pub noted_in_place : (row : Row) (p i : ℕ) → AreInPlace row → AreInPlace (set row (shortcut_place (length row) p) (Some (p, i)))
noted_in_place row p i is =
    let k = shortcut_place (length row) p in
    let long : length (set row k (Some (p, i))) ≡ length row = length-set row k (Some (p, i)) in
    λ j q place at_j. elim (from_set row k j (Some (p, i)) (q, place) at_j) [
      | inl here ↦ here.0 ∙ ap (shortcut_place (length row)) (sym (first_same p i q place here.1)) ∙ ap (λ l. shortcut_place l q) (sym long)
      | inr before ↦ is j q place before.1 ∙ ap (λ l. shortcut_place l q) (sym long)
    ]

-- it says what the map says, in whatever way the map has come to say it
pub noted_says : (m n : BTreeMap ℕ ℕ) (row : Row) (p i : ℕ) → AreInPlace row → SayWhat m row → Differs m n p i → SayWhat n (set row (shortcut_place (length row) p) (Some (p, i)))
noted_says m n row p i is say h =
    let k = shortcut_place (length row) p in
    λ j q place at_j. elim (from_set row k j (Some (p, i)) (q, place) at_j) [
      | inl here ↦ ap (tree.get nat_cmp n) (first_same p i q place here.1) ∙ differs_here m n p i h ∙ ap Some (second_same p i q place here.1)
      | inr before ↦ differs_elsewhere m n p i q h (λ same. before.0 (is j q place before.1 ∙ ap (shortcut_place (length row)) same)) ∙ say j q place before.1
    ]

differs_nowhere : (p i q : ℕ) (b : Bool) (m : BTreeMap ℕ ℕ) → is_at (nat_cmp p) q ≡ b → tree.get nat_cmp m p ≡ Some i → tree.get nat_cmp m q ≡ cond b (Some i) (tree.get nat_cmp m q)
differs_nowhere p i q true m t h = ap (tree.get nat_cmp m) (same_key p q t) ∙ h
differs_nowhere p i q false m t h = refl

-- a shortcut of what the map says already
pub noted_again : (m : BTreeMap ℕ ℕ) (row : Row) (p i : ℕ) → AreInPlace row → SayWhat m row → tree.get nat_cmp m p ≡ Some i → SayWhat m (set row (shortcut_place (length row) p) (Some (p, i)))
noted_again m row p i is say h = noted_says m m row p i is say (λ q. differs_nowhere p i q (is_at (nat_cmp p) q) m refl h)
