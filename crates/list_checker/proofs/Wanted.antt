-- The checker's tests, as booleans, and the pages of segments.
use Rattle.std.proofs.Common.{◌≡◌, ℕ, ◌^◌, ◌<◌, ◌≤◌, List, [], ◌∷◌, Option, Some, None, Bool, true, false, refl, sym, ap, ◌∙◌, subst, ⊎_elim, arith}
use Rattle.std.specs.Prelude.{IsTrue, ◌↔◌, ◌⊎◌, cond, not, map}
use Rattle.std.specs.Option.{option_map, is_some, IsSome}
use Rattle.std.specs.List.{find}
use Rattle.std.proofs.lemmas.Bool.{true≢false, false≢true}
use Rattle.kx_pages.specs.Bytes.{page_of}
use Rattle.segments.specs.Values.{SegmentValue, want, pages}
use Rattle.segments.proofs.Laws.{AreSegments-from_IsBare, pages_below, Has-from_want, want-from_Has}
use Rattle.segments.specs.inner.Rules.{IsBare}
use Rattle.list_checker.specs.declared.fault.Why.{Why}
use Rattle.list_checker.specs.declared.fault.Why.TheVariants.{Missing}
use Rattle.list_checker.specs.Faults.{same_bytes, are_wanted, is_wanted, first_of}
use Rattle.list_checker.specs.inner.Laws.{ListsWanted}
use Rattle.list_checker.proofs.Lists.{same_bytes-equal, equal-same_bytes}

cases_le : (a b : ℕ) → (a ≤ b) ⊎ (b < a)
cases_le a b = grind arith

same_test : (b : Bool) (x y : List ℕ) → (b ≡ true → y ≡ x) → (y ≡ x → b ≡ true) → b ≡ same_bytes x y
same_test true x y f g = sym (subst (λ z. same_bytes z y ≡ true) (f refl) (equal-same_bytes y))
same_test false x y f g = go (same_bytes x y) refl
  where
    go : (t : Bool) → same_bytes x y ≡ t → false ≡ same_bytes x y
    go false e = sym e
    go true e = absurd (true≢false (sym (g (sym (same_bytes-equal x y e)))))

pub wanted_test : (b : Bool) (o : Option (List ℕ)) (bytes c : List ℕ) → Some (page_of bytes) ≡ o → IsTrue b ↔ (c ≡ page_of bytes) → b ≡ are_wanted o c
wanted_test b o bytes c e t = same_test b (page_of bytes) c t.0 t.1 ∙ ap (λ o. are_wanted o c) e

missing_step : (x : ℕ) (b c : Bool) (o : Option ℕ) (w : Option Why) → b ≡ c → option_map Missing o ≡ w → option_map Missing (cond b (Some x) o) ≡ cond c (Some (Missing x)) w
missing_step x true c o w e ih = ap (λ b. cond b (Some (Missing x)) w) e
missing_step x false c o w e ih = ih ∙ ap (λ b. cond b (Some (Missing x)) w) e

-- the first page that is no destination, and the first reason of a done word
pub missing_first : (t u : ℕ → Bool) → ((p : ℕ) → t p ≡ u p) → (all : List ℕ) → option_map Missing (find (λ p. not (t p)) all) ≡ first_of (map {B = Bool × Why} (λ d. (not (u d), Missing d)) all)
missing_first t u h [] = refl
missing_first t u h (x ∷ xs) = missing_step x (not (t x)) (not (u x)) (find (λ p. not (t p)) xs) (first_of (map {B = Bool × Why} (λ d. (not (u d), Missing d)) xs)) (ap not (h x)) (missing_first t u h xs)

pub past_limit : (t : ℕ) (o : Option ℕ) → o ≡ None → (t < 2 ^ 34 → IsSome o) → 2 ^ 34 ≤ t
past_limit t o e h = ⊎_elim (λ l. l) (λ l. absurd (false≢true (ap is_some (sym e) ∙ h l))) (cases_le (2 ^ 34) t)

-- no page from 2 ^ 34 on is wanted
pub wanted_below : (S : List SegmentValue) → IsBare S → (t : ℕ) → is_wanted (want S t) ≡ true → t < 2 ^ 34
wanted_below S k t w = go (want S t) refl w
  where
    go : (o : Option (List ℕ)) → want S t ≡ o → is_wanted o ≡ true → t < 2 ^ 34
    go None e u = absurd (false≢true u)
    go (Some b) e u = let a = AreSegments-from_IsBare S k in pages_below S t a.placed (Has-from_want S t b a.placed e)

pub none_past : (S : List SegmentValue) → IsBare S → (t : ℕ) → 2 ^ 34 ≤ t → want S t ≡ None
none_past S k t l = go (want S t) refl
  where
    go : (o : Option (List ℕ)) → want S t ≡ o → want S t ≡ None
    go None e = e
    go (Some b) e = let f = wanted_below S k t (ap is_wanted e) in absurd (omega (arith, l, f))

-- the pages of segments are the wanted pages
pub parts_listed : (S : List SegmentValue) → IsBare S → ListsWanted (want S) (pages S)
parts_listed S k = let a = AreSegments-from_IsBare S k in record { each = λ p h. want-from_Has S p a.placed h; whole = λ p b e. Has-from_want S p b a.placed e }
