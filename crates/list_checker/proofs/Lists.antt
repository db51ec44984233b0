-- Facts on each element of a list, on membership, and on tests in a row.
use Rattle.std.proofs.Common.{◌≡◌, ℕ, ◌++◌, List, [], ◌∷◌, Option, Some, None, refl, sym, ap, arith, Bool, true, false}
use Rattle.std.specs.List.{AllByRecursion}
use Rattle.std.specs.Prelude.{◌≢◌}
use Rattle.std.proofs.lemmas.Option.{none-some}
use Rattle.std.proofs.lemmas.Bool.{eq-eqb, false≢true}
use Rattle.list_checker.specs.declared.fault.Why.{Why}
use Rattle.list_checker.specs.Walk.{InOrder}
use Rattle.list_checker.specs.Faults.{first_of, same_bytes, are_wanted}
use Rattle.kx_pages.proofs.Lists.{Each-append, Each-right}

-- no reason holds exactly where there is no first one
pub none_holds : (rs : List (Bool × Why)) → first_of rs ≡ None → AllByRecursion (λ r. r.0 ≡ false) rs
none_holds [] e = tt
none_holds (r ∷ rs) e = go r.0 refl (none_holds rs)
  where
    go : (b : Bool) → r.0 ≡ b → (first_of rs ≡ None → AllByRecursion (λ r. r.0 ≡ false) rs) → AllByRecursion (λ r. r.0 ≡ false) (r ∷ rs)
    go true f ih = absurd (none-some r.1 (sym (rw f at e)))
    go false f ih = (f, ih (rw f at e))

pub none_first : (rs : List (Bool × Why)) → AllByRecursion (λ r. r.0 ≡ false) rs → first_of rs ≡ None
none_first [] h = refl
none_first (r ∷ rs) h = let ih = none_first rs h.1 in rw h.0 ih

pub same_bytes-equal : (xs ys : List ℕ) → same_bytes xs ys ≡ true → xs ≡ ys
same_bytes-equal [] [] e = refl
same_bytes-equal [] (y ∷ ys) e = absurd (false≢true e)
same_bytes-equal (x ∷ xs) [] e = absurd (false≢true e)
same_bytes-equal (x ∷ xs) (y ∷ ys) e = let ih = same_bytes-equal xs ys in grind (arith, ih)

pub equal-same_bytes : (xs : List ℕ) → same_bytes xs xs ≡ true
equal-same_bytes [] = refl
equal-same_bytes (x ∷ xs) = rw (eq-eqb x x refl) (equal-same_bytes xs)

pub wanted_bytes : (o : Option (List ℕ)) (c : List ℕ) → are_wanted o c ≡ true → o ≡ Some c
wanted_bytes None c e = absurd (false≢true e)
wanted_bytes (Some b) c e = ap Some (same_bytes-equal b c e)

pub InOrder-push : (qs : List (ℕ × ℕ)) (r : ℕ × ℕ) → InOrder qs → AllByRecursion (λ q. (q.0 ≢ r.0) × (q.0 ≢ r.1)) qs → InOrder (qs ++ r ∷ [])
InOrder-push [] r d h = (tt, tt)
InOrder-push (q ∷ qs) r d h = (Each-append (λ s. (q.0 ≢ s.0) × (q.0 ≢ s.1)) qs (r ∷ []) d.0 (h.0, tt), InOrder-push qs r d.1 h.1)

pub InOrder-split : (qs : List (ℕ × ℕ)) (r : ℕ × ℕ) (rs : List (ℕ × ℕ)) → InOrder (qs ++ r ∷ rs) → AllByRecursion (λ q. (q.0 ≢ r.0) × (q.0 ≢ r.1)) qs
InOrder-split [] r rs d = tt
InOrder-split (q ∷ qs) r rs d = ((Each-right (λ s. (q.0 ≢ s.0) × (q.0 ≢ s.1)) qs (r ∷ rs) d.0).0, InOrder-split qs r rs d.1)
