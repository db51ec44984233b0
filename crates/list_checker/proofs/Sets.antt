-- Sets of pages beside the lists that they show.
use Rattle.std.proofs.Common.{◌≡◌, ℕ, ◌++◌, List, [], ◌∷◌, Option, Bool, true, false, refl, sym, ap, ◌∙◌, subst, ⊎_elim}
use Rattle.std.specs.Prelude.{eqb, ◌||◌, ◌&&◌, is_some, map}
use Rattle.std.specs.Ordering.{nat_cmp}
use Rattle.std.specs.FinMap.{nat_cmp-IsAntisymmetric}
use Rattle.std.specs.BTreeSet.{BTreeSet, contains, Updates}
use Rattle.std.proofs.lemmas.Bool.{cases_eq, eq-eqb, ne_eqb}
use Rattle.std.proofs.lemmas.List.{map-append}
use Rattle.kx_pages.specs.Lists.{has}
use Rattle.list_checker.specs.Faults.{is_kept}
use Rattle.list_checker.specs.inner.Checked.{is_among}
use Rattle.kx_laws.proofs.Booleans.{is_eq-false, or_false, or_true}
use Rattle.kx_pages.proofs.Lists.{has-push}

-- a key that was inserted is at the end of the list that the set shows
pub insert_adds : (o n : BTreeSet ℕ) (k : ℕ) (xs : List ℕ) → Updates nat_cmp o n k true → ((q : ℕ) → contains nat_cmp o q ≡ has q xs) → (q : ℕ) → contains nat_cmp n q ≡ has q (xs ++ k ∷ [])
insert_adds o n k xs u h q = ⊎_elim
    (λ e. subst (λ p. contains nat_cmp n p ≡ (has p xs || eqb k p)) e (u.1 ∙ sym (or_true (has k xs)) ∙ ap (λ b. has k xs || b) (sym (eq-eqb k k refl))) ∙ sym (has-push q k xs))
    (λ e. u.2 q (is_eq-false (nat_cmp k q) (λ z. e (nat_cmp-IsAntisymmetric k q z))) ∙ h q ∙ sym (or_false (has q xs)) ∙ ap (λ b. has q xs || b) (sym (ne_eqb k q e)) ∙ sym (has-push q k xs))
    (cases_eq k q)

absorption : (k b e : Bool) → (k && ((k && b) || e)) ≡ (k && (b || e))
absorption true b e = refl
absorption false b e = refl

-- the same of the set of the sources, where there is one
pub inserted_among : (swap : Option ℕ) (o n : Option (BTreeSet ℕ)) (k : ℕ) (xs : List ℕ) → is_some o ≡ is_kept swap → ((q : ℕ) → is_among o q ≡ (is_kept swap && has q xs)) → ((q : ℕ) → is_among n q ≡ (is_some o && (is_among o q || eqb k q)))
    → (q : ℕ) → is_among n q ≡ (is_kept swap && has q (xs ++ k ∷ []))
inserted_among swap o n k xs there h added q =
    added q ∙ ap (λ b. b && (is_among o q || eqb k q)) there ∙ ap (λ b. is_kept swap && (b || eqb k q)) (h q) ∙ absorption (is_kept swap) (has q xs) (eqb k q) ∙ ap (λ b. is_kept swap && b) (sym (has-push q k xs))

pub map-push : {X Y : Type 0} (f : X → Y) (xs : List X) (x : X) → map f (xs ++ x ∷ []) ≡ map f xs ++ f x ∷ []
map-push f xs x = map-append f xs (x ∷ [])
