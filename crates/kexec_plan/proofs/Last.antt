-- The last element of a list.
use Rattle.std.proofs.Common.{◌≡◌, ℕ, ◌<◌, ◌++◌, List, [], ◌∷◌, length, get_or, Some, sym, ap, ◌∙◌, subst, arith, length-append}
use Rattle.std.specs.List.{slice_get, slice_set}
use Rattle.std.proofs.Math.Seq.{get_or-append_seam, set-append_seam}
use Rattle.std.proofs.lemmas.Option.{get_or_from_slice_get, slice_get-get_or}

-- it stands behind the others
pub last_is : {X : Type 0} (xs : List X) (x s : X) (n : ℕ) → n ≡ length xs → slice_get (xs ++ x ∷ []) n ≡ Some s → x ≡ s
last_is xs x s n e h = sym (get_or-append_seam xs x [] x) ∙ get_or_from_slice_get (xs ++ x ∷ []) (length xs) s x (subst (λ k. slice_get (xs ++ x ∷ []) k ≡ Some s) e h)

pub last_before : {X : Type 0} (xs : List X) (x : X) (n : ℕ) → n ≡ length xs → n < length (xs ++ x ∷ [])
last_before xs x n e = let l = length-append xs (x ∷ []) in omega (arith, e, l)

pub last_get : {X : Type 0} (xs : List X) (x : X) (n : ℕ) → n ≡ length xs → slice_get (xs ++ x ∷ []) n ≡ Some x
last_get xs x n e =
    slice_get-get_or (xs ++ x ∷ []) n x (last_before xs x n e) ∙ ap Some (ap (λ k. get_or (xs ++ x ∷ []) k x) e ∙ get_or-append_seam xs x [] x)

pub last_set : {X : Type 0} (xs : List X) (x y : X) (n : ℕ) → n ≡ length xs → slice_set (xs ++ x ∷ []) n y ≡ xs ++ y ∷ []
last_set xs x y n e = ap (λ k. slice_set (xs ++ x ∷ []) k y) e ∙ set-append_seam xs x [] y
