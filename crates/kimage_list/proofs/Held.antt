-- Which pages are held after a call.
use Rattle.std.proofs.Common.{◌≡◌, ℕ, List, [], ◌∷◌, refl, sym, subst, inl, inr, take}
use Rattle.std.specs.Prelude.{◌⊎◌, ◌↔◌, All, IsSome}
use Rattle.std.specs.FinMap.{get, insert}
use Rattle.std.specs.List.Sorted.{IsPermutation}
use Rattle.std.proofs.lemmas.List.Elements.{All-nil, All-cons, All-head, All-tail, All-weaker}
use Rattle.std.proofs.lemmas.List.Sorted.{All-permutation}
use Rattle.page_memory.specs.Contents.{Contents}
use Rattle.page_memory.specs.inner.Contents.{IsHeld}
use Rattle.page_memory.proofs.Laws.{held-insert_only}
use Rattle.kx_pages.specs.Lists.{Has}
use Rattle.kx_pages.proofs.Counting.{count-from_Has}
use Rattle.kimage_list.specs.inner.Beginning.{AreHeld}
use Rattle.kimage_list.specs.inner.Held.{HoldSame}
use Rattle.kimage_list.proofs.Opening.{at_first}

-- what was set is a page that was held
pub held_before : (m n : Contents) (p : ℕ) (bytes : List ℕ) → n.pages ≡ insert m.pages p bytes → IsHeld m p → (q : ℕ) → IsHeld n q → IsHeld m q
held_before m n p bytes is here q h = go (held-insert_only m.pages p bytes q (subst (λ k. IsSome (get k q)) is h))
  where
    go : IsHeld m q ⊎ (q ≡ p) → IsHeld m q
    go (inl old) = old
    go (inr same) = subst (IsHeld m) (sym same) here

all_stand : (xs : List ℕ) → All (λ x. Has x xs) xs
all_stand [] = All-nil (λ x. Has x [])
all_stand (y ∷ xs) = All-cons (λ x. Has x (y ∷ xs)) y xs (inl refl) (All-weaker (λ x. Has x xs) (λ x. Has x (y ∷ xs)) (λ x h. inr h) xs (all_stand xs))

all_at : (P : ℕ → Type 0) (xs : List ℕ) (p : ℕ) → All P xs → Has p xs → P p
all_at P [] p all h = absurd h
all_at P (x ∷ xs) p all (inl same) = subst P same (All-head P x xs all)
all_at P (x ∷ xs) p all (inr h) = all_at P xs p (All-tail P x xs all) h

-- a list in another order has the same numbers
pub has_in_order : (xs ys : List ℕ) (p : ℕ) → IsPermutation xs ys → Has p ys → Has p xs
has_in_order xs ys p order h = all_at (λ x. Has x xs) ys p (All-permutation (λ x. Has x xs) xs ys order (all_stand xs)) h

-- after a load is begun
pub held_for : (old mid new : Contents) (n : ℕ) (left : List ℕ) → AreHeld n left mid → ((q : ℕ) → IsHeld old q → IsHeld mid q) → ((q : ℕ) → IsHeld mid q → IsHeld old q ⊎ Has q (take n left)) → HoldSame new mid
    → (q : ℕ) → IsHeld new q ↔ (IsHeld old q ⊎ Has q (take n left))
held_for old mid new n left held stay only same q = (λ h. only q ((same q).0 h), back)
  where
    back : IsHeld old q ⊎ Has q (take n left) → IsHeld new q
    back (inl h) = (same q).1 (stay q h)
    back (inr h) = let k = at_first n left q (count-from_Has q (take n left) h) in (same q).1 (subst (IsHeld mid) k.2 (held.held k.0 k.1))
