-- A list before its first entry.
use Rattle.std.proofs.Common.{◌≡◌, ℕ, zero, suc, ◌+◌, ◌<◌, ◌≤◌, List, [], ◌∷◌, ◌++◌, length, Some, None, refl, sym, ap, ◌∙◌, subst, inl, inr, arith, take, Bool, true, false, cond, append-nil}
use Rattle.std.specs.Prelude.{◌≢◌, ◌⊎◌, eqb, slice_index, is_some}
use Rattle.std.proofs.lemmas.Option.{none-some}
use Rattle.std.proofs.lemmas.Bool.Decides.{eqb_tells}
use Rattle.page_memory.specs.Contents.{Contents, at}
use Rattle.page_memory.specs.inner.Contents.{IsHeld}
use Rattle.page_pool.specs.Pages.{Pages, is_filed, usable_of}
use Rattle.std.specs.Prelude.{◌^◌, Result, Ok, Err, OnOk, All}
use Rattle.std.specs.List.Sorted.{IsPermutation}
use Rattle.std.proofs.lemmas.List.{get_or-take, length-take-le}
use Rattle.std.proofs.lemmas.List.Elements.{All-get_or}
use Rattle.std.proofs.lemmas.List.Sorted.{All-permutation, IsPermutation-sym}
use Rattle.kimage_list.specs.inner.Beginning.{AreHeld}
use Rattle.kimage_list.specs.inner.Drafts.{initial, with_first, Draft, Renders}
use Rattle.kimage_list.specs.Load.{Loading}
use Rattle.kimage_list.specs.inner.Tables.{Slots, slot, source_in, place_in, fresh_slot}
use Rattle.kx_pages.specs.Lists.{Distinct, count}
use Rattle.kx_pages.specs.Bytes.{Mem, Wants}
use Rattle.kx_pages.proofs.Counting.{count-from_Distinct, count-append}

-- one of the first n has its place
pub at_first : (n : ℕ) (xs : List ℕ) (x : ℕ) → 1 ≤ count x (take n xs) → (k : ℕ) × (k < n) × (slice_index xs k ≡ x)
at_first zero xs x c = absurd (omega (arith, c))
at_first (suc n) [] x c = absurd (omega (arith, c))
at_first (suc n) (y ∷ xs) x c = go (eqb_tells y x) (at_first n xs x)
  where
    go : ((eqb y x ≡ true) × (y ≡ x)) ⊎ ((eqb y x ≡ false) × (y ≢ x)) → (1 ≤ count x (take n xs) → (k : ℕ) × (k < n) × (slice_index xs k ≡ x)) → (k : ℕ) × (k < suc n) × (slice_index (y ∷ xs) k ≡ x)
    go (inl u) ih = (0, omega arith, u.1)
    go (inr u) ih =
        let m : count x (y ∷ take n xs) ≡ 0 + count x (take n xs) = ap (λ b. cond b 1 0 + count x (take n xs)) u.0 in
        let k = ih (omega (arith, m, c)) in
        (suc k.0, omega (arith, k.1), k.2)

pub opening_reaches : (M : Mem) (D : ℕ → Bool) (W : Wants) (need : ℕ) (memory : Contents) (pool : Pages) (table : Slots)
    → need ≤ length (usable_of pool) → ((q : ℕ) → at memory q ≡ M q) → Distinct (pool.drawn ++ usable_of pool) → ((p : ℕ) → is_filed pool p ≡ false) → ((p : ℕ) → slot table p ≡ fresh_slot (D p)) → AreHeld need (usable_of pool) memory
    → Renders (initial M D W need (usable_of pool)) [] memory pool table 0 0
opening_reaches M D W need memory pool table enough same once unfiled fresh held = record {
  tracks = record {
    left = refl;
    filed = unfiled;
    wanted = λ p. is_fresh (D p) ∙ sym (ap is_some (fresh p));
    loaded = λ p. ap source_in (fresh p) ∙ unsourced (D p);
    once = λ p. omega (arith, single p);
  };
  order = refl;
  spare = refl;
  tight = (omega arith, omega arith);
  homes = tt;
  once = λ x. omega (arith, single x);
  within = λ x. omega arith;
  held = λ x c. let k = at_first need (usable_of pool) x c in subst (IsHeld memory) k.2 (held.held k.0 k.1);
  below = λ x c. let k = at_first need (usable_of pool) x c in let h = held.below k.0 k.1 in omega (arith, h, k.2);
  list = tt;
  loaded = tt;
  others = λ x z. same x;
  places = λ x a e. absurd (unplaced (D x) a (sym (ap place_in (fresh x)) ∙ e));
  place = refl;
  many = refl;
}
  where
    single : (x : ℕ) → count x (usable_of pool) ≤ 1
    single x = omega (arith, count-from_Distinct x (pool.drawn ++ usable_of pool) once, count-append x pool.drawn (usable_of pool))

    is_fresh : (b : Bool) → b ≡ is_some (fresh_slot b)
    is_fresh true = refl
    is_fresh false = refl

    unsourced : (b : Bool) → source_in (fresh_slot b) ≡ None
    unsourced true = refl
    unsourced false = refl

    unplaced : (b : Bool) (a : ℕ) → place_in (fresh_slot b) ≡ Some a → ⊥
    unplaced true a e = none-some a e
    unplaced false a e = none-some a e

-- the page in hand is one of those before the link pages
pub first_given : (d : Draft) (t : ℕ × Loading) (memory : Contents) (pool : Pages) (table : Slots) (next entries : ℕ) → Renders (record d { loading = t.1 }) (t.0 ∷ []) memory pool table next entries → d.links ≡ []
    → ((y : ℕ) → at memory y ≡ d.before y) → Renders (with_first d t) [] memory pool table next entries
first_given d t memory pool table next entries w none same = record {
  tracks = record { left = w.tracks.left; filed = w.tracks.filed; wanted = w.tracks.wanted; loaded = w.tracks.loaded; once = w.tracks.once };
  order = w.order;
  spare = ap (λ ys. ys ++ t.0 ∷ []) (w.spare ∙ ap (λ ls. d.first ++ ls) none ∙ append-nil d.first) ∙ sym (ap (λ ls. (d.first ++ t.0 ∷ []) ++ ls) none ∙ append-nil (d.first ++ t.0 ∷ []));
  tight = w.tight;
  homes = w.homes;
  once = λ x. omega (arith, w.once x, count-append x t.1.spare (t.0 ∷ []));
  within = λ x. omega (arith, w.within x, count-append x t.1.spare (t.0 ∷ []));
  held = w.held;
  below = w.below;
  list = w.list;
  loaded = w.loaded;
  others = λ y z. same y;
  places = w.places;
  place = w.place;
  many = w.many;
}

-- the first n are held, where pages are held that are these in some order
pub held_in_order : {T E : Type 0} (r : Result T E) (n : ℕ) (left pages : List ℕ) (m : Contents) → n ≤ length left → IsPermutation (take n left) pages → All (λ p. p < 2 ^ 34) pages → OnOk r (All (λ p. IsHeld m p) pages) → OnOk r (AreHeld n left m)
held_in_order (Err e) n left pages m l order below held = held
held_in_order (Ok x) n left pages m l order below held = record {
  held = each (λ p. IsHeld m p) held;
  below = each (λ p. p < 2 ^ 34) below;
}
  where
    each : (P : ℕ → Type 0) → All P pages → (k : ℕ) → k < n → P (slice_index left k)
    each P all k inside =
        subst P (get_or-take n left k 0 inside)
        (All-get_or P (take n left) k 0 (subst (λ c. k < c) (sym (length-take-le n left l)) inside)
        (All-permutation P pages (take n left) (IsPermutation-sym (take n left) pages order) all))
