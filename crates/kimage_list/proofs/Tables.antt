-- A table as the rows of its runs: at most the row that halving finds has a page.
use Rattle.std.proofs.Common.{◌≡◌, ℕ, zero, suc, ◌+◌, ◌-◌, ◌<◌, ◌≤◌, List, [], ◌∷◌, ◌++◌, length, get_or, set, take, map, Bool, true, false, Option, Some, None, Bor, ltb, refl, sym, ap, ◌∙◌, subst, inl, inr, arith, length-set}
use Rattle.std.specs.Prelude.{◌≢◌, ◌||◌, ◌&&◌, nat_le, nat_lt, IsSome, IfSome, is_some, replicate}
use Rattle.std.specs.Option.{option_copied}
use Rattle.std.specs.List.{slice_get}
use Rattle.std.specs.List.Sorted.{IsNonDecreasingBy, IsPartitionPoint}
use Rattle.std.proofs.lemmas.Bool.{false≢true, cases_lt, cond-true, cond-false, ltb-true, ltb-false}
use Rattle.std.proofs.lemmas.Bool.Decides.{nat_tests}
use Rattle.std.proofs.lemmas.List.{take_all, take_more, map-append, length-replicate, get_or-replicate, get_or-set_same, get_or-set_other}
use Rattle.std.proofs.lemmas.Option.{slice_get-get_or, slice_get_past, slice_get_within, get_or_from_slice_get}
use Rattle.kx_pages.specs.Spans.{Run, in_span, in_spans, AreApart, end}
use Rattle.kimage_list.specs.inner.Tables.{SlotRow, Slots, slot, row_end, in_row, AreRising, fresh_row, fresh_slot}
use Rattle.kimage_list.specs.declared.table.PageSource.{PageSource}

before_row : (r : SlotRow) (p : ℕ) → p < r.first → in_row r p ≡ false
before_row r p h = grind (arith, nat_tests)

behind_row : (r : SlotRow) (p : ℕ) → row_end r ≤ p → in_row r p ≡ false
behind_row r p h = grind (arith, nat_tests)

within_row : (r : SlotRow) (p : ℕ) → r.first ≤ p → p < row_end r → in_row r p ≡ true
within_row r p h k = grind (arith, nat_tests)

from_first : (r : SlotRow) (p : ℕ) → in_row r p ≡ true → r.first ≤ p
from_first r p h = grind (arith, nat_tests)

to_end : (r : SlotRow) (p : ℕ) → in_row r p ≡ true → p < row_end r
to_end r p h = grind (arith, nat_tests)

slot-none : (p : ℕ) → slot [] p ≡ None
unfolding slot
slot-none p = refl

slot-here : (r : SlotRow) (rs : Slots) (p : ℕ) → in_row r p ≡ true → slot (r ∷ rs) p ≡ slice_get r.slots (p - r.first)
unfolding slot
slot-here r rs p h = cond-true _ _ _ h

slot-later : (r : SlotRow) (rs : Slots) (p : ℕ) → in_row r p ≡ false → slot (r ∷ rs) p ≡ slot rs p
unfolding slot
slot-later r rs p h = cond-false _ _ _ h

-- of one row, a page before it, and one from its first page on
pub one_before : (r : SlotRow) (p : ℕ) → p < r.first → slot (r ∷ []) p ≡ None
one_before r p h = slot-later r [] p (before_row r p h) ∙ slot-none p

pub one_from : (r : SlotRow) (p : ℕ) → r.first ≤ p → slot (r ∷ []) p ≡ slice_get r.slots (p - r.first)
one_from r p h =
    elim (cases_lt p (row_end r)) [
      | inl k ↦ slot-here r [] p (within_row r p h k)
      | inr k ↦ slot-later r [] p (behind_row r p k) ∙ slot-none p ∙ sym (slice_get_past r.slots (p - r.first) (omega arith))
    ]

-- what a slice's `get` gives, copied
pub copied_from : {X : Type 0} (xs : List X) (i : ℕ) (r : Option (Bor X)) → is_some r ≡ ltb i (length xs) → IfSome r (λ x. x.now ≡ get_or xs i x.now) → option_copied r ≡ slice_get xs i
copied_from xs i None has is = sym (slice_get_past xs i (ltb-false _ _ (sym has)))
copied_from xs i (Some x) has is = sym (slice_get-get_or xs i x.now (ltb-true _ _ (sym has)) ∙ ap Some (sym is))

-- rows that all start behind p do not have it
low_slot : (b : ℕ) (rs : Slots) (p : ℕ) → AreRising b rs → p < b → slot rs p ≡ None
low_slot b [] p a h = slot-none p
low_slot b (r ∷ rs) p a h = slot-later r rs p (before_row r p (omega arith)) ∙ low_slot (row_end r) rs p a.1 (omega arith)

-- what the row has of p, where there is one
abbrev pub slot_in : Option SlotRow → ℕ → Option (Option PageSource)
slot_in None p = None
slot_in (Some r) p = slot (r ∷ []) p

-- no row before number i has p, and row number i, where there is one, ends behind it
pub record Found (rs : Slots) (p i : ℕ) : Type 0 where
  pub low : (k : ℕ) (d : SlotRow) → k < i → row_end (get_or rs k d) ≤ p
  pub high : (d : SlotRow) → i < length rs → p < row_end (get_or rs i d)

pub slot_at : (b : ℕ) (rs : Slots) (p i : ℕ) → AreRising b rs → Found rs p i → slot rs p ≡ slot_in (slice_get rs i) p
slot_at b [] p i a f = slot-none p
slot_at b (r ∷ rs) p zero a f = go (in_row r p) refl
  where
    go : (t : Bool) → in_row r p ≡ t → slot (r ∷ rs) p ≡ slot (r ∷ []) p
    go true e = slot-here r rs p e ∙ sym (slot-here r [] p e)
    go false e =
        let below : p < row_end r = f.high r (omega arith) in
        slot-later r rs p e ∙ low_slot (row_end r) rs p a.1 below ∙ sym (slot-later r [] p e ∙ slot-none p)
slot_at b (r ∷ rs) p (suc i) a f =
    slot-later r rs p (behind_row r p (f.low 0 r (omega arith))) ∙ slot_at (row_end r) rs p i a.1 (record { low = λ k d h. f.low (suc k) d (omega arith); high = λ d h. f.high d (omega arith) })

-- what halving finds
pub found_from : (rs xs : Slots) (p i : ℕ) → xs ≡ rs → IsPartitionPoint (λ r. row_end r ≤ p) (λ r. p < row_end r) xs i → Found rs p i
found_from rs xs p i is h = subst (λ ys. Found ys p i) is (record { low = λ k d m. h.0 k d (omega arith) m; high = λ d m. h.1 i d (omega arith) m })

-- the row that may have p
pub row_at : (rs : Slots) (p i : ℕ) (r : SlotRow) → AreRising 0 rs → Found rs p i → i < length rs → r ≡ get_or rs i r → slot rs p ≡ slot (r ∷ []) p
row_at rs p i r a f h is = slot_at 0 rs p i a f ∙ ap (λ o. slot_in o p) (slice_get-get_or rs i r h ∙ ap Some (sym is))

pub no_row_at : (rs : Slots) (p i : ℕ) → AreRising 0 rs → Found rs p i → length rs ≤ i → slot rs p ≡ None
no_row_at rs p i a f h = slot_at 0 rs p i a f ∙ ap (λ o. slot_in o p) (slice_get_past rs i h)

-- a wanted page is in it
pub has_row : (rs : Slots) (p i : ℕ) → AreRising 0 rs → Found rs p i → IsSome (slot rs p) → i < length rs
has_row rs p i a f some =
    elim (cases_lt i (length rs)) [
      | inl h ↦ h
      | inr h ↦ absurd (false≢true (sym (ap is_some (no_row_at rs p i a f h)) ∙ some))
    ]

pub is_in_row : (rs : Slots) (p i : ℕ) (r : SlotRow) → AreRising 0 rs → Found rs p i → IsSome (slot rs p) → r ≡ get_or rs i r → in_row r p ≡ true
is_in_row rs p i r a f some is = go (in_row r p) refl
  where
    go : (t : Bool) → in_row r p ≡ t → in_row r p ≡ true
    go true e = e
    go false e = absurd (false≢true (sym (ap is_some (row_at rs p i r a f (has_row rs p i a f some) is ∙ slot-later r [] p e ∙ slot-none p)) ∙ some))

-- x is row r, of whose page d the slot has changed
pub record Changes (r x : SlotRow) (d : ℕ) (v : Option PageSource) : Type 0 where
  pub inside : in_row r d ≡ true
  pub first : x.first ≡ r.first
  pub slots : x.slots ≡ set r.slots (d - r.first) v

same_length : (r x : SlotRow) (d : ℕ) (v : Option PageSource) → Changes r x d v → length x.slots ≡ length r.slots
same_length r x d v c = ap length c.slots ∙ length-set r.slots (d - r.first) v

same_end : (r x : SlotRow) (d : ℕ) (v : Option PageSource) → Changes r x d v → row_end x ≡ row_end r
same_end r x d v c = omega (arith, c.first, same_length r x d v c)

same_pages : (r x : SlotRow) (d q : ℕ) (v : Option PageSource) → Changes r x d v → in_row x q ≡ in_row r q
same_pages r x d q v c = ap (λ n. nat_le n q && nat_lt q (row_end x)) c.first ∙ ap (λ n. nat_le r.first q && nat_lt q n) (same_end r x d v c)

pub still_rising : (b : ℕ) (rs : Slots) (i : ℕ) (r x : SlotRow) (d : ℕ) (v : Option PageSource) → AreRising b rs → i < length rs → r ≡ get_or rs i r → Changes r x d v → AreRising b (set rs i x)
still_rising b [] i r x d v a h is c = absurd (omega arith)
still_rising b (y ∷ rs) zero r x d v a h is c =
    let first : x.first ≡ y.first = c.first ∙ ap (λ s. s.first) is in
    (omega (arith, a.0, first), subst (λ e. AreRising e rs) (sym (same_end r x d v c ∙ ap row_end is)) a.1)
still_rising b (y ∷ rs) (suc i) r x d v a h is c = (a.0, still_rising (row_end y) rs i r x d v a.1 (omega arith) is c)

-- the page has its new slot
slot_of_change : (r x : SlotRow) (d : ℕ) (v : Option PageSource) → Changes r x d v → slice_get x.slots (d - x.first) ≡ Some v
slot_of_change r x d v c =
    let inside : d - r.first < length r.slots = omega (arith, from_first r d c.inside, to_end r d c.inside) in
    ap (λ n. slice_get x.slots (d - n)) c.first ∙ ap (λ xs. slice_get xs (d - r.first)) c.slots
    ∙ slice_get-get_or (set r.slots (d - r.first) v) (d - r.first) v (omega (arith, inside, length-set r.slots (d - r.first) v))
    ∙ ap Some (get_or-set_same r.slots (d - r.first) v v inside)

pub changed_here : (rs : Slots) (i : ℕ) (r x : SlotRow) (d : ℕ) (v : Option PageSource) → ((k : ℕ) (e : SlotRow) → k < i → row_end (get_or rs k e) ≤ d) → i < length rs → Changes r x d v → slot (set rs i x) d ≡ Some v
changed_here [] i r x d v low h c = absurd (omega arith)
changed_here (y ∷ rs) zero r x d v low h c = slot-here x rs d (same_pages r x d d v c ∙ c.inside) ∙ slot_of_change r x d v c
changed_here (y ∷ rs) (suc i) r x d v low h c =
    slot-later y (set rs i x) d (behind_row y d (low 0 y (omega arith))) ∙ changed_here rs i r x d v (λ k e m. low (suc k) e (omega arith)) (omega arith) c

-- each other page has the slot that it had
slot_beside_change : (r x : SlotRow) (d q : ℕ) (v : Option PageSource) → Changes r x d v → d ≢ q → in_row r q ≡ true → slice_get x.slots (q - x.first) ≡ slice_get r.slots (q - r.first)
slot_beside_change r x d q v c ne has =
    let inside : q - r.first < length r.slots = omega (arith, from_first r q has, to_end r q has) in
    let other : q - r.first ≢ d - r.first = λ e. ne (omega (arith, e, from_first r q has, from_first r d c.inside)) in
    ap (λ n. slice_get x.slots (q - n)) c.first ∙ ap (λ xs. slice_get xs (q - r.first)) c.slots
    ∙ slice_get-get_or (set r.slots (d - r.first) v) (q - r.first) v (omega (arith, inside, length-set r.slots (d - r.first) v))
    ∙ ap Some (get_or-set_other r.slots (d - r.first) (q - r.first) v v other)
    ∙ sym (slice_get-get_or r.slots (q - r.first) v inside)

pub changed_others : (rs : Slots) (i : ℕ) (r x : SlotRow) (d q : ℕ) (v : Option PageSource) → i < length rs → r ≡ get_or rs i r → Changes r x d v → d ≢ q → slot (set rs i x) q ≡ slot rs q
changed_others [] i r x d q v h is c ne = absurd (omega arith)
changed_others (y ∷ rs) zero r x d q v h is c ne = go (in_row r q) refl ∙ ap (λ s. slot (s ∷ rs) q) is
  where
    go : (t : Bool) → in_row r q ≡ t → slot (x ∷ rs) q ≡ slot (r ∷ rs) q
    go true e = slot-here x rs q (same_pages r x d q v c ∙ e) ∙ slot_beside_change r x d q v c ne e ∙ sym (slot-here r rs q e)
    go false e = slot-later x rs q (same_pages r x d q v c ∙ e) ∙ sym (slot-later r rs q e)
changed_others (y ∷ rs) (suc i) r x d q v h is c ne = go (in_row y q) refl (changed_others rs i r x d q v (omega arith) is c ne)
  where
    go : (t : Bool) → in_row y q ≡ t → slot (set rs i x) q ≡ slot rs q → slot (y ∷ set rs i x) q ≡ slot (y ∷ rs) q
    go true e rest = slot-here y (set rs i x) q e ∙ sym (slot-here y rs q e)
    go false e rest = slot-later y (set rs i x) q e ∙ rest ∙ sym (slot-later y rs q e)

-- the ends of rows rise
ends_behind : (b : ℕ) (rs : Slots) (k : ℕ) (d : SlotRow) → AreRising b rs → k < length rs → b ≤ row_end (get_or rs k d)
ends_behind b [] k d a h = absurd (omega arith)
ends_behind b (r ∷ rs) zero d a h = omega arith
ends_behind b (r ∷ rs) (suc k) d a h = omega (arith, ends_behind (row_end r) rs k d a.1 (omega arith))

pub ends_rise : (b : ℕ) (rs : Slots) → AreRising b rs → IsNonDecreasingBy row_end rs
ends_rise b [] a i j d le h = absurd (omega arith)
ends_rise b (r ∷ rs) a zero zero d le h = omega arith
ends_rise b (r ∷ rs) a zero (suc j) d le h = omega (arith, ends_behind (row_end r) rs j d a.1 (omega arith))
ends_rise b (r ∷ rs) a (suc i) zero d le h = absurd (omega arith)
ends_rise b (r ∷ rs) a (suc i) (suc j) d le h = ends_rise (row_end r) rs a.1 i j d (omega arith) (omega arith)

-- the rows of runs that lie apart
pub fresh_rising : (b c : ℕ) (rs : List Run) → c ≤ b → AreApart b rs → AreRising c (map fresh_row rs)
fresh_rising b c [] h a = tt
fresh_rising b c (r ∷ rs) h a =
    let many : length (replicate {A = Option PageSource} r.count None) ≡ r.count = length-replicate r.count None in
    (omega (arith, a.0), fresh_rising (end r + 1) (row_end (fresh_row r)) rs (omega (arith, many)) a.3)

fresh_pages : (r : Run) (p : ℕ) → in_row (fresh_row r) p ≡ in_span r p
fresh_pages r p = ap (λ n. nat_le r.first p && nat_lt p (r.first + n)) (length-replicate r.count None)

fresh_here : (r : Run) (p : ℕ) → in_span r p ≡ true → slice_get (fresh_row r).slots (p - r.first) ≡ Some None
fresh_here r p h =
    let inside : p - r.first < r.count = grind (arith, nat_tests) in
    let many : length (replicate {A = Option PageSource} r.count None) ≡ r.count = length-replicate r.count None in
    slice_get-get_or (replicate r.count None) (p - r.first) None (omega (arith, inside, many)) ∙ ap Some (get_or-replicate r.count (p - r.first) None None inside)

-- one more row
pub more_rows : (wanted : List Run) (i : ℕ) (r : Run) → slice_get wanted i ≡ Some r → map fresh_row (take i wanted) ++ fresh_row r ∷ [] ≡ map fresh_row (take (i + 1) wanted)
more_rows wanted i r e =
    sym (ap (map fresh_row) (take_more wanted i r (slice_get_within wanted i r e) ∙ ap (λ x. take i wanted ++ x ∷ []) (get_or_from_slice_get wanted i r r e)) ∙ map-append fresh_row (take i wanted) (r ∷ []))

-- and all of them
pub all_rows : (wanted : List Run) (rows : Slots) (i : ℕ) → rows ≡ map fresh_row (take i wanted) → length wanted ≤ i → rows ≡ map fresh_row wanted
all_rows wanted rows i e h = e ∙ ap (map fresh_row) (take_all i wanted h)

pub fresh_slots : (rs : List Run) (p : ℕ) → slot (map fresh_row rs) p ≡ fresh_slot (in_spans rs p)
fresh_slots [] p = slot-none p
fresh_slots (r ∷ rs) p = go (in_span r p) refl (fresh_slots rs p)
  where
    go : (t : Bool) → in_span r p ≡ t → slot (map fresh_row rs) p ≡ fresh_slot (in_spans rs p) → slot (fresh_row r ∷ map fresh_row rs) p ≡ fresh_slot (in_span r p || in_spans rs p)
    go true e rest = slot-here (fresh_row r) (map fresh_row rs) p (fresh_pages r p ∙ e) ∙ fresh_here r p e ∙ sym (ap (λ t. fresh_slot (t || in_spans rs p)) e)
    go false e rest = slot-later (fresh_row r) (map fresh_row rs) p (fresh_pages r p ∙ e) ∙ rest ∙ sym (ap (λ t. fresh_slot (t || in_spans rs p)) e)
