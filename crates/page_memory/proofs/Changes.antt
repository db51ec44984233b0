-- A page that is added, and two pages whose frames change places.
use Rattle.std.proofs.Common.{append_assoc, take, drop, ◌-◌, ◌*◌, ◌/◌, ◌%◌, ◌≡◌, ◌≢◌, ℕ, ◌+◌, ◌<◌, ◌≤◌, ◌^◌, List, [], ◌∷◌, ◌++◌, length, Bool, true, false, cond, refl, sym, ap, ◌∙◌, subst, arith, Some, None, Option, ◌⊎◌, inl, inr}
use Rattle.std.specs.Prelude.{is_some, IsSome, replicate}
use Rattle.page_memory.specs.File.{is_all_zeros}
use Rattle.std.specs.Option.{option_map, IfSome}
use Rattle.std.specs.Ordering.{nat_cmp}
use Rattle.std.specs.declared.cmp.Ordering.TheVariants.{Less}
use Rattle.std.specs.Cmp.{nat_cmp_total, eq_by_cmp_equiv}
use Rattle.std.specs.Map.{lookup, keys_of}
use Rattle.std.specs.List.{AllByRecursion, IsDistinct}
use Rattle.std.specs.Prelude.{eqb}
use Rattle.std.specs.Ordering.{is_eq}
use Rattle.std.proofs.lemmas.Bool.{ne_eqb}
use Rattle.std.specs.List.Sorted.{IsStrictlySortedBy}
use Rattle.std.specs.BTreeMap.{IsOrdered, is_at, BTreeMap}
use Rattle.std.specs.BTreeMap as tree
use Rattle.std.specs.FinMap.{FinMap, get, insert, same_map, empty, nat_cmp-IsAntisymmetric}
use Rattle.std.proofs.lemmas.List.{length-append, length-drop, take-append-drop}
use Rattle.page_memory.specs.inner.View.{pages_by}
use Rattle.kx_pages.proofs.Bytes.{page_of-fits}
use Rattle.page_memory.proofs.Laws.{frame_at-found, frame_at-insert_other, frame_at-insert_same}
use Rattle.page_memory.proofs.OneFile.{list_zeros, zeros_are}
use Rattle.kx_fields.specs.Fields.{AreBytes, IsBlock}
use Rattle.kx_fields.proofs.Bytes.{AreBytes-append}
use Rattle.kx_laws.proofs.Booleans.{true_false, Equal-from_is_eq}
use Rattle.kx_laws.proofs.Lists.{take_front, drop_front}
use Rattle.kx_laws.proofs.Options.{none_some, some_same, map_none}
use Rattle.kx_pages.specs.Bytes.{page_of}
use Rattle.page_memory.specs.Contents.{frame_at}
use Rattle.page_memory.specs.inner.Frames.{frame_in, IsTable, pages_in, Differs}
use Rattle.page_memory.specs.inner.InPlace.{AreInSlots, slots_of}
use Rattle.page_memory.proofs.Stored.{all_kept, distinct_kept, kept_in}
use Rattle.page_memory.proofs.Tables.{AreFrames, get-pages_by, pages_by-differs, some_held}
use Rattle.page_memory.proofs.Frames.{other_frames, inside_found, frame_in-append, frame_in-last, IsBlock-frame_in}

-- what is asked of a frame
abbrev Inside : List ℕ → ℕ → ℕ → Type 0
Inside xs q i = (q < 2 ^ 34) × (i + 4096 ≤ length xs)

pub pages_by-same : (f g : ℕ → List ℕ) (m : BTreeMap ℕ ℕ) → ((q j : ℕ) → tree.get nat_cmp m q ≡ Some j → g j ≡ f j) → pages_by g m.entries ≡ pages_by f m.entries
pages_by-same f g m h = same_map nat_cmp_total nat_cmp-IsAntisymmetric _ _ (λ q.
    get-pages_by g m.entries q ∙ other_frames f g (tree.get nat_cmp m q) (h q) ∙ sym (get-pages_by f m.entries q))

-- the frame of one page more
pub pages-inserted : (xs : List ℕ) (m n : BTreeMap ℕ ℕ) (p i : ℕ) → Differs m n p i → pages_in xs n ≡ insert (pages_in xs m) p (frame_in xs i)
pages-inserted xs m n p i h = pages_by-differs (frame_in xs) m n p i (frame_in xs i) h refl

-- a buffer that goes on
pub pages-longer : (xs ys : List ℕ) (m : BTreeMap ℕ ℕ) → IsTable xs m → pages_in (xs ++ ys) m ≡ pages_in xs m
pages-longer xs ys m is = pages_by-same (frame_in xs) (frame_in (xs ++ ys)) m (λ q j e. frame_in-append xs ys j (inside_found xs m q j is (sym e)).1)

pub pages-added : (xs heads bytes : List ℕ) (m n : BTreeMap ℕ ℕ) (p i : ℕ) → IsTable xs m → length (xs ++ heads) ≡ i → length bytes ≡ 4096 → Differs m n p i → pages_in (xs ++ heads ++ bytes) n ≡ insert (pages_in xs m) p bytes
pages-added xs heads bytes m n p i is last whole h =
    pages-inserted (xs ++ heads ++ bytes) m n p i h
    ∙ ap (insert (pages_in (xs ++ heads ++ bytes) m) p) (frame_in-last (xs ++ heads) bytes i last whole)
    ∙ ap (λ zs. insert (pages_in zs m) p bytes) (append_assoc xs heads bytes)
    ∙ ap (λ k. insert k p bytes) (pages-longer xs (heads ++ bytes) m is)

-- where a value at q comes from
here_or_old : (p q i k : ℕ) (b : Bool) (o : Option ℕ) → is_at (nat_cmp p) q ≡ b → cond b (Some i) o ≡ Some k → ((q ≡ p) × (k ≡ i)) ⊎ (o ≡ Some k)
here_or_old p q i k true o t e = inl (sym (nat_cmp-IsAntisymmetric p q (Equal-from_is_eq (nat_cmp p q) t)), sym (some_same i k e))
here_or_old p q i k false o t e = inr e

from_differs : (m n : BTreeMap ℕ ℕ) (p i q k : ℕ) → Differs m n p i → tree.get nat_cmp n q ≡ Some k → ((q ≡ p) × (k ≡ i)) ⊎ (tree.get nat_cmp m q ≡ Some k)
from_differs m n p i q k h e = here_or_old p q i k (is_at (nat_cmp p) q) (tree.get nat_cmp m q) refl (sym (h q) ∙ e)

if_some : (o : Option ℕ) (P : ℕ → Type 0) → ((k : ℕ) → o ≡ Some k → P k) → IfSome o P
if_some None P h = tt
if_some (Some k) P h = h k refl

-- each frame ends at this place or before it
abbrev EndBy : BTreeMap ℕ ℕ → ℕ → Type 0
EndBy m end = (q k : ℕ) → tree.get nat_cmp m q ≡ Some k → k + 4096 ≤ end

inside_added : (xs zs : List ℕ) (m : BTreeMap ℕ ℕ) (p i q k : ℕ) → IsTable xs m → length xs ≤ length zs → i + 4096 ≤ length zs → p < 2 ^ 34 → ((q ≡ p) × (k ≡ i)) ⊎ (tree.get nat_cmp m q ≡ Some k) → Inside zs q k
inside_added xs zs m p i q k is longer inside below (inl h) = (omega (arith, h.0), omega (arith, h.1))
inside_added xs zs m p i q k is longer inside below (inr h) = let old = inside_found xs m q k is (sym h) in (old.0, omega (arith, old.1))

both_added : (xs : List ℕ) (m : BTreeMap ℕ ℕ) (p i a b k : ℕ) → IsTable xs m → EndBy m i → ((a ≡ p) × (k ≡ i)) ⊎ (tree.get nat_cmp m a ≡ Some k) → ((b ≡ p) × (k ≡ i)) ⊎ (tree.get nat_cmp m b ≡ Some k) → a ≡ b
both_added xs m p i a b k is before (inl x) (inl y) = x.0 ∙ sym y.0
both_added xs m p i a b k is before (inl x) (inr y) = absurd (omega (arith, x.1, before b k y))
both_added xs m p i a b k is before (inr x) (inl y) = absurd (omega (arith, y.1, before a k x))
both_added xs m p i a b k is before (inr x) (inr y) = is.apart a b k x y

slot_added : (xs : List ℕ) (m : BTreeMap ℕ ℕ) (p i q k n : ℕ) → IsTable xs m → i ≡ 24 + 4104 * n → ((q ≡ p) × (k ≡ i)) ⊎ (tree.get nat_cmp m q ≡ Some k) → k % 4104 ≡ 24
slot_added xs m p i q k n is slot (inl h) = omega (arith, h.1)
slot_added xs m p i q k n is slot (inr h) = is.slots q k h

one_slot_more : (z i m n : ℕ) → z ≡ i + 4096 → i ≡ 24 + 4104 * m → n ≡ m + 1 → z - 16 ≡ 4104 * n
one_slot_more z i m n long slot more = omega (arith, long, slot, more)

-- a buffer that goes on by a slot, whose page is new
pub IsTable-added : (xs heads bytes : List ℕ) (m n : BTreeMap ℕ ℕ) (p i : ℕ) → IsTable xs m → length (xs ++ heads) ≡ i → i ≡ 24 + 4104 * length m.entries → AreBytes heads → IsBlock 4096 bytes → p < 2 ^ 34 → Differs m n p i → length n.entries ≡ length m.entries + 1 → IsTable (xs ++ heads ++ bytes) n
IsTable-added xs heads bytes m n p i is last slot small page below h more =
    let zs = xs ++ heads ++ bytes in
    let long : length zs ≡ i + 4096 = omega (arith, length-append (xs ++ heads) bytes, page.long, last) in
    let longer : length xs ≤ i = omega (arith, length-append xs heads, last) in
    let before : EndBy m i = λ q k e. omega (arith, (inside_found xs m q k is (sym e)).1, longer) in
    record {
      inside = λ q. if_some (tree.get nat_cmp n q) (Inside zs q) (λ k e. inside_added xs zs m p i q k is (omega (arith, long, longer)) (omega (arith, long)) below (from_differs m n p i q k h e));
      apart = λ a b k at_a at_b. both_added xs m p i a b k is before (from_differs m n p i a k h at_a) (from_differs m n p i b k h at_b);
      slots = λ q k at_q. slot_added xs m p i q k (length m.entries) is slot (from_differs m n p i q k h at_q);
      full = one_slot_more (length zs) i (length m.entries) (length n.entries) long slot more;
      bytes = AreBytes-append (xs ++ heads) bytes (AreBytes-append xs heads is.bytes small) page.each;
    }

-- two frames change places
pub pages-exchanged : (xs : List ℕ) (m k n : BTreeMap ℕ ℕ) (d s i j : ℕ) → tree.get nat_cmp m d ≡ Some i → tree.get nat_cmp m s ≡ Some j → Differs m k s i → Differs k n d j → pages_in xs n ≡ insert (insert (pages_in xs m) s (frame_at (pages_in xs m) d)) d (frame_at (pages_in xs m) s)
pages-exchanged xs m k n d s i j at_d at_s one two =
    pages_by-differs (frame_in xs) k n d j (frame_at (pages_in xs m) s) two (sym (frame_at-found (pages_in xs m) s (frame_in xs j) (sym (some_held (frame_in xs) m s j (sym at_s)))))
    ∙ ap (λ t. insert t d (frame_at (pages_in xs m) s)) (pages_by-differs (frame_in xs) m k s i (frame_at (pages_in xs m) d) one (sym (frame_at-found (pages_in xs m) d (frame_in xs i) (sym (some_held (frame_in xs) m d i (sym at_d))))))

-- q has after the exchange what r had before
abbrev Which : ℕ → ℕ → ℕ → ℕ → Type 0
Which d s q r = ((q ≡ d) × (r ≡ s)) ⊎ (((q ≡ s) × (r ≡ d)) ⊎ ((q ≢ d) × (q ≢ s) × (r ≡ q)))

not_at : (p q : ℕ) → is_at (nat_cmp p) q ≡ false → q ≢ p
not_at p q e same = true_false (sym ((eq_by_cmp_equiv nat_cmp_total).refl p) ∙ ap (λ q. is_at (nat_cmp p) q) (sym same) ∙ e)

at_it : (p q : ℕ) → is_at (nat_cmp p) q ≡ true → q ≡ p
at_it p q t = sym (nat_cmp-IsAntisymmetric p q (Equal-from_is_eq (nat_cmp p q) t))

which_of : (m : BTreeMap ℕ ℕ) (d s i j q k : ℕ) (a b : Bool) → is_at (nat_cmp d) q ≡ a → is_at (nat_cmp s) q ≡ b → tree.get nat_cmp m d ≡ Some i → tree.get nat_cmp m s ≡ Some j → cond a (Some j) (cond b (Some i) (tree.get nat_cmp m q)) ≡ Some k → (r : ℕ) × (tree.get nat_cmp m r ≡ Some k) × Which d s q r
which_of m d s i j q k true b is_a is_b at_d at_s e = (s, at_s ∙ e, inl (at_it d q is_a, refl))
which_of m d s i j q k false true is_a is_b at_d at_s e = (d, at_d ∙ e, inr (inl (at_it s q is_b, refl)))
which_of m d s i j q k false false is_a is_b at_d at_s e = (q, e, inr (inr (not_at d q is_a, not_at s q is_b, refl)))

which_exchanged : (m k n : BTreeMap ℕ ℕ) (d s i j q v : ℕ) → tree.get nat_cmp m d ≡ Some i → tree.get nat_cmp m s ≡ Some j → Differs m k s i → Differs k n d j → tree.get nat_cmp n q ≡ Some v → (r : ℕ) × (tree.get nat_cmp m r ≡ Some v) × Which d s q r
which_exchanged m k n d s i j q v at_d at_s one two e = which_of m d s i j q v (is_at (nat_cmp d) q) (is_at (nat_cmp s) q) refl refl at_d at_s (ap (cond (is_at (nat_cmp d) q) (Some j)) (sym (one q)) ∙ sym (two q) ∙ e)

which_same : (d s a b r t : ℕ) → Which d s a r → Which d s b t → r ≡ t → d ≢ s → a ≡ b
which_same d s a b r t (inl x) (inl y) e ne = omega (arith, x.0, y.0)
which_same d s a b r t (inl x) (inr (inl y)) e ne = omega (arith, x.1, y.1)
which_same d s a b r t (inl x) (inr (inr y)) e ne = omega (arith, x.1, y.1, y.2)
which_same d s a b r t (inr (inl x)) (inl y) e ne = omega (arith, x.1, y.1)
which_same d s a b r t (inr (inl x)) (inr (inl y)) e ne = omega (arith, x.0, y.0)
which_same d s a b r t (inr (inl x)) (inr (inr y)) e ne = omega (arith, x.1, y.0, y.2)
which_same d s a b r t (inr (inr x)) (inl y) e ne = omega (arith, y.1, x.1, x.2)
which_same d s a b r t (inr (inr x)) (inr (inl y)) e ne = omega (arith, y.1, x.0, x.2)
which_same d s a b r t (inr (inr x)) (inr (inr y)) e ne = omega (arith, x.2, y.2)

below_which : (d s q r : ℕ) → Which d s q r → d < 2 ^ 34 → s < 2 ^ 34 → r < 2 ^ 34 → q < 2 ^ 34
below_which d s q r (inl x) hd hs hr = omega (arith, x.0)
below_which d s q r (inr (inl x)) hd hs hr = omega (arith, x.0)
below_which d s q r (inr (inr x)) hd hs hr = omega (arith, x.2)

pub IsTable-exchanged : (xs : List ℕ) (m k n : BTreeMap ℕ ℕ) (d s i j : ℕ) → d ≢ s → tree.get nat_cmp m d ≡ Some i → tree.get nat_cmp m s ≡ Some j → Differs m k s i → Differs k n d j → length n.entries ≡ length m.entries → IsTable xs m → IsTable xs n
IsTable-exchanged xs m k n d s i j ne at_d at_s one two same is = record {
  inside = λ q. if_some (tree.get nat_cmp n q) (Inside xs q) (λ v e.
      let w = which_exchanged m k n d s i j q v at_d at_s one two e in
      let old = inside_found xs m w.0 v is (sym w.1) in
      (below_which d s q w.0 w.2 (inside_found xs m d i is (sym at_d)).0 (inside_found xs m s j is (sym at_s)).0 old.0, old.1));
  apart = λ a b v at_a at_b.
      let x = which_exchanged m k n d s i j a v at_d at_s one two at_a in
      let y = which_exchanged m k n d s i j b v at_d at_s one two at_b in
      which_same d s a b x.0 y.0 x.2 y.2 (is.apart x.0 y.0 v x.1 y.1) ne;
  slots = λ q v at_q. let w = which_exchanged m k n d s i j q v at_d at_s one two at_q in is.slots w.0 v w.1;
  full = is.full ∙ ap (λ l. 4104 * l) (sym same);
  bytes = is.bytes;
}

-- the entries of a table
lookup-above : {X : Type 0} (k : ℕ) (es : List (ℕ × X)) → AllByRecursion (λ y. nat_cmp k y ≡ Less) (keys_of es) → lookup (is_at (nat_cmp k)) es ≡ None
lookup-above k [] h = refl
lookup-above k (e ∷ es) h = rw h.0 (lookup-above k es h.1)

rest_of : (P : ℕ → ℕ → Type 0) (e : ℕ × ℕ) (es : List (ℕ × ℕ)) (q : ℕ) (b : Bool) → is_at (nat_cmp q) e.0 ≡ b → AllByRecursion (λ y. nat_cmp e.0 y ≡ Less) (keys_of es) → IfSome (cond b (Some e.1) (lookup (is_at (nat_cmp q)) es)) (P q) → IfSome (lookup (is_at (nat_cmp q)) es) (P q)
rest_of P e es q false t above h = h
rest_of P e es q true t above h =
    let same : e.0 ≡ q = at_it q e.0 t in
    subst (λ o. IfSome o (P q)) (sym (subst (λ k. lookup (is_at (nat_cmp k)) es ≡ None) same (lookup-above e.0 es above))) tt

all_entries : (P : ℕ → ℕ → Type 0) (es : List (ℕ × ℕ)) → IsStrictlySortedBy nat_cmp (keys_of es) → ((q : ℕ) → IfSome (lookup (is_at (nat_cmp q)) es) (P q)) → AllByRecursion (λ e. P e.0 e.1) es
unfolding IsStrictlySortedBy
all_entries P [] sorted h = tt
all_entries P (e ∷ es) sorted h =
    (subst (λ b. IfSome (cond b (Some e.1) (lookup (is_at (nat_cmp e.0)) es)) (P e.0)) ((eq_by_cmp_equiv nat_cmp_total).refl e.0) (h e.0), all_entries P es sorted.1 (λ q. rest_of P e es q (is_at (nat_cmp q) e.0) refl sorted.0 (h q)))

-- each entry of a table is inside, in a slot, and is what the table has at its page
pub all_inside : (xs : List ℕ) (m : BTreeMap ℕ ℕ) → IsOrdered nat_cmp m → IsTable xs m → AllByRecursion (λ e. e.1 + 4096 ≤ length xs) m.entries
all_inside xs m sorted is = all_entries (λ q i. i + 4096 ≤ length xs) m.entries sorted (λ q. if_some (tree.get nat_cmp m q) (λ i. i + 4096 ≤ length xs) (λ i e. (inside_found xs m q i is (sym e)).1))

all_slots : (xs : List ℕ) (m : BTreeMap ℕ ℕ) → IsOrdered nat_cmp m → IsTable xs m → AllByRecursion (λ e. e.1 % 4104 ≡ 24) m.entries
all_slots xs m sorted is = all_entries (λ q i. i % 4104 ≡ 24) m.entries sorted (λ q. if_some (tree.get nat_cmp m q) (λ i. i % 4104 ≡ 24) (λ i e. is.slots q i e))

pub all_found : (m : BTreeMap ℕ ℕ) → IsOrdered nat_cmp m → AllByRecursion (λ e. tree.get nat_cmp m e.0 ≡ Some e.1) m.entries
all_found m sorted = all_entries (λ q i. tree.get nat_cmp m q ≡ Some i) m.entries sorted (λ q. if_some (tree.get nat_cmp m q) (λ i. tree.get nat_cmp m q ≡ Some i) (λ i e. e))

not_below : (n : ℕ) → nat_cmp n n ≡ Less → ⊥
not_below n h = true_false (sym ((eq_by_cmp_equiv nat_cmp_total).refl n) ∙ ap is_eq h)

slot_differs : (i j : ℕ) → i % 4104 ≡ 24 → j % 4104 ≡ 24 → (i ≡ j → ⊥) → eqb (i / 4104) (j / 4104) ≡ false
slot_differs i j at_i at_j apart = ne_eqb (i / 4104) (j / 4104) (λ same. apart (omega (arith, at_i, at_j, same)))

-- the slot of an entry is not that of an entry with another page
slots_differ : (xs : List ℕ) (m : BTreeMap ℕ ℕ) (e : ℕ × ℕ) (es : List (ℕ × ℕ)) → IsTable xs m → tree.get nat_cmp m e.0 ≡ Some e.1 → e.1 % 4104 ≡ 24 → AllByRecursion (λ y. nat_cmp e.0 y ≡ Less) (keys_of es) → AllByRecursion (λ f. tree.get nat_cmp m f.0 ≡ Some f.1) es → AllByRecursion (λ f. f.1 % 4104 ≡ 24) es → AllByRecursion (λ y. eqb (e.1 / 4104) y ≡ false) (slots_of es)
slots_differ xs m e [] is at_e slot above found slots = tt
slots_differ xs m e (f ∷ es) is at_e slot above found slots = (
  slot_differs e.1 f.1 slot slots.0 (λ same. not_below e.0 (ap (nat_cmp e.0) (is.apart e.0 f.0 e.1 at_e (found.0 ∙ ap Some (sym same))) ∙ above.0)),
  slots_differ xs m e es is at_e slot above.1 found.1 slots.1,
)

slots_distinct : (xs : List ℕ) (m : BTreeMap ℕ ℕ) (es : List (ℕ × ℕ)) → IsTable xs m → IsStrictlySortedBy nat_cmp (keys_of es) → AllByRecursion (λ f. tree.get nat_cmp m f.0 ≡ Some f.1) es → AllByRecursion (λ f. f.1 % 4104 ≡ 24) es → IsDistinct eqb (slots_of es)
unfolding IsStrictlySortedBy IsDistinct
slots_distinct xs m [] is sorted found slots = tt
slots_distinct xs m (e ∷ es) is sorted found slots = (slots_differ xs m e es is found.0 slots.0 sorted.0 found.1 slots.1, slots_distinct xs m es is sorted.1 found.1 slots.1)

-- the pages that a file has lie in slots of their own
pub AreInSlots-kept : (xs : List ℕ) (m : BTreeMap ℕ ℕ) → IsOrdered nat_cmp m → IsTable xs m → AreInSlots xs (kept_in xs m.entries)
AreInSlots-kept xs m sorted is =
    let slots = all_slots xs m sorted is in
    record {
      inside = all_kept (λ e. e.1 + 4096 ≤ length xs) xs m.entries (all_inside xs m sorted is);
      slots = all_kept (λ e. e.1 % 4104 ≡ 24) xs m.entries slots;
      apart = distinct_kept xs m.entries (slots_distinct xs m m.entries is sorted (all_found m sorted) slots);
    }

-- a page that the map lacks has no entry
pub none_in : (xs : List ℕ) (m : BTreeMap ℕ ℕ) (p : ℕ) → get (pages_in xs m) p ≡ None → tree.get nat_cmp m p ≡ None
none_in xs m p h = map_none (frame_in xs) (tree.get nat_cmp m p) (sym (get-pages_by (frame_in xs) m.entries p) ∙ h)

-- one that the map has has one
pub some_in : (xs : List ℕ) (m : BTreeMap ℕ ℕ) (p : ℕ) → IsSome (get (pages_in xs m) p) → IsSome (tree.get nat_cmp m p)
some_in xs m p h = mapped (tree.get nat_cmp m p) (ap is_some (sym (get-pages_by (frame_in xs) m.entries p)) ∙ h)
  where
    mapped : (o : Option ℕ) → IsSome (option_map (frame_in xs) o) → IsSome o
    mapped None h = h
    mapped (Some x) h = refl

pub AreFrames-IsTable : (xs : List ℕ) (m : BTreeMap ℕ ℕ) → IsTable xs m → AreFrames (frame_in xs) m
AreFrames-IsTable xs m is = record {
  each = λ q. if_some (tree.get nat_cmp m q) (λ i. (q < 2 ^ 34) × IsBlock 4096 (frame_in xs i)) (λ k e.
      let old = inside_found xs m q k is (sym e) in
      (old.0, IsBlock-frame_in xs k old.1 is.bytes));
}

-- what three copies and an exchange of frames have in common
pub exchange_is_swap : (P one two : FinMap nat_cmp (List ℕ)) (d s w : ℕ) → s ≢ w → one ≡ insert P w (frame_at P s) → two ≡ insert (insert one s (frame_at one d)) d (frame_at one s) → two ≡ insert (insert (insert P w (frame_at P s)) s (frame_at (insert P w (frame_at P s)) d)) d (frame_at (insert (insert P w (frame_at P s)) s (frame_at (insert P w (frame_at P s)) d)) w)
exchange_is_swap P one two d s w ne is_one is_two =
    let first = insert P w (frame_at P s) in
    let moved : frame_at (insert first s (frame_at first d)) w ≡ frame_at first s =
    frame_at-insert_other first s (frame_at first d) w (λ e. ne (sym e)) ∙ frame_at-insert_same P w (frame_at P s) ∙ sym (frame_at-insert_other P w (frame_at P s) s ne) in
    is_two ∙ ap (λ m. insert (insert m s (frame_at m d)) d (frame_at m s)) is_one ∙ ap (λ v. insert (insert first s (frame_at first d)) d v) (sym moved)

absent_above : (p q i : ℕ) (b : Bool) (o : Option ℕ) → is_at (nat_cmp p) q ≡ b → p + 1 ≤ q → o ≡ None → cond b (Some i) o ≡ None
absent_above p q i true o t up none = absurd (omega (arith, at_it p q t, up))
absent_above p q i false o t up none = none

-- one page more leaves those above it absent
pub absent-added : (m n : BTreeMap ℕ ℕ) (p i low : ℕ) → Differs m n p i → low ≤ p → ((q : ℕ) → low ≤ q → tree.get nat_cmp m q ≡ None) → (q : ℕ) → p + 1 ≤ q → tree.get nat_cmp n q ≡ None
absent-added m n p i low h le none q up = h q ∙ absent_above p q i (is_at (nat_cmp p) q) (tree.get nat_cmp m q) refl up (none q (omega (arith, le, up)))

-- no pages
none_at : (m : BTreeMap ℕ ℕ) (p i : ℕ) → m.entries ≡ [] → tree.get nat_cmp m p ≡ Some i → ⊥
none_at m p i h e = none_some (tree.get nat_cmp m p) i (ap (lookup (is_at (nat_cmp p))) h) e

pub IsTable-empty : (xs : List ℕ) (m : BTreeMap ℕ ℕ) → AreBytes xs → length xs ≤ 16 → m.entries ≡ [] → IsTable xs m
IsTable-empty xs m small head h =
    let nothing : length m.entries ≡ 0 = ap length h in
    record {
      inside = λ q. subst (λ es. IfSome (lookup (is_at (nat_cmp q)) es) (Inside xs q)) (sym h) tt;
      apart = λ p q i at_p at_q. absurd (none_at m p i h at_p);
      slots = λ q i at_q. absurd (none_at m q i h at_q);
      full = omega (arith, nothing, head);
      bytes = small;
    }

pub pages-empty : (xs : List ℕ) (m : BTreeMap ℕ ℕ) → m.entries ≡ [] → pages_in xs m ≡ empty
pages-empty xs m h = ap (pages_by (frame_in xs)) h

pub absent-empty : (m : BTreeMap ℕ ℕ) (q : ℕ) → m.entries ≡ [] → tree.get nat_cmp m q ≡ None
absent-empty m q h = ap (lookup (is_at (nat_cmp q))) h

-- whether a page is some bytes, then zeros
pub is_page_when : (page bytes front back : List ℕ) (n : ℕ) (b : Bool) → length page ≡ 4096 → length bytes ≡ n → n ≤ 4096 → front ≡ take n page → back ≡ drop n page → front ≡ bytes → b ≡ is_all_zeros back → (b ≡ true → page ≡ page_of bytes) × (page ≡ page_of bytes → b ≡ true)
is_page_when page bytes front back n b whole long fits is_front is_back same test =
    let rest : length (drop n page) ≡ 4096 - length bytes = omega (arith, length-drop n page, whole, long) in
    let filled = page_of-fits bytes (omega (arith, long, fits)) in (
      λ yes. sym (take-append-drop n page) ∙ ap (λ t. t ++ drop n page) (sym is_front ∙ same) ∙ ap (λ t. bytes ++ t) (list_zeros (drop n page) (ap is_all_zeros (sym is_back) ∙ sym test ∙ yes) ∙ ap (λ k. replicate k 0) rest) ∙ sym filled,
      λ eq. test ∙ ap is_all_zeros (is_back ∙ ap (drop n) (eq ∙ filled) ∙ drop_front bytes (replicate (4096 - length bytes) 0) n long) ∙ zeros_are (4096 - length bytes),
    )

pub no_page_when : (page bytes front : List ℕ) (n : ℕ) → length bytes ≡ n → n ≤ 4096 → front ≡ take n page → front ≢ bytes → page ≡ page_of bytes → ⊥
no_page_when page bytes front n long fits is_front apart eq = apart (is_front ∙ ap (take n) (eq ∙ page_of-fits bytes (omega (arith, long, fits))) ∙ take_front bytes (replicate (4096 - length bytes) 0) n long)
