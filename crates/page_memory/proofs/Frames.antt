-- A frame that is written.
use Rattle.std.proofs.Common.{◌≡◌, ◌≢◌, ℕ, ◌+◌, ◌-◌, ◌%◌, ◌<◌, ◌≤◌, ◌^◌, List, ◌++◌, length, take, drop, Bool, true, false, cond, refl, sym, ap, ◌∙◌, subst, arith, Some, None, Option}
use Rattle.std.specs.Option.{option_map, IfSome}
use Rattle.std.specs.Ordering.{nat_cmp}
use Rattle.std.specs.Cmp.{nat_cmp_total, eq_by_cmp_equiv}
use Rattle.std.specs.BTreeMap.{is_at, BTreeMap}
use Rattle.std.specs.BTreeMap as tree
use Rattle.std.specs.FinMap.{insert, same_map, get-insert, nat_cmp-IsAntisymmetric}
use Rattle.std.proofs.lemmas.Grind.{common_steps}
use Rattle.std.proofs.Common.{◌⊎◌, inl, inr, ⊎_elim}
use Rattle.std.specs.Prelude.{nat_lt}
use Rattle.std.proofs.lemmas.Bool.Decides.{nat_tests}
use Rattle.std.proofs.Math.Seq.{drop-append-add}
use Rattle.std.proofs.lemmas.List.{drop-append-le, take-append-le, take-take, drop-take, length-append, length-take, length-drop, drop-drop}
use Rattle.page_memory.specs.inner.View.{pages_by}
use Rattle.kx_fields.specs.Fields.{AreBytes, IsBlock}
use Rattle.kx_fields.proofs.Fields.{AreBytes-drop}
use Rattle.kx_fields.proofs.Bytes.{AreBytes-take}
use Rattle.kx_laws.proofs.Booleans.{true_false, Equal-from_is_eq}
use Rattle.kx_laws.proofs.Lists.{take_front, drop_front}
use Rattle.page_memory.specs.inner.Frames.{frame_in, put_frame, IsTable}
use Rattle.page_memory.proofs.Tables.{get-pages_by}

take_long : (xs : List ℕ) (n : ℕ) → n ≤ length xs → length (take n xs) ≡ n
take_long xs n h = omega (arith, length-take n xs)

either_test : (i j : ℕ) (b : Bool) → nat_lt j i ≡ b → j ≢ i → (j < i) ⊎ (i < j)
either_test i j true e apart = inl (grind (arith, nat_tests, e))
either_test i j false e apart = let le : i ≤ j = grind (arith, nat_tests, e) in inr (omega arith)

either_way : (i j : ℕ) → j ≢ i → (j < i) ⊎ (i < j)
either_way i j apart = either_test i j (nat_lt j i) refl apart

-- the frame that was written
pub frame_in-put_same : (xs : List ℕ) (i : ℕ) (ys : List ℕ) → i + 4096 ≤ length xs → length ys ≡ 4096 → frame_in (put_frame xs i ys) i ≡ ys
unfolding frame_in put_frame
frame_in-put_same xs i ys inside whole =
    ap (take 4096) (drop_front (take i xs) (ys ++ drop 4096 (drop i xs)) i (take_long xs i (omega arith)))
    ∙ take_front ys (drop 4096 (drop i xs)) 4096 whole

seg_before : (xs rest : List ℕ) (k n m : ℕ) → k + n ≤ m → m ≤ length xs → take n (drop k (take m xs ++ rest)) ≡ take n (drop k xs)
seg_before xs rest k n m h inside =
    let all : k + (m - k) ≡ m = omega arith in
    let front : k ≤ length (take m xs) = omega (arith, length-take m xs) in
    let long : n ≤ length (drop k (take m xs)) = omega (arith, length-take m xs, length-drop k (take m xs)) in
    ap (take n) (drop-append-le k (take m xs) rest front)
    ∙ take-append-le n (drop k (take m xs)) rest long
    ∙ ap (λ m. take n (drop k (take m xs))) (sym all)
    ∙ ap (take n) (drop-take k (m - k) xs)
    ∙ take-take n (m - k) (drop k xs) (omega arith)

seg_after : (a ys xs : List ℕ) (k m n : ℕ) → length a ≡ m → length ys ≡ n → m + n ≤ k → drop k (a ++ (ys ++ drop n (drop m xs))) ≡ drop k xs
seg_after a ys xs k m n at_m at_n h =
    let split : k ≡ length a + (length ys + (k - (m + n))) = omega arith in
    let back : m + (n + (k - (m + n))) ≡ k = omega arith in
    ap (λ k. drop k (a ++ (ys ++ drop n (drop m xs)))) split
    ∙ drop-append-add a (ys ++ drop n (drop m xs)) (length ys + (k - (m + n)))
    ∙ drop-append-add ys (drop n (drop m xs)) (k - (m + n))
    ∙ drop-drop (k - (m + n)) n (drop m xs)
    ∙ drop-drop (n + (k - (m + n))) m xs
    ∙ ap (λ k. drop k xs) back

-- any other frame
pub frame_in-put_other : (xs : List ℕ) (i j : ℕ) (ys : List ℕ) → i + 4096 ≤ length xs → length ys ≡ 4096 → j ≢ i → (j < i → j + 4096 ≤ i) → (i < j → i + 4096 ≤ j) → frame_in (put_frame xs i ys) j ≡ frame_in xs j
unfolding frame_in put_frame
frame_in-put_other xs i j ys inside whole apart before after = ⊎_elim
    (λ (less : j < i). seg_before xs (ys ++ drop 4096 (drop i xs)) j 4096 i (before less) (omega (arith, inside)))
    (λ (more : i < j). ap (take 4096) (seg_after (take i xs) ys xs j i 4096 (take_long xs i (omega (arith, inside))) whole (after more)))
    (either_way i j apart)

pub length-put_frame : (xs : List ℕ) (i : ℕ) (ys : List ℕ) → i + 4096 ≤ length xs → length ys ≡ 4096 → length (put_frame xs i ys) ≡ length xs
unfolding put_frame
length-put_frame xs i ys inside whole = omega (arith, length-append (take i xs) (ys ++ drop 4096 (drop i xs)), length-append ys (drop 4096 (drop i xs)), length-take i xs, length-drop 4096 (drop i xs), length-drop i xs)

-- what a buffer is after a slice of it was lent
pub vec_back : (n : ℕ) (xs ys : List ℕ) → n ≡ length ys → take n (ys ++ drop (length ys) xs) ≡ ys
vec_back n xs ys e = take_front ys (drop (length ys) xs) n (sym e)

written_case : (f g : ℕ → List ℕ) (ys : List ℕ) (o : Option ℕ) (b : Bool) → (b ≡ true → option_map g o ≡ Some ys) → (b ≡ false → option_map g o ≡ option_map f o) → option_map g o ≡ cond b (Some ys) (option_map f o)
written_case f g ys o true same other = same refl
written_case f g ys o false same other = other refl

pub other_frames : (f g : ℕ → List ℕ) (o : Option ℕ) → ((j : ℕ) → o ≡ Some j → g j ≡ f j) → option_map g o ≡ option_map f o
other_frames f g None h = refl
other_frames f g (Some j) h = ap Some (h j refl)

-- where one frame was written, the map differs at its page
pub pages_by-written : (f g : ℕ → List ℕ) (m : BTreeMap ℕ ℕ) (p i : ℕ) (ys : List ℕ) → tree.get nat_cmp m p ≡ Some i → g i ≡ ys → ((q j : ℕ) → q ≢ p → tree.get nat_cmp m q ≡ Some j → g j ≡ f j) → pages_by g m.entries ≡ insert (pages_by f m.entries) p ys
pages_by-written f g m p i ys at_p new others = same_map nat_cmp_total nat_cmp-IsAntisymmetric _ _ (λ q.
    get-pages_by g m.entries q
    ∙ written_case f g ys (tree.get nat_cmp m q) (is_at (nat_cmp q) p)
    (λ e. ap (option_map g) (ap (tree.get nat_cmp m) (nat_cmp-IsAntisymmetric q p (Equal-from_is_eq (nat_cmp q p) e)) ∙ at_p) ∙ ap Some new)
    (λ e. other_frames f g (tree.get nat_cmp m q) (λ j is. others q j (λ same. true_false (sym ((eq_by_cmp_equiv nat_cmp_total).refl p) ∙ ap (λ q. is_at (nat_cmp q) p) (sym same) ∙ e)) is))
    ∙ sym (get-insert nat_cmp_total (pages_by f m.entries) p ys q ∙ ap (cond (is_at (nat_cmp q) p) (Some ys)) (get-pages_by f m.entries q)))

pub inside_found : (frames : List ℕ) (m : BTreeMap ℕ ℕ) (p i : ℕ) → IsTable frames m → Some i ≡ tree.get nat_cmp m p → (p < 2 ^ 34) × (i + 4096 ≤ length frames)
inside_found frames m p i is e = subst (λ o. IfSome o (λ i. (p < 2 ^ 34) × (i + 4096 ≤ length frames))) (sym e) (is.inside p)

slots_apart : (i j : ℕ) → i % 4104 ≡ 24 → j % 4104 ≡ 24 → i < j → i + 4096 ≤ j
slots_apart i j at_i at_j less = omega (arith, at_i, at_j)

-- a frame ends before the next one begins
pub clear : (xs : List ℕ) (m : BTreeMap ℕ ℕ) (p q i j : ℕ) → IsTable xs m → tree.get nat_cmp m p ≡ Some i → tree.get nat_cmp m q ≡ Some j → i < j → i + 4096 ≤ j
clear xs m p q i j is at_p at_q = slots_apart i j (is.slots p i at_p) (is.slots q j at_q)

-- where the frame of one page is written, those of the others stay
pub other_page : (xs : List ℕ) (m : BTreeMap ℕ ℕ) (p i : ℕ) (ys : List ℕ) → IsTable xs m → tree.get nat_cmp m p ≡ Some i → length ys ≡ 4096 → (q j : ℕ) → q ≢ p → tree.get nat_cmp m q ≡ Some j → frame_in (put_frame xs i ys) j ≡ frame_in xs j
other_page xs m p i ys is at_p whole q j ne at_q =
    frame_in-put_other xs i j ys (inside_found xs m p i is (sym at_p)).1 whole (λ same. ne (is.apart q p j at_q (at_p ∙ ap Some (sym same)))) (clear xs m q p j i is at_q at_p) (clear xs m p q i j is at_p at_q)

pub IsBlock-frame_in : (xs : List ℕ) (i : ℕ) → i + 4096 ≤ length xs → AreBytes xs → IsBlock 4096 (frame_in xs i)
unfolding frame_in
IsBlock-frame_in xs i inside small = record {
  long = omega (arith, length-take 4096 (drop i xs), length-drop i xs);
  each = AreBytes-take 4096 (drop i xs) (AreBytes-drop i xs small);
}

-- a frame of a longer buffer
pub frame_in-append : (xs zs : List ℕ) (j : ℕ) → j + 4096 ≤ length xs → frame_in (xs ++ zs) j ≡ frame_in xs j
unfolding frame_in
frame_in-append xs zs j inside =
    let long : 4096 ≤ length (drop j xs) = omega (arith, length-drop j xs) in
    ap (take 4096) (drop-append-le j xs zs (omega (arith, inside))) ∙ take-append-le 4096 (drop j xs) zs long

-- the last frame
pub frame_in-last : (xs zs : List ℕ) (j : ℕ) → length xs ≡ j → length zs ≡ 4096 → frame_in (xs ++ zs) j ≡ zs
unfolding frame_in
frame_in-last xs zs j at_j whole = ap (take 4096) (drop_front xs zs j at_j) ∙ take_all_of zs 4096 whole
  where
    take_all_of : (xs : List ℕ) (n : ℕ) → length xs ≡ n → take n xs ≡ xs
    take_all_of xs n e = grind (arith, common_steps)
