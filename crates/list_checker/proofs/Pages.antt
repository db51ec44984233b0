-- Runs of pages, and the first page that passes a test.
use Rattle.std.proofs.Common.{◌≡◌, ℕ, suc, ◌+◌, ◌-◌, ◌<◌, ◌++◌, List, ◌∷◌, Some, None, Bool, true, false, refl, sym, ap, ◌∙◌, arith, length, drop}
use Rattle.std.specs.List.{find, range_with_len}
use Rattle.std.specs.Prelude.{slice_get}
use Rattle.std.specs.Option.{option_or}
use Rattle.std.proofs.lemmas.List.Folds.{find-append}
use Rattle.std.proofs.lemmas.Option.{get_or_from_slice_get, slice_get_within}
use Rattle.std.proofs.Common.{get_or, drop-cons}
use Rattle.std.proofs.lemmas.Grind.{common_steps}
use Rattle.segments.specs.Values.{SegmentValue, pages_of_segment, pages}

pub run_more : (n e : ℕ) → n < e → range_with_len n (e - n) ≡ n ∷ range_with_len (n + 1) (e - (n + 1))
run_more n e l =
    let a : e - n ≡ suc (e - (n + 1)) = omega (arith, l) in
    ap (range_with_len n) a

-- the first page of a run passes
pub found_here : (test : ℕ → Bool) (n e : ℕ) → n < e → test n ≡ true → find test (range_with_len n (e - n)) ≡ Some n
found_here test n e l t = let s = run_more n e l in rw s (rw t refl)

-- it does not
pub found_later : (test : ℕ → Bool) (n e : ℕ) → n < e → test n ≡ false → find test (range_with_len (n + 1) (e - (n + 1))) ≡ find test (range_with_len n (e - n))
found_later test n e l t = let s = run_more n e l in rw s (rw t refl)

pub found_front : (test : ℕ → Bool) (xs ys : List ℕ) (p : ℕ) → find test xs ≡ Some p → find test (xs ++ ys) ≡ Some p
found_front test xs ys p e = find-append test xs ys ∙ ap (λ o. option_or o (find test ys)) e

pub found_back : (test : ℕ → Bool) (xs ys : List ℕ) → find test xs ≡ None → find test (xs ++ ys) ≡ find test ys
found_back test xs ys e = find-append test xs ys ∙ ap (λ o. option_or o (find test ys)) e

pub drop_at : (ss : List SegmentValue) (i : ℕ) (s : SegmentValue) → i < length ss → s ≡ get_or ss i s → drop i ss ≡ s ∷ drop (i + 1) ss
drop_at ss i s l e = grind (arith, common_steps, drop-cons)

-- the first page outside is in the segment at i
pub found_in_segment : (test : ℕ → Bool) (ss : List SegmentValue) (i : ℕ) (s : SegmentValue) (p : ℕ) → i < length ss → s ≡ get_or ss i s → find test (pages_of_segment s) ≡ Some p → find test (pages (drop i ss)) ≡ Some p
found_in_segment test ss i s p l e f = ap (λ xs. find test (pages xs)) (drop_at ss i s l e) ∙ found_front test (pages_of_segment s) (pages (drop (i + 1) ss)) p f

pub found_past_segment : (test : ℕ → Bool) (ss : List SegmentValue) (i : ℕ) (s : SegmentValue) → i < length ss → s ≡ get_or ss i s → find test (pages_of_segment s) ≡ None → find test (pages (drop (i + 1) ss)) ≡ find test (pages (drop i ss))
found_past_segment test ss i s l e f = sym (ap (λ xs. find test (pages xs)) (drop_at ss i s l e) ∙ found_back test (pages_of_segment s) (pages (drop (i + 1) ss)) f)

-- the same, where the part is known by its place
pub got : (ss : List SegmentValue) (i : ℕ) (s : SegmentValue) → slice_get ss i ≡ Some s → s ≡ get_or ss i s
got ss i s e = sym (get_or_from_slice_get ss i s s e)

pub within : (ss : List SegmentValue) (i : ℕ) (s : SegmentValue) → slice_get ss i ≡ Some s → i < length ss
within ss i s e = slice_get_within ss i s e
