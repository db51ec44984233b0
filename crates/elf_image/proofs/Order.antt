-- Loads in the order of their addresses make the image of the loads in the file's order.
use Rattle.std.proofs.Common.{◌≡◌, ℕ, suc, ◌+◌, ◌-◌, ◌*◌, ◌^◌, ◌<◌, ◌≤◌, ◌&&◌, ◌||◌, List, [], ◌∷◌, length, get_or, Bool, true, false, cond, refl, sym, ap, ◌∙◌, inl, inr, arith}
use Rattle.std.specs.Prelude.{◌==◌, map}
use Rattle.std.specs.List.{list_any, range_with_len, AllByRecursion, All, count_by}
use Rattle.std.specs.List.Sorted.{IsPermutation, IsNonDecreasingBy}
use Rattle.std.proofs.lemmas.Bool.Decides.{nat_tests}
use Rattle.std.proofs.lemmas.Bool.{cases_lt, or_cases, or_left, and_parts, cond-true, eq-eqb, eqb-true, false≢true}
use Rattle.std.proofs.lemmas.List.Sorted.{All-permutation, list_any-IsPermutation, sum_by-IsPermutation}
use Rattle.std.proofs.lemmas.List.Sums.{sum_by-cons}
use Rattle.kx_pages.specs.Spans.{Run}
use Rattle.segments.specs.Values.{SegmentValue}
use Rattle.elf_image.specs.declared.load.Load.{Load}
use Rattle.elf_image.specs.Loads.{load_stop}
use Rattle.elf_image.specs.Image.{load_meets_page, is_met, is_file_of, is_file, byte_at, bytes_of, segment_of, segments_of, runs}
use Rattle.elf_image.specs.inner.Joined.{IsLoad, AreLoads, AreSound, is_memory_of, Rise, join}
use Rattle.elf_image.proofs.Joining.{each_at}
use Rattle.elf_image.proofs.Pages.{runs_same}
use Rattle.elf_image.proofs.Bytes.{byte_none, up_same, map_same, all_segments}

-- ---- each load, and how many have an address
by_index : (P : Load → Type 0) (ls : List Load) → All P ls → AllByRecursion P ls
by_index P [] h = tt
by_index P (l ∷ ls) h = (h 0 l (omega arith), by_index P ls (λ k d i. h (suc k) d (omega (arith, i))))

permuted_each : (n : ℕ) (ls ys : List Load) → IsPermutation ls ys → AreLoads n ls → AreLoads n ys
permuted_each n ls ys p g = by_index (IsLoad n) ys (All-permutation (IsLoad n) ls ys p (λ k d i. each_at (IsLoad n) ls k d g i))

pub count_cons : (a : ℕ) (l : Load) (ls : List Load) → count_by (is_memory_of a) (l ∷ ls) ≡ cond (is_memory_of a l) 1 0 + count_by (is_memory_of a) ls
count_cons a l ls = sum_by-cons (λ x. cond (is_memory_of a x) 1 0) l ls

count_here : (a : ℕ) (l : Load) (ls : List Load) → is_memory_of a l ≡ true → count_by (is_memory_of a) (l ∷ ls) ≡ 1 + count_by (is_memory_of a) ls
count_here a l ls h = count_cons a l ls ∙ ap (λ b. cond b 1 0 + count_by (is_memory_of a) ls) h

count_tail : (a : ℕ) (l : Load) (ls : List Load) → count_by (is_memory_of a) ls ≤ count_by (is_memory_of a) (l ∷ ls)
count_tail a l ls = omega (arith, count_cons a l ls)

-- ---- they rise
in_memory : (a : ℕ) (l : Load) → l.paddr ≤ a → a < load_stop l → is_memory_of a l ≡ true
in_memory a l h k = grind (arith, nat_tests)

abbrev StartsFrom : ℕ → List Load → Type 0
StartsFrom b [] = Unit {0}
StartsFrom b (l ∷ ls) = b ≤ l.paddr

apart_next : (n : ℕ) (x y : Load) (ls : List Load) → IsLoad n y → x.paddr ≤ y.paddr → ((a : ℕ) → count_by (is_memory_of a) (x ∷ y ∷ ls) ≤ 1) → load_stop x ≤ y.paddr
apart_next n x y ls g up one =
    elim (cases_lt y.paddr (load_stop x)) [
      | inr l ↦ l
      | inl l ↦ let some = g.some in
          let a = one y.paddr in
          let b = count_here y.paddr x (y ∷ ls) (in_memory y.paddr x up l) in
          let c = count_here y.paddr y ls (in_memory y.paddr y (omega arith) (omega arith)) in
          absurd (omega (arith, a, b, c))
    ]

rises : (n b : ℕ) (ys : List Load) → StartsFrom b ys → AreLoads n ys → IsNonDecreasingBy (λ (l : Load). l.paddr) ys → ((a : ℕ) → count_by (is_memory_of a) ys ≤ 1) → Rise b ys
rises n b [] s g up one = tt
rises n b (x ∷ []) s g up one = (s, tt)
rises n b (x ∷ y ∷ ls) s g up one =
    let first = up 0 1 x (omega arith) (omega arith) in
    (s, rises n (load_stop x) (y ∷ ls) (apart_next n x y ls g.1.0 first one) g.1 (λ i j d h k. up (suc i) (suc j) d (omega (arith, h)) (omega (arith, k))) (λ a. let c = count_tail a x (y ∷ ls) in let o = one a in omega (arith, c, o)))

starts : (ys : List Load) → StartsFrom 0 ys
starts [] = tt
starts (l ∷ ls) = omega arith

-- ---- the same bytes
abbrev value : List ℕ → ℕ → Load → ℕ
value file a l = get_or file (l.offset + (a - l.paddr)) 0

-- a load has address a in its file part, and v there
abbrev gives : List ℕ → ℕ → ℕ → Load → Bool
gives file a v l = is_file_of a l && (value file a l == v)

found_byte : (file : List ℕ) (ls : List Load) (a : ℕ) → is_file ls a ≡ true → list_any (gives file a (byte_at file ls a)) ls ≡ true
found_byte file [] a h = absurd (false≢true h)
found_byte file (l ∷ ls) a h = picked file ls a l (is_file_of a l) h (λ t. found_byte file ls a t)
  where
    picked : (file : List ℕ) (ls : List Load) (a : ℕ) (l : Load) (b : Bool) → (b || is_file ls a) ≡ true → (is_file ls a ≡ true → list_any (gives file a (byte_at file ls a)) ls ≡ true) → ((b && (value file a l == cond b (value file a l) (byte_at file ls a))) || list_any (gives file a (cond b (value file a l) (byte_at file ls a))) ls) ≡ true
    picked file ls a l true h ih = or_left _ _ (eq-eqb (value file a l) (value file a l) refl)
    picked file ls a l false h ih = ih h

file_in_memory : (n a : ℕ) (l : Load) → IsLoad n l → is_file_of a l ≡ true → is_memory_of a l ≡ true
file_in_memory n a l g h = let fits = g.fits in grind (arith, nat_tests)

some_there : (n : ℕ) (file : List ℕ) (ls : List Load) (a v : ℕ) → AreLoads n ls → list_any (gives file a v) ls ≡ true → 1 ≤ count_by (is_memory_of a) ls
some_there n file [] a v g h = absurd (false≢true h)
some_there n file (l ∷ ls) a v g h =
    elim (or_cases (gives file a v l) (list_any (gives file a v) ls) h) [
      | inl t ↦ let c = count_here a l ls (file_in_memory n a l g.0 (and_parts (is_file_of a l) (value file a l == v) t).0) in omega (arith, c)
      | inr t ↦ let c = count_tail a l ls in let d = some_there n file ls a v g.1 t in omega (arith, c, d)
    ]

only_byte : (n : ℕ) (file : List ℕ) (ls : List Load) (a v : ℕ) → AreLoads n ls → count_by (is_memory_of a) ls ≤ 1 → list_any (gives file a v) ls ≡ true → byte_at file ls a ≡ v
only_byte n file [] a v g one h = absurd (false≢true h)
only_byte n file (l ∷ ls) a v g one h =
    elim (or_cases (gives file a v l) (list_any (gives file a v) ls) h) [
      | inl t ↦ let p = and_parts (is_file_of a l) (value file a l == v) t in cond-true _ _ _ p.0 ∙ eqb-true _ _ p.1
      | inr t ↦ picked n file ls a v l g.0 (is_file_of a l) refl one (some_there n file ls a v g.1 t) (λ o. only_byte n file ls a v g.1 o t)
    ]
  where
    picked : (n : ℕ) (file : List ℕ) (ls : List Load) (a v : ℕ) (l : Load) → IsLoad n l → (b : Bool) → is_file_of a l ≡ b → count_by (is_memory_of a) (l ∷ ls) ≤ 1 → 1 ≤ count_by (is_memory_of a) ls → (count_by (is_memory_of a) ls ≤ 1 → byte_at file ls a ≡ v) → cond b (value file a l) (byte_at file ls a) ≡ v
    picked n file ls a v l g true e one more ih = let c = count_here a l ls (file_in_memory n a l g e) in absurd (omega (arith, c, one, more))
    picked n file ls a v l g false e one more ih = ih (let c = count_tail a l ls in omega (arith, c, one))

same_byte : (n : ℕ) (file : List ℕ) (ls ys : List Load) (a : ℕ) → IsPermutation ls ys → AreLoads n ys → count_by (is_memory_of a) ys ≤ 1 → byte_at file ys a ≡ byte_at file ls a
same_byte n file ls ys a p g one = picked n file ls ys a p g one (is_file ls a) refl
  where
    picked : (n : ℕ) (file : List ℕ) (ls ys : List Load) (a : ℕ) → IsPermutation ls ys → AreLoads n ys → count_by (is_memory_of a) ys ≤ 1 → (b : Bool) → is_file ls a ≡ b → byte_at file ys a ≡ byte_at file ls a
    picked n file ls ys a p g one true e = only_byte n file ys a (byte_at file ls a) g one (sym (list_any-IsPermutation (gives file a (byte_at file ls a)) ls ys p) ∙ found_byte file ls a e)
    picked n file ls ys a p g one false e = byte_none file ys a (sym (list_any-IsPermutation (is_file_of a) ls ys p) ∙ e) ∙ sym (byte_none file ls a e)

-- ---- the same image
same_bytes : (file : List ℕ) (ls ys : List Load) (a n : ℕ) → ((x : ℕ) → is_file ys x ≡ is_file ls x) → ((x : ℕ) → byte_at file ys x ≡ byte_at file ls x) → bytes_of file ys a n ≡ bytes_of file ls a n
same_bytes file ls ys a n h k =
    ap (λ i. map (byte_at file ys) (range_with_len a i)) (up_same (λ x. is_file ys (a + x)) (λ x. is_file ls (a + x)) n (λ x l. h (a + x)))
    ∙ map_same (byte_at file ys) (byte_at file ls) a _ (λ x l. k (a + x))

same_segments : (file : List ℕ) (ls ys : List Load) (rs : List Run) → ((x : ℕ) → is_file ys x ≡ is_file ls x) → ((x : ℕ) → byte_at file ys x ≡ byte_at file ls x) → map (segment_of file ys) rs ≡ map (segment_of file ls) rs
same_segments file ls ys [] h k = refl
same_segments file ls ys (r ∷ rs) h k =
    let P : List ℕ → SegmentValue = λ xs. record { bytes = xs; mem = 4096 * r.first; memsz = 4096 * r.count } in
    ap (λ xs. P xs ∷ map (segment_of file ys) rs) (same_bytes file ls ys (4096 * r.first) (4096 * r.count) h k)
    ∙ ap (λ ss. segment_of file ls r ∷ ss) (same_segments file ls ys rs h k)

pub sorted_each : (n : ℕ) (ls ys : List Load) → AreSound n ls → IsPermutation ls ys → AreLoads n ys
sorted_each n ls ys s p = permuted_each n ls ys p s.each

-- the loads of a file, in the order of their addresses, make its segments
pub sorted_segments : (file : List ℕ) (ls ys : List Load) → AreSound (length file) ls → IsPermutation ls ys → IsNonDecreasingBy (λ (l : Load). l.paddr) ys → join file ys ≡ segments_of file ls
sorted_segments file ls ys s p up =
    let g = permuted_each (length file) ls ys p s.each in
    let one : (a : ℕ) → count_by (is_memory_of a) ys ≤ 1 = λ a. let e = sum_by-IsPermutation (λ x. cond (is_memory_of a x) 1 0) ls ys p in let o = s.apart a in omega (arith, e, o) in
    all_segments file ys (rises (length file) 0 ys (starts ys) g up one) g
    ∙ ap (map (segment_of file ys)) (runs_same (is_met ys) (is_met ls) 0 (2 ^ 34) (λ q. sym (list_any-IsPermutation (load_meets_page q) ls ys p)))
    ∙ same_segments file ls ys (runs (is_met ls) 0 (2 ^ 34)) (λ x. sym (list_any-IsPermutation (is_file_of x) ls ys p)) (λ x. same_byte (length file) file ls ys x p g (one x))
