-- Where memory has what is wanted of a segment, the segment's bytes stand there and zeros behind them: so the table and
-- the digest that stand among them stand in memory.
use Rattle.std.proofs.Common.{◌≡◌, ℕ, zero, suc, ◌+◌, ◌-◌, ◌*◌, ◌/◌, ◌<◌, ◌≤◌, ◌++◌, List, [], ◌∷◌, true, false, cond, Some, refl, sym, ap, ◌∙◌, subst, inl, inr, arith, length, take, drop, append_assoc, append-nil, length-drop, take-append-drop}
use Rattle.std.specs.Prelude.{slice_get, replicate}
use Rattle.std.proofs.lemmas.Bool.Decides.{nat_tests}
use Rattle.std.proofs.lemmas.Bool.{cases_lt, false_from_ne_true}
use Rattle.std.proofs.lemmas.List.{drop-drop, replicate-append-replicate, take_all, drop_all, take-append-le, drop-append-le}
use Rattle.kx_laws.proofs.Lists.{take_front, drop_front}
use Rattle.kx_laws.proofs.Options.{some_same}
use Rattle.kx_pages.specs.Lists.{Has}
use Rattle.kx_fields.specs.Fields.{zeros, bytes_at}
use Rattle.kx_pages.specs.Bytes.{Mem, page_of}
use Rattle.segments.specs.Values.{SegmentValue, is_page_of_segment, bytes_from, want, pages, pages_of_segment}
use Rattle.segments.specs.Rules.{overlap_each_other}
use Rattle.segments.specs.inner.Rules.{IsBare}
use Rattle.kx_pages.proofs.Lists.{range-Has, Has-left, Has-right, Has-either, Each-slice_get}
use Rattle.segments.specs.inner.Shape.{IsPlaced, Apart}
use Rattle.segments.proofs.Laws.{AreSegments-from_IsBare, pages-append}
use Rattle.kx_pages.proofs.Bytes.{length-page_of}
use Rattle.purgatory_link.specs.declared.region_test.RegionTest.TheVariants as answers
use Rattle.purgatory_link.specs.Regions.{others}
use Rattle.page_memory.specs.Addresses.{bytes_in}
use Rattle.purgatory_link.specs.RegionTest.{test}
use Rattle.purgatory_link.specs.inner.Tie.{HasRegions, HasWanted}
use Rattle.page_memory.proofs.Addresses.{bytes_in-both, length-bytes_in}
use Rattle.purgatory_link.proofs.Tying.{page_bytes_in, same_where_digested}

-- ---- a page is of one segment
pub one_page : (r t : SegmentValue) (p : ℕ) → overlap_each_other r t ≡ false → is_page_of_segment t p ≡ true → is_page_of_segment r p ≡ true → ⊥
one_page r t p o e f = grind (arith, nat_tests)

want_of : (ss : List SegmentValue) (g : ℕ) (s : SegmentValue) (p : ℕ) → Apart ss → slice_get ss g ≡ Some s → is_page_of_segment s p ≡ true → want ss p ≡ Some (page_of (bytes_from s p))
want_of [] g s p a e h = cc
want_of (t ∷ ss) zero s p a e h =
    let same : s ≡ t = cc in
    subst (λ x. want (x ∷ ss) p ≡ Some (page_of (bytes_from s p))) same (ap (λ b. cond b (Some (page_of (bytes_from s p))) (want ss p)) h)
want_of (t ∷ ss) (suc g) s p a e h =
    let o : overlap_each_other s t ≡ false = Each-slice_get (λ r. overlap_each_other r t ≡ false) ss g s a.0 e in
    let other : is_page_of_segment t p ≡ false = false_from_ne_true (is_page_of_segment t p) (λ f. one_page s t p o f h) in
    ap (λ b. cond b (Some (page_of (bytes_from t p))) (want ss p)) other ∙ want_of ss g s p a.1 e h

-- ---- pages one after another are the bytes, and zeros
joined_pages : (xs : List ℕ) (n : ℕ) → length xs ≤ 4096 * suc n → page_of xs ++ (drop 4096 xs ++ zeros (4096 * n - length (drop 4096 xs))) ≡ xs ++ zeros (4096 * suc n - length xs)
unfolding page_of zeros
joined_pages xs n few =
    let tail : List ℕ = replicate (4096 * n - length (drop 4096 xs)) 0 in
    let long = length-drop 4096 xs in
    elim (cases_lt 4096 (length xs)) [
      | inl l ↦
          let none : 4096 - length xs ≡ 0 = omega (arith, l) in
          let left : 4096 * n - length (drop 4096 xs) ≡ 4096 * suc n - length xs = omega (arith, long, l) in
          ap (λ m. (take 4096 xs ++ replicate m 0) ++ (drop 4096 xs ++ tail)) none
          ∙ ap (λ ys. ys ++ (drop 4096 xs ++ tail)) (append-nil (take 4096 xs))
          ∙ sym (append_assoc (take 4096 xs) (drop 4096 xs) tail)
          ∙ ap (λ ys. ys ++ tail) (take-append-drop 4096 xs)
          ∙ ap (λ m. xs ++ replicate m 0) left
      | inr l ↦
          let all : take 4096 xs ≡ xs = take_all 4096 xs l in
          let none : drop 4096 xs ≡ [] = drop_all 4096 xs l in
          let left : 4096 * n - length (drop 4096 xs) ≡ 4096 * n = omega (arith, long, l) in
          let sum : 4096 - length xs + 4096 * n ≡ 4096 * suc n - length xs = omega (arith, l) in
          ap (λ ys. (ys ++ replicate (4096 - length xs) 0) ++ (drop 4096 xs ++ tail)) all
          ∙ ap (λ m. (xs ++ replicate (4096 - length xs) 0) ++ (drop 4096 xs ++ replicate m 0)) left
          ∙ ap (λ ys. (xs ++ replicate (4096 - length xs) 0) ++ (ys ++ replicate (4096 * n) 0)) none
          ∙ append_assoc xs (replicate (4096 - length xs) 0) (replicate (4096 * n) 0)
          ∙ ap (λ ys. xs ++ ys) (replicate-append-replicate (4096 - length xs) (4096 * n) 0)
          ∙ ap (λ m. xs ++ replicate m 0) sum
    ]

filled_pages : (M : Mem) (n q : ℕ) (xs : List ℕ) → length xs ≤ 4096 * n → ((k : ℕ) → k < n → M (q + k) ≡ page_of (drop (4096 * k) xs)) → bytes_in M (4096 * q) (4096 * n) ≡ xs ++ zeros (4096 * n - length xs)
unfolding bytes_in zeros
filled_pages M zero q [] few h = refl
filled_pages M zero q (x ∷ xs) few h = absurd (omega (arith, few))
filled_pages M (suc n) q xs few h =
    let split : 4096 * suc n ≡ 4096 + 4096 * n = omega arith in
    let next : 4096 * q + 4096 ≡ 4096 * (q + 1) = omega arith in
    let here : q ≡ q + 0 = omega arith in
    let first : M q ≡ page_of xs = ap M here ∙ h 0 (omega arith) in
    let whole : length (M q) ≡ 4096 = ap length first ∙ length-page_of xs in
    let rest = filled_pages M n (q + 1) (drop 4096 xs) (omega (arith, few, length-drop 4096 xs)) (λ k l. behind k l) in
    ap (bytes_in M (4096 * q)) split
    ∙ bytes_in-both M (4096 * q) 4096 (4096 * n)
    ∙ ap (λ ys. ys ++ bytes_in M (4096 * q + 4096) (4096 * n)) (page_bytes_in M q whole)
    ∙ ap (λ a. M q ++ bytes_in M a (4096 * n)) next
    ∙ ap (λ ys. M q ++ ys) rest
    ∙ ap (λ ys. ys ++ (drop 4096 xs ++ zeros (4096 * n - length (drop 4096 xs)))) first
    ∙ joined_pages xs n few
  where
    behind : (k : ℕ) → k < n → M (q + 1 + k) ≡ page_of (drop (4096 * k) (drop 4096 xs))
    behind k l =
        let place : q + 1 + k ≡ q + (k + 1) = omega arith in
        let more : 4096 * (k + 1) ≡ 4096 + 4096 * k = omega arith in
        ap M place ∙ h (k + 1) (omega (arith, l)) ∙ ap (λ m. page_of (drop m xs)) more ∙ ap page_of (sym (drop-drop (4096 * k) 4096 xs))

-- ---- the bytes of a segment in memory
pub segment_bytes : (M : Mem) (ss : List SegmentValue) (g : ℕ) (s : SegmentValue) → IsBare ss → slice_get ss g ≡ Some s → ((p : ℕ) → Has p (pages_of_segment s) → want ss p ≡ Some (M p)) → bytes_in M s.mem s.memsz ≡ s.bytes ++ zeros (s.memsz - length s.bytes)
segment_bytes M ss g s bare e h =
    let all = AreSegments-from_IsBare ss bare in
    let k = Each-slice_get IsPlaced ss g s all.placed e in
    let fit = Each-slice_get (λ r. length r.bytes ≤ r.memsz) ss g s all.fit e in
    let q = s.mem / 4096 in
    let n = s.memsz / 4096 in
    let m : s.mem ≡ 4096 * q = omega (arith, k.starts) in
    let z : s.memsz ≡ 4096 * n = omega (arith, k.whole) in
    ap (λ a. bytes_in M a s.memsz) m
    ∙ ap (bytes_in M (4096 * q)) z
    ∙ filled_pages M n q s.bytes (omega (arith, fit, z)) (λ j l. page k j l)
    ∙ ap (λ w. s.bytes ++ zeros (w - length s.bytes)) (sym z)
  where
    page : IsPlaced s → (j : ℕ) → j < s.memsz / 4096 → M (s.mem / 4096 + j) ≡ page_of (drop (4096 * j) s.bytes)
    page k j l =
        let p = s.mem / 4096 + j in
        let low : s.mem ≤ 4096 * p = omega (arith, k.starts) in
        let high : 4096 * p < s.mem + s.memsz = omega (arith, l, k.starts, k.whole) in
        let is : is_page_of_segment s p ≡ true = grind (arith, nat_tests) in
        let has : Has p (pages_of_segment s) = range-Has (s.memsz / 4096) (s.mem / 4096) p (omega arith) (omega (arith, l)) in
        let at : 4096 * p - s.mem ≡ 4096 * j = omega (arith, k.starts) in
        some_same (M p) (page_of (bytes_from s p)) (sym (h p has) ∙ want_of ss g s p (AreSegments-from_IsBare ss bare).apart e is)
        ∙ ap (λ m. page_of (drop m s.bytes)) at

-- those n of them that begin at an address
pub bytes_inside : (M : Mem) (s : SegmentValue) (r n : ℕ) → bytes_in M s.mem s.memsz ≡ s.bytes ++ zeros (s.memsz - length s.bytes) → length s.bytes ≤ s.memsz → s.mem ≤ r → r + n ≤ s.mem + length s.bytes → bytes_in M r n ≡ bytes_at (r - s.mem) n s.bytes
bytes_inside M s r n are fit low high =
    let a = r - s.mem in
    let rest = s.memsz - (a + n) in
    let z = zeros (s.memsz - length s.bytes) in
    let start : r ≡ s.mem + a = omega (arith, low) in
    let split : s.memsz ≡ a + (n + rest) = omega (arith, low, high, fit) in
    let front = bytes_in M s.mem a in
    let mine = bytes_in M (s.mem + a) n in
    let behind = bytes_in M (s.mem + a + n) rest in
    let parts : s.bytes ++ z ≡ front ++ (mine ++ behind) = sym are ∙ ap (bytes_in M s.mem) split ∙ bytes_in-both M s.mem a (n + rest) ∙ ap (λ ys. front ++ ys) (bytes_in-both M (s.mem + a) n rest) in
    let far : a ≤ length s.bytes = omega (arith, low, high) in
    let left : n ≤ length (drop a s.bytes) = omega (arith, low, high, length-drop a s.bytes) in
    ap (λ x. bytes_in M x n) start
    ∙ sym (take_front mine behind n (length-bytes_in M (s.mem + a) n))
    ∙ ap (take n) (sym (drop_front front (mine ++ behind) a (length-bytes_in M s.mem a)))
    ∙ ap (λ ys. take n (drop a ys)) (sym parts)
    ∙ ap (take n) (drop-append-le a s.bytes z far)
    ∙ take-append-le n (drop a s.bytes) z left

-- ---- the test of a memory that has what is wanted
pub others_are : (ss : List SegmentValue) (g p : ℕ) → Has p (pages (others ss g)) → Has p (pages ss)
others_are ss g p h =
    elim (Has-either p (pages (take g ss)) (pages (drop (g + 1) ss)) (subst (Has p) (pages-append (take g ss) (drop (g + 1) ss)) h)) [
      | inl i ↦ subst (Has p) (sym (pages-append (take g ss) (drop g ss)) ∙ ap pages (take-append-drop g ss)) (Has-left p (pages (take g ss)) (pages (drop g ss)) i)
      | inr i ↦ subst (Has p) (sym (pages-append (take (g + 1) ss) (drop (g + 1) ss)) ∙ ap pages (take-append-drop (g + 1) ss)) (Has-right p (pages (take (g + 1) ss)) (pages (drop (g + 1) ss)) i)
    ]

pages_here : (ss : List SegmentValue) (g p : ℕ) (s : SegmentValue) → slice_get ss g ≡ Some s → Has p (pages_of_segment s) → Has p (pages ss)
pages_here [] g p s e h = cc
pages_here (t ∷ ss) zero p s e h = let same : s ≡ t = cc in Has-left p (pages_of_segment t) (pages ss) (subst (λ x. Has p (pages_of_segment x)) same h)
pages_here (t ∷ ss) (suc g) p s e h = Has-right p (pages_of_segment t) (pages ss) (pages_here ss g p s e h)

pub same_where_wanted : (M : Mem) (ss : List SegmentValue) (g r t : ℕ) (s : SegmentValue) → IsBare ss → HasRegions ss g s r t → HasWanted M ss → test M r t ≡ answers.Same
same_where_wanted M ss g r t s bare has wanted =
    let all = AreSegments-from_IsBare ss bare in
    let k = Each-slice_get IsPlaced ss g s all.placed has.segment in
    let fit = Each-slice_get (λ r. length r.bytes ≤ r.memsz) ss g s all.fit has.segment in
    let are = segment_bytes M ss g s bare has.segment (λ p i. wanted p (pages_here ss g p s has.segment i)) in
    same_where_digested M ss g r t bare
    (record {
      each_page = λ p i. wanted p (others_are ss g p i);
      table_stands = bytes_inside M s r 256 are fit has.table_low has.table_high ∙ has.table;
      digest_stands = bytes_inside M s t 32 are fit has.digest_low has.digest_high ∙ has.digest;
      table_inside = omega (arith, has.table_high, fit, k.below);
      digest_inside = omega (arith, has.digest_high, fit, k.below);
    })
