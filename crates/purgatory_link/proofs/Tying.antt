-- A memory that holds what was digested passes the test.
use Rattle.std.proofs.Common.{◌≡◌, ℕ, zero, suc, ◌+◌, ◌-◌, ◌*◌, ◌/◌, ◌%◌, ◌^◌, ◌<◌, ◌≤◌, ◌++◌, List, [], ◌∷◌, Bool, true, false, Some, None, refl, sym, ap, ◌∙◌, subst, inl, inr, arith, length, take, drop, map, get_or, append_assoc, length-append}
use Rattle.std.specs.Prelude.{◌||◌, nat_lt, unwrap_or, replicate}
use Rattle.std.specs.List.{flat_map, range_with_len, sum_by, AllByRecursion}
use Rattle.std.proofs.lemmas.Bool.Decides.{nat_tests}
use Rattle.std.proofs.lemmas.List.{append-nil, take-append-drop, drop-drop, length-drop, length-take, length-replicate, replicate-append-replicate, take_all}
use Rattle.std.proofs.lemmas.List.FromFn.{length-range_with_len}
use Rattle.std.proofs.lemmas.List.Sums.{sum_by-take-le, sum_by-cons}
use Rattle.std.proofs.lemmas.Grind.{flat_map-append}
use Rattle.std.proofs.lemmas.Slice.Eq.{bytes_eq-Decides}
use Rattle.byteorder.specs.Endian.{little_bytes}
use Rattle.byteorder.specs.Numbers.{little_number-reads_back, length-bytes_low_first}
use Rattle.sha2.specs.Sha256.{sha256}
use Rattle.kx_pages.specs.Lists.{Has}
use Rattle.kx_fields.specs.Fields.{zeros, field}
use Rattle.kx_fields.proofs.Fields.{field_behind}
use Rattle.kx_pages.specs.Bytes.{Mem, Wants}
use Rattle.segments.specs.Values.{SegmentValue, want, pages, pages_of_segment}
use Rattle.segments.specs.inner.Rules.{IsBare}
use Rattle.kx_pages.proofs.Lists.{Each-append, Each-left, Each-right, Has-left, Has-right}
use Rattle.segments.specs.inner.Shape.{IsPlaced}
use Rattle.segments.proofs.Laws.{AreSegments-from_IsBare, pages-append}
use Rattle.purgatory_link.proofs.Wanted.{length-want}
use Rattle.purgatory_link.specs.declared.region_test.RegionTest.TheVariants as answers
use Rattle.purgatory_link.specs.Regions.{others, wanted_bytes, digest, row, region_table}
use Rattle.page_memory.specs.Addresses.{bytes_in}
use Rattle.purgatory_link.specs.RegionTest.{Region, nowhere, region, regions, regions_in, passes, is_wild, first_wild_region, verdict, unless_wild, test_table, test}
use Rattle.purgatory_link.specs.inner.Tie.{HoldsDigested}
use Rattle.purgatory_link.proofs.Digesting.{length-row, wanted_both}
use Rattle.page_memory.proofs.Addresses.{bytes_in-both, bytes_in-page}
use Rattle.purgatory_link.proofs.Testing.{first_none, test_inside}

abbrev region_of : SegmentValue → Region
region_of s = record { start = s.mem; size = s.memsz }

abbrev nothing : SegmentValue
nothing = record { bytes = []; mem = 0; memsz = 0 }

-- a row, and all rows, read back
row_read : (s : SegmentValue) (rest front table : List ℕ) (k : ℕ) → IsPlaced s → length front ≡ 16 * k → table ≡ front ++ (row s ++ rest) → region table k ≡ region_of s
row_read s rest front table k p long e =
    let a = little_bytes 8 s.mem in
    let b = little_bytes 8 s.memsz in
    let low : s.mem < 18446744073709551616 = omega (arith, p.below) in
    let high : s.memsz < 18446744073709551616 = omega (arith, p.below) in
    let long2 : length (front ++ a) ≡ 16 * k + 8 = omega (arith, length-append front a, length-bytes_low_first 0 8 s.mem, long) in
    let at_row : table ≡ front ++ (a ++ (b ++ rest)) = e ∙ ap (λ xs. front ++ xs) (append_assoc a b rest) in
    let one : field (16 * k) 8 table ≡ s.mem =
    ap (field (16 * k) 8) at_row ∙ field_behind (16 * k) 8 front (a ++ (b ++ rest)) long ∙ little_number-reads_back 8 s.mem (b ++ rest) low in
    let two : field (16 * k + 8) 8 table ≡ s.memsz =
    ap (field (16 * k + 8) 8) (at_row ∙ sym (append_assoc front a (b ++ rest))) ∙ field_behind (16 * k + 8) 8 (front ++ a) (b ++ rest) long2 ∙ little_number-reads_back 8 s.memsz rest high in
    let F : ℕ → Region = λ x. record { start = x; size = field (16 * k + 8) 8 table } in
    let G : ℕ → Region = λ y. record { start = s.mem; size = y } in
    ap F one ∙ ap G two

rows_read : (us : List SegmentValue) (front table : List ℕ) (k : ℕ) → AllByRecursion IsPlaced us → length front ≡ 16 * k → table ≡ front ++ flat_map row us → map (region table) (range_with_len k (length us)) ≡ map region_of us
rows_read [] front table k h long e = refl
rows_read (s ∷ us) front table k h long e =
    let rest = flat_map row us in
    let head = row_read s rest front table k h.0 long e in
    let long2 : length (front ++ row s) ≡ 16 * (k + 1) = omega (arith, length-append front (row s), length-row s, long) in
    let tail = rows_read us (front ++ row s) table (k + 1) h.1 long2 (e ∙ sym (append_assoc front (row s) rest)) in
    ap (λ (r : Region). r ∷ map (region table) (range_with_len (k + 1) (length us))) head ∙ ap (λ (rs : List Region). region_of s ∷ rs) tail

-- the rows behind the last are those of no memory
with_padding : List SegmentValue → List SegmentValue
with_padding ts = ts ++ replicate (16 - length ts) nothing

rows_nothing : (n : ℕ) → flat_map row (replicate n nothing) ≡ zeros (16 * n)
unfolding zeros
rows_nothing zero = refl
rows_nothing (suc n) =
    let e : 16 + 16 * n ≡ 16 * suc n = omega arith in
    ap (λ zs. row nothing ++ zs) (rows_nothing n) ∙ replicate-append-replicate 16 (16 * n) 0 ∙ ap (λ k. replicate k 0) e

table_rows : (ts : List SegmentValue) → length ts ≤ 16 → region_table ts ≡ flat_map row (with_padding ts)
unfolding region_table with_padding
table_rows ts few =
    let n = 16 - length ts in
    let e : 256 - 16 * length ts ≡ 16 * n = omega arith in
    ap (λ k. flat_map row ts ++ zeros k) e ∙ ap (λ zs. flat_map row ts ++ zs) (sym (rows_nothing n)) ∙ sym (flat_map-append row ts (replicate n nothing))

length-padded : (ts : List SegmentValue) → length ts ≤ 16 → length (with_padding ts) ≡ 16
unfolding with_padding
length-padded ts few = omega (arith, length-append ts (replicate (16 - length ts) nothing), length-replicate {A = SegmentValue} (16 - length ts) nothing)

placed_nothing : (n : ℕ) → AllByRecursion IsPlaced (replicate n nothing)
placed_nothing zero = tt
placed_nothing (suc n) = (record { starts = refl; whole = refl; below = omega arith }, placed_nothing n)

placed_padded : (ts : List SegmentValue) → AllByRecursion IsPlaced ts → AllByRecursion IsPlaced (with_padding ts)
unfolding with_padding
placed_padded ts h = Each-append IsPlaced ts (replicate (16 - length ts) nothing) h (placed_nothing (16 - length ts))

pages_nothing : (n : ℕ) → pages (replicate n nothing) ≡ []
pages_nothing zero = refl
pages_nothing (suc n) = pages_nothing n

pages_padded : (ts : List SegmentValue) → pages (with_padding ts) ≡ pages ts
unfolding with_padding
pages_padded ts = pages-append ts (replicate (16 - length ts) nothing) ∙ ap (λ ps. pages ts ++ ps) (pages_nothing (16 - length ts)) ∙ append-nil (pages ts)

regions_are : (ts : List SegmentValue) → length ts ≤ 16 → AllByRecursion IsPlaced ts → regions (region_table ts) ≡ map region_of (with_padding ts)
unfolding regions
regions_are ts few h =
    ap (λ n. map (region (region_table ts)) (range_with_len 0 n)) (sym (length-padded ts few)) ∙ rows_read (with_padding ts) [] (region_table ts) 0 (placed_padded ts h) refl (table_rows ts few)

-- none of them is wild
sizes_are : (us : List SegmentValue) → AllByRecursion IsPlaced us → sum_by (λ (r : Region). r.size) (map region_of us) ≡ 4096 * length (pages us)
sizes_are [] h = refl
sizes_are (s ∷ us) h =
    let first = sum_by-cons (λ (r : Region). r.size) (region_of s) (map region_of us) in
    omega (arith, first, sizes_are us h.1, length-append (pages_of_segment s) (pages us), length-range_with_len (s.mem / 4096) (s.memsz / 4096), h.0.whole)

ends_inside : (us : List SegmentValue) (i : ℕ) → AllByRecursion IsPlaced us → (get_or (map region_of us) i nowhere).start + (get_or (map region_of us) i nowhere).size ≤ 2 ^ 46
ends_inside [] zero h = omega arith
ends_inside [] (suc i) h = omega arith
ends_inside (s ∷ us) zero h = omega (arith, h.0.below)
ends_inside (s ∷ us) (suc i) h = ends_inside us i h.1

none_is_wild : (us : List SegmentValue) (i : ℕ) → AllByRecursion IsPlaced us → length (pages us) ≤ 65536 → is_wild (map region_of us) i ≡ false
none_is_wild us i h few =
    let rs = map region_of us in
    let ends = ends_inside us i h in
    let one : nat_lt (2 ^ 46) ((get_or rs i nowhere).start + (get_or rs i nowhere).size) ≡ false = grind (arith, nat_tests) in
    let sum : sum_by (λ (r : Region). r.size) (take (i + 1) rs) ≤ 2 ^ 28 = omega (arith, sum_by-take-le (λ (r : Region). r.size) rs (i + 1), sizes_are us h, few) in
    let two : nat_lt (2 ^ 28) (sum_by (λ (r : Region). r.size) (take (i + 1) rs)) ≡ false = grind (arith, nat_tests) in
    both _ _ one two
  where
    both : (a b : Bool) → a ≡ false → b ≡ false → (a || b) ≡ false
    both false b e f = f
    both true b e f = e

-- what memory holds of them is what is wanted of their pages
pub page_bytes_in : (M : Mem) (q : ℕ) → length (M q) ≡ 4096 → bytes_in M (4096 * q) 4096 ≡ M q
page_bytes_in M q whole =
    let page : 4096 * q / 4096 ≡ q = omega arith in
    let place : 4096 * q % 4096 ≡ 0 = omega arith in
    sym (bytes_in-page M (4096 * q) 4096 (omega (arith, place)) (ap (λ x. length (M x)) page ∙ whole))
    ∙ ap (λ r. take 4096 (drop r (M (4096 * q / 4096)))) place
    ∙ ap (λ x. take 4096 (M x)) page
    ∙ take_all 4096 (M q) (omega (arith, whole))

record Right (W : Wants) (M : Mem) (p : ℕ) : Type 0 where
  is : W p ≡ Some (M p)
  whole : length (M p) ≡ 4096

run_bytes : (W : Wants) (M : Mem) (n q : ℕ) → ((p : ℕ) → Has p (range_with_len q n) → Right W M p) → bytes_in M (4096 * q) (4096 * n) ≡ wanted_bytes W (range_with_len q n)
unfolding bytes_in wanted_bytes
run_bytes W M zero q h = refl
run_bytes W M (suc n) q h =
    let split : 4096 * suc n ≡ 4096 + 4096 * n = omega arith in
    let next : 4096 * q + 4096 ≡ 4096 * (q + 1) = omega arith in
    let here = h q (inl refl) in
    ap (bytes_in M (4096 * q)) split
    ∙ bytes_in-both M (4096 * q) 4096 (4096 * n)
    ∙ ap (λ xs. xs ++ bytes_in M (4096 * q + 4096) (4096 * n)) (page_bytes_in M q here.whole)
    ∙ ap (λ a. M q ++ bytes_in M a (4096 * n)) next
    ∙ ap (λ xs. M q ++ xs) (run_bytes W M n (q + 1) (λ p i. h p (inr i)))
    ∙ ap (λ o. unwrap_or o [] ++ wanted_bytes W (range_with_len (q + 1) n)) (sym here.is)

part_bytes : (W : Wants) (M : Mem) (s : SegmentValue) → IsPlaced s → ((p : ℕ) → Has p (pages_of_segment s) → Right W M p) → bytes_in M s.mem s.memsz ≡ wanted_bytes W (pages_of_segment s)
part_bytes W M s k h =
    let m : s.mem ≡ 4096 * (s.mem / 4096) = omega (arith, k.starts) in
    let z : s.memsz ≡ 4096 * (s.memsz / 4096) = omega (arith, k.whole) in
    ap (λ a. bytes_in M a s.memsz) m ∙ ap (bytes_in M (4096 * (s.mem / 4096))) z ∙ run_bytes W M (s.memsz / 4096) (s.mem / 4096) h

parts_bytes : (W : Wants) (M : Mem) (us : List SegmentValue) → AllByRecursion IsPlaced us → ((p : ℕ) → Has p (pages us) → Right W M p) → regions_in M (map region_of us) ≡ wanted_bytes W (pages us)
unfolding regions_in wanted_bytes
parts_bytes W M [] k h = refl
parts_bytes W M (s ∷ us) k h =
    ap (λ xs. xs ++ regions_in M (map region_of us)) (part_bytes W M s k.0 (λ p i. h p (Has-left p (pages_of_segment s) (pages us) i)))
    ∙ ap (λ xs. wanted_bytes W (pages_of_segment s) ++ xs) (parts_bytes W M us k.1 (λ p i. h p (Has-right p (pages_of_segment s) (pages us) i)))
    ∙ sym (wanted_both W (pages_of_segment s) (pages us))

-- all segments but one are segments
placed_others : (ss : List SegmentValue) (g : ℕ) → AllByRecursion IsPlaced ss → AllByRecursion IsPlaced (others ss g)
placed_others ss g h =
    Each-append IsPlaced (take g ss) (drop (g + 1) ss)
    (Each-left IsPlaced (take g ss) (drop g ss) (subst (AllByRecursion IsPlaced) (sym (take-append-drop g ss)) h))
    (Each-right IsPlaced (take (g + 1) ss) (drop (g + 1) ss) (subst (AllByRecursion IsPlaced) (sym (take-append-drop (g + 1) ss)) h))

pub few_others : (ss : List SegmentValue) (g : ℕ) → length ss ≤ 16 → length (others ss g) ≤ 16
few_others ss g h = omega (arith, length-append (take g ss) (drop (g + 1) ss), length-take g ss, length-drop (g + 1) ss)

tail_pages : (xs : List SegmentValue) → length (pages (drop 1 xs)) ≤ length (pages xs)
tail_pages [] = omega arith
tail_pages (s ∷ xs) = omega (arith, length-append (pages_of_segment s) (pages xs))

pages_others : (ss : List SegmentValue) (g : ℕ) → length (pages (others ss g)) ≤ length (pages ss)
pages_others ss g =
    let whole = ap (λ xs. length (pages xs)) (take-append-drop g ss) in
    let split = ap length (pages-append (take g ss) (drop g ss)) in
    let sum = length-append (pages (take g ss)) (pages (drop g ss)) in
    let split2 = ap length (pages-append (take g ss) (drop (g + 1) ss)) in
    let sum2 = length-append (pages (take g ss)) (pages (drop (g + 1) ss)) in
    let tail = tail_pages (drop g ss) in
    let next = ap (λ xs. length (pages xs)) (drop-drop 1 g ss) in
    omega (arith, whole, split, sum, split2, sum2, tail, next)

same_digest : (d : List ℕ) → verdict d d ≡ answers.Same
same_digest d = rw ((bytes_eq-Decides d d).1 refl) refl

table_same : (M : Mem) (rs : List Region) (d : List ℕ) → None ≡ first_wild_region rs → sha256 (regions_in M rs) ≡ d → unless_wild (first_wild_region rs) (sha256 (regions_in M rs)) d ≡ answers.Same
table_same M rs d none e =
    ap (λ o. unless_wild o (sha256 (regions_in M rs)) d) (sym none) ∙ ap (λ x. verdict x d) e ∙ same_digest d

-- where the table and the digest are those of the segments, and memory holds what is wanted
digest_is_same : (M : Mem) (ss : List SegmentValue) (g : ℕ) → IsBare ss → ((p : ℕ) → Has p (pages (others ss g)) → want ss p ≡ Some (M p)) → test_table M (region_table (others ss g)) (digest ss g) ≡ answers.Same
unfolding test_table digest
digest_is_same M ss g bare h =
    let all = AreSegments-from_IsBare ss bare in
    let ts = others ss g in
    let us = with_padding ts in
    let rs = map region_of us in
    let W = want ss in
    let few = few_others ss g all.few in
    let placed = placed_others ss g all.placed in
    let placed_us = placed_padded ts placed in
    let small : length (pages us) ≤ 65536 = omega (arith, ap length (pages_padded ts), pages_others ss g, all.small) in
    let right : (p : ℕ) → Has p (pages us) → Right W M p = λ p i.
    let e = h p (subst (Has p) (pages_padded ts) i) in
    record { is = e; whole = length-want ss p (M p) e } in
    let bytes : regions_in M rs ≡ wanted_bytes W (pages ts) = parts_bytes W M us placed_us right ∙ ap (wanted_bytes W) (pages_padded ts) in
    let none : None ≡ first_wild_region rs = first_none rs (λ k _. none_is_wild us k placed_us small) in
    ap (λ (qs : List Region). unless_wild (first_wild_region qs) (sha256 (regions_in M qs)) (sha256 (wanted_bytes W (pages ts)))) (regions_are ts few placed)
    ∙ table_same M rs (sha256 (wanted_bytes W (pages ts))) none (ap sha256 bytes)

not_past : (a n : ℕ) → a + n ≤ 2 ^ 46 → passes a n ≡ false
not_past a n h = grind (arith, nat_tests)

pub same_where_digested : (M : Mem) (ss : List SegmentValue) (g r t : ℕ) → IsBare ss → HoldsDigested M ss g r t → test M r t ≡ answers.Same
same_where_digested M ss g r t bare h =
    test_inside M r t (not_past r 256 h.table_inside) (not_past t 32 h.digest_inside)
    ∙ ap (λ table. test_table M table (bytes_in M t 32)) h.table_stands
    ∙ ap (test_table M (region_table (others ss g))) h.digest_stands
    ∙ digest_is_same M ss g bare h.each_page
