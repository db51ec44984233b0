-- Tables of regions row by row, and what is wanted page by page.
use Rattle.std.proofs.Common.{◌≡◌, ℕ, zero, suc, ◌+◌, ◌-◌, ◌*◌, ◌/◌, ◌^◌, ◌<◌, ◌≤◌, ◌++◌, List, [], ◌∷◌, Some, None, refl, sym, ap, ◌∙◌, arith, length, take, drop, get_or, append_assoc, length-append}
use Rattle.std.specs.Prelude.{slice_get, unwrap_or, replicate}
use Rattle.std.specs.List.{flat_map, range_with_len}
use Rattle.std.proofs.lemmas.List.{append-nil, flat_map_more, take_more, take_rest, get_or-drop, drop-drop, drop-replicate, length-drop, length-take}
use Rattle.std.proofs.lemmas.Grind.{flat_map-append}
use Rattle.std.proofs.lemmas.Option.{get_or_from_slice_get}
use Rattle.byteorder.specs.Endian.{little_bytes}
use Rattle.byteorder.specs.Numbers.{length-bytes_low_first}
use Rattle.kx_fields.specs.Fields.{zeros, with_field}
use Rattle.kx_fields.proofs.Fields.{next_field}
use Rattle.kx_pages.specs.Bytes.{Wants}
use Rattle.segments.specs.Values.{SegmentValue, pages, pages_of_segment}
use Rattle.segments.specs.inner.Rules.{IsBare}
use Rattle.segments.specs.inner.Shape.{IsPlaced}
use Rattle.segments.proofs.Laws.{AreSegments-from_IsBare}
use Rattle.purgatory_link.specs.Regions.{others, wanted_bytes, row, region_table}
use Rattle.kx_pages.proofs.Lists.{Each-slice_get}

pub length-row : (s : SegmentValue) → length (row s) ≡ 16
length-row s = omega (arith, length-append (little_bytes 8 s.mem) (little_bytes 8 s.memsz), length-bytes_low_first 0 8 s.mem, length-bytes_low_first 0 8 s.memsz)

pub length-rows : (ss : List SegmentValue) → length (flat_map row ss) ≡ 16 * length ss
length-rows [] = refl
length-rows (s ∷ ss) = omega (arith, length-append (row s) (flat_map row ss), length-row s, length-rows ss)

fewer_zeros : (a b n : ℕ) → drop b (drop a (zeros n)) ≡ zeros (n - (a + b))
unfolding zeros
fewer_zeros a b n = drop-drop b a (replicate n 0) ∙ drop-replicate (a + b) n 0

-- one more row
pub region_more : (ss : List SegmentValue) (s : SegmentValue) (k : ℕ) (table first second : List ℕ) → length ss ≡ k → k < 16 → table ≡ region_table ss → first ≡ with_field (16 * k) 8 s.mem table → second ≡ with_field (16 * k + 8) 8 s.memsz first → second ≡ region_table (ss ++ s ∷ [])
unfolding region_table
region_more ss s k table first second long room t f g =
    let rows = flat_map row ss in
    let n = 256 - 16 * length ss in
    let a = little_bytes 8 s.mem in
    let b = little_bytes 8 s.memsz in
    let size : length rows ≡ 16 * k = omega (arith, length-rows ss, long) in
    let size2 : length (rows ++ a) ≡ 16 * k + 8 = omega (arith, length-append rows a, size, length-bytes_low_first 0 8 s.mem) in
    let one : first ≡ rows ++ a ++ drop 8 (zeros n) = f ∙ ap (with_field (16 * k) 8 s.mem) t ∙ next_field (16 * k) 8 s.mem rows (zeros n) size in
    let two : second ≡ rows ++ a ++ b ++ drop 8 (drop 8 (zeros n)) =
    g ∙ ap (with_field (16 * k + 8) 8 s.memsz) one ∙ next_field (16 * k + 8) 8 s.memsz (rows ++ a) (drop 8 (zeros n)) size2 in
    let left : n - (8 + 8) ≡ 256 - 16 * length (ss ++ s ∷ []) = omega (arith, length-append ss (s ∷ [])) in
    two
    ∙ ap (λ zs. rows ++ a ++ b ++ zs) (fewer_zeros 8 8 n ∙ ap zeros left)
    ∙ ap (λ xs. xs ++ zeros (256 - 16 * length (ss ++ s ∷ []))) (append_assoc rows a b ∙ flat_map_more row [] ss s)

-- one more of the segments from one on
pub take_step : (ss : List SegmentValue) (from i j : ℕ) (s : SegmentValue) → from ≤ i → i < length ss → j ≡ i + 1 → slice_get ss i ≡ Some s → take (i - from) (drop from ss) ++ s ∷ [] ≡ take (j - from) (drop from ss)
take_step ss from i j s le lt next e =
    let here : from + (i - from) ≡ i = omega arith in
    let at_i : get_or (drop from ss) (i - from) s ≡ s = get_or-drop from ss (i - from) s ∙ ap (λ k. get_or ss k s) here ∙ get_or_from_slice_get ss i s s e in
    let inside : i - from < length (drop from ss) = omega (arith, length-drop from ss) in
    let after : i - from + 1 ≡ j - from = omega arith in
    ap (λ x. take (i - from) (drop from ss) ++ x ∷ []) (sym at_i) ∙ sym (take_more (drop from ss) (i - from) s inside) ∙ ap (λ k. take k (drop from ss)) after

pub length-take_step : (ss : List SegmentValue) (from i : ℕ) → from ≤ i → i ≤ length ss → length (take (i - from) (drop from ss)) ≡ i - from
length-take_step ss from i le lt = omega (arith, length-drop from ss, length-take (i - from) (drop from ss))

-- both parts are the segments but one
pub both_parts : (ss : List SegmentValue) (g n : ℕ) → n ≡ length ss → take (g - 0) (drop 0 ss) ++ take (n - (g + 1)) (drop (g + 1) ss) ≡ others ss g
both_parts ss g n e =
    let whole : g - 0 ≡ g = omega arith in
    let left : n - (g + 1) ≡ length ss - (g + 1) = omega arith in
    ap (λ k. take k ss ++ take (n - (g + 1)) (drop (g + 1) ss)) whole
    ∙ ap (λ k. take g ss ++ take k (drop (g + 1) ss)) left
    ∙ ap (λ xs. take g ss ++ xs) (take_rest ss (g + 1))

-- what is wanted of no page, of one, and of some and others
pub wanted_none : (W : Wants) → wanted_bytes W [] ≡ []
unfolding wanted_bytes
wanted_none W = refl

pub wanted_is : (W : Wants) (p n : ℕ) (bytes : List ℕ) → n ≡ p → Some bytes ≡ W n → wanted_bytes W (p ∷ []) ≡ bytes
unfolding wanted_bytes
wanted_is W p n bytes same e =
    append-nil (unwrap_or (W p) []) ∙ ap (λ k. unwrap_or (W k) []) (sym same) ∙ ap (λ o. unwrap_or o []) (sym e)

pub wanted_not : (W : Wants) (p n : ℕ) → n ≡ p → None ≡ W n → wanted_bytes W (p ∷ []) ≡ []
unfolding wanted_bytes
wanted_not W p n same e =
    append-nil (unwrap_or (W p) []) ∙ ap (λ k. unwrap_or (W k) []) (sym same) ∙ ap (λ o. unwrap_or o []) (sym e)

pub wanted_both : (W : Wants) (ps qs : List ℕ) → wanted_bytes W (ps ++ qs) ≡ wanted_bytes W ps ++ wanted_bytes W qs
unfolding wanted_bytes
wanted_both W ps qs = flat_map-append (λ p. unwrap_or (W p) []) ps qs

pub range_more : (a n : ℕ) → range_with_len a (suc n) ≡ range_with_len a n ++ (a + n) ∷ []
range_more a zero = let e : a ≡ a + 0 = omega arith in ap (λ x. x ∷ []) e
range_more a (suc n) = let e : a + 1 + n ≡ a + suc n = omega arith in ap (λ xs. a ∷ xs) (range_more (a + 1) n ∙ ap (λ x. range_with_len (a + 1) n ++ x ∷ []) e)

pub range_step : (a i j : ℕ) → a ≤ i → j ≡ i + 1 → range_with_len a (i - a) ++ i ∷ [] ≡ range_with_len a (j - a)
range_step a i j le next =
    let here : a + (i - a) ≡ i = omega arith in
    let count : suc (i - a) ≡ j - a = omega arith in
    ap (λ x. range_with_len a (i - a) ++ x ∷ []) (sym here) ∙ sym (range_more a (i - a)) ∙ ap (range_with_len a) count

-- a page more, and a segment more
pub fed_more : (W : Wants) (m ps qs rs : List ℕ) → ps ++ qs ≡ rs → (m ++ wanted_bytes W ps) ++ wanted_bytes W qs ≡ m ++ wanted_bytes W rs
fed_more W m ps qs rs e =
    append_assoc m (wanted_bytes W ps) (wanted_bytes W qs) ∙ ap (λ xs. m ++ xs) (sym (wanted_both W ps qs) ∙ ap (wanted_bytes W) e)

pub pages_step : (ss : List SegmentValue) (from i j : ℕ) (s : SegmentValue) → from ≤ i → i < length ss → j ≡ i + 1 → slice_get ss i ≡ Some s → pages (take (i - from) (drop from ss)) ++ pages_of_segment s ≡ pages (take (j - from) (drop from ss))
pages_step ss from i j s le lt next e =
    flat_map_more pages_of_segment [] (take (i - from) (drop from ss)) s ∙ ap pages (take_step ss from i j s le lt next e)

pub pages_inside : (ss : List SegmentValue) (i : ℕ) (s : SegmentValue) → IsBare ss → slice_get ss i ≡ Some s → s.mem / 4096 + s.memsz / 4096 ≤ 2 ^ 34
pages_inside ss i s bare e =
    let k = Each-slice_get IsPlaced ss i s (AreSegments-from_IsBare ss bare).placed e in
    omega (arith, k.starts, k.whole, k.below)
