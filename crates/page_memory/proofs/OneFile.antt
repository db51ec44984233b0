-- Each memory has one file: memories that agree at every page store the same pages. Crates above cite this.
use Rattle.std.proofs.Common.{◌≡◌, ◌≢◌, ℕ, zero, suc, ◌+◌, ◌<◌, ◌≤◌, List, [], ◌∷◌, length, Bool, true, false, cond, refl, sym, ap, ◌∙◌, arith, Option, Some, None, inl, inr}
use Rattle.std.specs.Prelude.{T, not, filter, unwrap_or, nat_lt, ◌==◌, ◌&&◌, replicate}
use Rattle.std.specs.Ordering.{nat_cmp, is_lt, eq_by_cmp}
use Rattle.std.specs.declared.cmp.Ordering.TheVariants.{Less, Equal, Greater}
use Rattle.std.specs.Cmp.{nat_cmp_total, eq_by_cmp_equiv}
use Rattle.std.specs.FinMap.{find, is_sorted, entries, entries_sorted, get-entries, nat_cmp-IsAntisymmetric}
use Rattle.std.proofs.lemmas.Bool.{cases_lt}
use Rattle.std.proofs.lemmas.Bool.Decides.{nat_tests}
use Rattle.kx_fields.specs.Fields.{IsBlock}
use Rattle.kx_laws.proofs.Booleans.{and_parts, is_eq-false, Equal-from_is_eq}
use Rattle.kx_laws.proofs.Options.{none_some, some_same}
use Rattle.page_memory.specs.Contents.{Contents, at, zero_page, frame_at}
use Rattle.page_memory.specs.Memory.{Agree}
use Rattle.page_memory.specs.File.{is_stored, is_all_zeros, stored_pages, file, text_of}

abbrev pub Entries : Type 0
Entries = List (ℕ × List ℕ)

-- the keys rise from low on
abbrev pub Rising : ℕ → Entries → Type 0
Rising low [] = Unit {0}
Rising low (e ∷ es) = (low ≤ e.0) × Rising (e.0 + 1) es

pub Rising-lower : (a b : ℕ) (es : Entries) → b ≤ a → Rising a es → Rising b es
Rising-lower a b [] le h = tt
Rising-lower a b (e ∷ es) le h = (omega (arith, h.0), h.1)

first : (a b : Bool) → T (a && b) → T a
first true b h = tt
first false b h = h

second : (a b : Bool) → T (a && b) → T b
second true b h = h
second false b h = absurd h

less_lt : (x y : ℕ) → T (is_lt (nat_cmp x y)) → x < y
less_lt x y h = by_test (nat_lt x y) refl h
  where
    by_test : (b : Bool) → nat_lt x y ≡ b → T (is_lt (cond b Less (cond (x == y) Equal Greater))) → x < y
    by_test true e t = grind (arith, nat_tests)
    by_test false e t = by_equal (x == y) t
      where
        by_equal : (b : Bool) → T (is_lt (cond b Equal Greater)) → x < y
        by_equal true t = absurd t
        by_equal false t = absurd t

rising_after : (k : ℕ) (v : List ℕ) (es : Entries) → T (is_sorted nat_cmp ((k, v) ∷ es)) → Rising (k + 1) es
rising_after k v [] h = tt
rising_after k v (e ∷ es) h =
    let below : k < e.0 = less_lt k e.0 (first _ _ (first _ _ h)) in
    (omega (arith, below), rising_after e.0 e.1 es (second _ _ h))

pub rising_sorted : (es : Entries) → T (is_sorted nat_cmp es) → Rising 0 es
rising_sorted [] h = tt
rising_sorted (e ∷ es) h = (omega arith, rising_after e.0 e.1 es h)

apart_is : (q k : ℕ) → q ≢ k → eq_by_cmp nat_cmp q k ≡ false
apart_is q k ne = is_eq-false (nat_cmp q k) (λ e. ne (nat_cmp-IsAntisymmetric q k e))

pub find-below : (q low : ℕ) (es : Entries) → Rising low es → q < low → find nat_cmp q es ≡ None
find-below q low [] h lt = refl
find-below q low (e ∷ es) h lt =
    let ne : q ≢ e.0 = omega (arith, h.0) in
    ap (λ b. cond b (Some e.1) (find nat_cmp q es)) (apart_is q e.0 ne) ∙ find-below q (e.0 + 1) es h.1 (omega (arith, h.0))

is_zero_from : (x : ℕ) → (x == 0) ≡ true → x ≡ 0
is_zero_from x h = grind (arith, nat_tests)

-- bytes that are all zero
pub list_zeros : (xs : List ℕ) → is_all_zeros xs ≡ true → xs ≡ replicate (length xs) 0
list_zeros [] h = refl
list_zeros (x ∷ xs) h =
    let both = and_parts (x == 0) (is_all_zeros xs) h in
    let head : x ≡ 0 = is_zero_from x both.0 in
    ap (λ y. y ∷ xs) head ∙ ap (λ t. 0 ∷ t) (list_zeros xs both.1)

pub all_zeros_page : (xs : List ℕ) → IsBlock 4096 xs → is_all_zeros xs ≡ true → xs ≡ zero_page
unfolding zero_page
all_zeros_page xs page h = list_zeros xs h ∙ ap (λ n. replicate n 0) page.long

pub zeros_are : (n : ℕ) → is_all_zeros (replicate n 0) ≡ true
zeros_are zero = refl
zeros_are (suc n) = zeros_are n

zero_page_is : is_all_zeros zero_page ≡ true
unfolding zero_page
zero_page_is = zeros_are 4096

-- what a file has of a page that reads as these bytes
abbrev page_to_keep : List ℕ → Option (List ℕ)
page_to_keep bytes = cond (is_all_zeros bytes) None (Some bytes)

kept_zeros : (bytes : List ℕ) → is_all_zeros bytes ≡ true → page_to_keep bytes ≡ None
kept_zeros bytes h = ap (λ b. cond b None (Some bytes)) h

kept_other : (bytes : List ℕ) → is_all_zeros bytes ≡ false → page_to_keep bytes ≡ Some bytes
kept_other bytes h = ap (λ b. cond b None (Some bytes)) h

stored_step : (q : ℕ) (e : ℕ × List ℕ) (es : Entries) (z t : Bool) → is_all_zeros e.1 ≡ z → eq_by_cmp nat_cmp q e.0 ≡ t → Rising (e.0 + 1) es → find nat_cmp q (filter is_stored es) ≡ page_to_keep (unwrap_or (find nat_cmp q es) zero_page) → find nat_cmp q (cond (not z) (e ∷ filter is_stored es) (filter is_stored es)) ≡ page_to_keep (unwrap_or (cond t (Some e.1) (find nat_cmp q es)) zero_page)
stored_step q e es true true is at_e rising rest =
    let same : q ≡ e.0 = nat_cmp-IsAntisymmetric q e.0 (Equal-from_is_eq (nat_cmp q e.0) at_e) in
    rest ∙ ap (λ o. page_to_keep (unwrap_or o zero_page)) (find-below q (e.0 + 1) es rising (omega (arith, same))) ∙ kept_zeros zero_page zero_page_is ∙ sym (kept_zeros e.1 is)
stored_step q e es true false is at_e rising rest = rest
stored_step q e es false true is at_e rising rest = ap (λ b. cond b (Some e.1) (find nat_cmp q (filter is_stored es))) at_e ∙ sym (kept_other e.1 is)
stored_step q e es false false is at_e rising rest = ap (λ b. cond b (Some e.1) (find nat_cmp q (filter is_stored es))) at_e ∙ rest

-- what is found among the stored pages follows from what the page reads as
find-stored : (low q : ℕ) (es : Entries) → Rising low es → find nat_cmp q (filter is_stored es) ≡ page_to_keep (unwrap_or (find nat_cmp q es) zero_page)
find-stored low q [] rising = sym (kept_zeros zero_page zero_page_is)
find-stored low q (e ∷ es) rising = stored_step q e es (is_all_zeros e.1) (eq_by_cmp nat_cmp q e.0) refl refl rising.1 (find-stored (e.0 + 1) q es rising.1)

one_kept : (low : ℕ) (e : ℕ × List ℕ) (fs : Entries) (b : Bool) → low ≤ e.0 → Rising (e.0 + 1) fs → Rising low (cond b (e ∷ fs) fs)
one_kept low e fs true h rising = (h, rising)
one_kept low e fs false h rising = Rising-lower (e.0 + 1) low fs (omega (arith, h)) rising

rising-stored : (low : ℕ) (es : Entries) → Rising low es → Rising low (filter is_stored es)
rising-stored low [] rising = tt
rising-stored low (e ∷ es) rising = one_kept low e (filter is_stored es) (is_stored e) rising.0 (rising-stored (e.0 + 1) es rising.1)

abbrev SameFound : Entries → Entries → Type 0
SameFound es fs = (q : ℕ) → find nat_cmp q es ≡ find nat_cmp q fs

found_first : (e : ℕ × List ℕ) (es : Entries) → find nat_cmp e.0 (e ∷ es) ≡ Some e.1
found_first e es = ap (λ b. cond b (Some e.1) (find nat_cmp e.0 es)) ((eq_by_cmp_equiv nat_cmp_total).refl e.0)

found_later : (q : ℕ) (e : ℕ × List ℕ) (es : Entries) → q ≢ e.0 → find nat_cmp q (e ∷ es) ≡ find nat_cmp q es
found_later q e es ne = ap (λ b. cond b (Some e.1) (find nat_cmp q es)) (apart_is q e.0 ne)

-- the first page of one list is not before the first of the other
first_le : (e f : ℕ × List ℕ) (es fs : Entries) → Rising (f.0 + 1) fs → SameFound (e ∷ es) (f ∷ fs) → f.0 ≤ e.0
first_le e f es fs rising s =
    elim (cases_lt e.0 f.0) [
      | inl h ↦ absurd (none_some (find nat_cmp e.0 (e ∷ es)) e.1 (s e.0 ∙ find-below e.0 f.0 (f ∷ fs) (omega arith, rising) h) (found_first e es))
      | inr h ↦ h
    ]

rest_found : (e f : ℕ × List ℕ) (es fs : Entries) → Rising (e.0 + 1) es → Rising (f.0 + 1) fs → e.0 ≡ f.0 → SameFound (e ∷ es) (f ∷ fs) → SameFound es fs
rest_found e f es fs r t same s q =
    elim (cases_lt q (e.0 + 1)) [
      | inl h ↦ find-below q (e.0 + 1) es r h ∙ sym (find-below q (f.0 + 1) fs t (omega arith))
      | inr h ↦ sym (found_later q e es (omega arith)) ∙ s q ∙ found_later q f fs (omega arith)
    ]

same_entry : (e f : ℕ × List ℕ) → e.0 ≡ f.0 → e.1 ≡ f.1 → e ≡ f
same_entry e f h k =
    let P : ℕ → ℕ × List ℕ = λ n. (n, e.1) in
    let Q : List ℕ → ℕ × List ℕ = λ b. (f.0, b) in
    ap P h ∙ ap Q k

-- lists that rise are told by what is found in them
same_entries : (low high : ℕ) (es fs : Entries) → Rising low es → Rising high fs → SameFound es fs → es ≡ fs
same_entries low high [] [] r t s = refl
same_entries low high [] (f ∷ fs) r t s = absurd (none_some (find nat_cmp f.0 []) f.1 refl (s f.0 ∙ found_first f fs))
same_entries low high (e ∷ es) [] r t s = absurd (none_some (find nat_cmp e.0 (e ∷ es)) e.1 (s e.0) (found_first e es))
same_entries low high (e ∷ es) (f ∷ fs) r t s =
    let p = first_le e f es fs t.1 s in
    let q = first_le f e fs es r.1 (λ q. sym (s q)) in
    let same : e.0 ≡ f.0 = omega arith in
    let bytes : e.1 ≡ f.1 = some_same e.1 f.1 (sym (found_first e es) ∙ s e.0 ∙ ap (λ n. find nat_cmp n (f ∷ fs)) same ∙ found_first f fs) in
    ap (λ x. x ∷ es) (same_entry e f same bytes) ∙ ap (λ xs. f ∷ xs) (same_entries (e.0 + 1) (f.0 + 1) es fs r.1 t.1 (rest_found e f es fs r.1 t.1 same s))

found_at : (m : Contents) (q : ℕ) → unwrap_or (find nat_cmp q (entries m.pages)) zero_page ≡ at m q
unfolding frame_at
found_at m q = ap (λ o. unwrap_or o zero_page) (sym (get-entries m.pages q))

-- memories that agree at every page store the same pages
pub stored-agree : (m n : Contents) → Agree (at m) (at n) → stored_pages m ≡ stored_pages n
stored-agree m n h =
    let r = rising_sorted (entries m.pages) (entries_sorted m.pages) in
    let t = rising_sorted (entries n.pages) (entries_sorted n.pages) in
    same_entries 0 0 (stored_pages m) (stored_pages n) (rising-stored 0 (entries m.pages) r) (rising-stored 0 (entries n.pages) t)
    (λ q.
    find-stored 0 q (entries m.pages) r ∙ ap page_to_keep (found_at m q ∙ h q ∙ sym (found_at n q)) ∙ sym (find-stored 0 q (entries n.pages) t))

-- and so they have one file
pub file-agree : (m n : Contents) → Agree (at m) (at n) → file m ≡ file n
file-agree m n h = ap text_of (stored-agree m n h)
