-- The bytes of a segment that grows by loads that rise.
use Rattle.std.proofs.Common.{◌≡◌, ℕ, zero, suc, ◌+◌, ◌-◌, ◌*◌, ◌<◌, ◌≤◌, ◌||◌, List, [], ◌∷◌, ◌++◌, append-nil, append_assoc, length, take, drop, get_or, Bool, true, false, cond, refl, sym, ap, ◌∙◌, subst, inl, inr, arith}
use Rattle.std.specs.Prelude.{nat_le, ◌⊎◌, map, replicate}
use Rattle.std.specs.List.{range_with_len, AllByRecursion}
use Rattle.std.proofs.lemmas.Bool.Decides.{nat_tests}
use Rattle.std.proofs.lemmas.Bool.{cases_lt, cases_eq, cond-true, cond-false, eq-eqb, ne_eqb, or_from, or_left, or_right, or_parts}
use Rattle.kx_laws.proofs.Booleans.{or_first}
use Rattle.std.proofs.lemmas.List.{ext_get_or, length-append, length-take, length-drop, length-replicate, get_or_append_left, get_or-append_right, get_or-replicate, get_or-take, get_or-drop}
use Rattle.std.proofs.lemmas.List.Folds.{list_any-append}
use Rattle.std.proofs.lemmas.List.FromFn.{length-map-range_with_len, get_or-map-range_with_len}
use Rattle.segments.specs.Values.{SegmentValue}
use Rattle.elf_image.specs.declared.load.Load.{Load}
use Rattle.elf_image.specs.Loads.{load_stop}
use Rattle.elf_image.specs.Image.{is_file_of, is_file, byte_at, up_to_last, bytes_of, segment_of, segments_of}
use Rattle.elf_image.specs.inner.Joined.{IsLoad, AreLoads, Rise, grown, joined_to, join}
use Rattle.elf_image.proofs.Pages.{first_number, end_number, between, run_to, run_all, Ends, ends_at, follows, all_runs, le_true, le_false}

-- ---- up to the last
up_bound : (f : ℕ → Bool) (n : ℕ) → up_to_last f n ≤ n
unfolding up_to_last
up_bound f zero = omega arith
up_bound f (suc n) = picked (f n) n (up_to_last f n) (up_bound f n)
  where
    picked : (b : Bool) (n m : ℕ) → m ≤ n → cond b (suc n) m ≤ suc n
    picked true n m h = omega arith
    picked false n m h = omega arith

up_none : (f : ℕ → Bool) (n k : ℕ) → up_to_last f n ≤ k → k < n → f k ≡ false
unfolding up_to_last
up_none f zero k h l = absurd (omega arith)
up_none f (suc n) k h l =
    elim (cases_eq k n) [
      | inl e ↦ ap f e ∙ last (f n) n (up_to_last f n) (omega (arith, h, e))
      | inr ne ↦ up_none f n k (below (f n) n (up_to_last f n) k h (omega (arith, ne, l))) (omega (arith, ne, l))
    ]
  where
    last : (b : Bool) (n m : ℕ) → cond b (suc n) m ≤ n → b ≡ false
    last true n m h = absurd (omega arith)
    last false n m h = refl

    below : (b : Bool) (n m k : ℕ) → cond b (suc n) m ≤ k → k < n → m ≤ k
    below true n m k h l = absurd (omega arith)
    below false n m k h l = h

-- none passes, or the one before m does
abbrev Last : (ℕ → Bool) → ℕ → Type 0
Last f m = (m ≡ 0) ⊎ ((j : ℕ) × (m ≡ suc j) × (f j ≡ true))

up_is : (f : ℕ → Bool) (n m : ℕ) → m ≤ n → ((k : ℕ) → m ≤ k → k < n → f k ≡ false) → Last f m → up_to_last f n ≡ m
unfolding up_to_last
up_is f zero m l none last = omega arith
up_is f (suc n) m l none last =
    elim (cases_eq m (suc n)) [
      | inl e ↦ cond-true _ _ _ (passes f n m e last) ∙ sym e
      | inr ne ↦ cond-false _ _ _ (none n (omega arith) (omega arith)) ∙ up_is f n m (omega arith) (λ k h i. none k h (omega (arith, i))) last
    ]
  where
    passes : (f : ℕ → Bool) (n m : ℕ) → m ≡ suc n → Last f m → f n ≡ true
    passes f n m e (inl z) = absurd (omega (arith, z, e))
    passes f n m e (inr w) = let same : n ≡ w.0 = omega (arith, w.1, e) in ap f same ∙ w.2

up_last : (f : ℕ → Bool) (n : ℕ) → Last f (up_to_last f n)
unfolding up_to_last
up_last f zero = inl refl
up_last f (suc n) = picked f n (f n) refl (up_to_last f n) (up_last f n)
  where
    picked : (f : ℕ → Bool) (n : ℕ) (b : Bool) → f n ≡ b → (m : ℕ) → Last f m → Last f (cond b (suc n) m)
    picked f n true e m h = inr (n, refl, e)
    picked f n false e m h = h

up_low : (f : ℕ → Bool) (n c : ℕ) → ((k : ℕ) → c ≤ k → k < n → f k ≡ false) → up_to_last f n ≤ c
unfolding up_to_last
up_low f zero c none = omega arith
up_low f (suc n) c none =
    elim (cases_lt n c) [
      | inl l ↦ let b = up_bound f (suc n) in bounded (f n) n (up_to_last f n) c l (up_bound f n)
      | inr l ↦ subst (λ m. m ≤ c) (sym (cond-false _ _ _ (none n l (omega arith)))) (up_low f n c (λ k h i. none k h (omega (arith, i))))
    ]
  where
    bounded : (b : Bool) (n m c : ℕ) → n < c → m ≤ n → cond b (suc n) m ≤ c
    bounded true n m c l h = omega arith
    bounded false n m c l h = omega arith

pub up_same : (f g : ℕ → Bool) (n : ℕ) → ((k : ℕ) → k < n → f k ≡ g k) → up_to_last f n ≡ up_to_last g n
unfolding up_to_last
up_same f g zero h = refl
up_same f g (suc n) h =
    ap (λ b. cond b (suc n) (up_to_last f n)) (h n (omega arith)) ∙ ap (λ m. cond (g n) (suc n) m) (up_same f g n (λ k l. h k (omega (arith, l))))

-- ---- bytes at addresses
pub map_same : (f g : ℕ → ℕ) (a n : ℕ) → ((k : ℕ) → k < n → f (a + k) ≡ g (a + k)) → map f (range_with_len a n) ≡ map g (range_with_len a n)
map_same f g a n h =
    let size = length-map-range_with_len f a n in
    ext_get_or 0 _ _ (size ∙ sym (length-map-range_with_len g a n))
    (λ i l. let k : i < n = omega (arith, l, size) in get_or-map-range_with_len f a n i (a + i) 0 k refl ∙ h i k ∙ sym (get_or-map-range_with_len g a n i (a + i) 0 k refl))

byte_front : (file : List ℕ) (pre rest : List Load) (a : ℕ) → is_file pre a ≡ true → byte_at file (pre ++ rest) a ≡ byte_at file pre a
byte_front file [] rest a h = cc
byte_front file (l ∷ ls) rest a h = picked file l ls rest a (is_file_of a l) h (λ t. byte_front file ls rest a t)
  where
    picked : (file : List ℕ) (l : Load) (ls rest : List Load) (a : ℕ) (b : Bool) → (b || is_file ls a) ≡ true → (is_file ls a ≡ true → byte_at file (ls ++ rest) a ≡ byte_at file ls a) → cond b (get_or file (l.offset + (a - l.paddr)) 0) (byte_at file (ls ++ rest) a) ≡ cond b (get_or file (l.offset + (a - l.paddr)) 0) (byte_at file ls a)
    picked file l ls rest a true h ih = refl
    picked file l ls rest a false h ih = ih h

byte_behind : (file : List ℕ) (pre rest : List Load) (a : ℕ) → is_file pre a ≡ false → byte_at file (pre ++ rest) a ≡ byte_at file rest a
byte_behind file [] rest a h = refl
byte_behind file (l ∷ ls) rest a h =
    let p = or_parts (is_file_of a l) (is_file ls a) h in cond-false _ _ _ p.0 ∙ byte_behind file ls rest a p.1

pub byte_none : (file : List ℕ) (ls : List Load) (a : ℕ) → is_file ls a ≡ false → byte_at file ls a ≡ 0
byte_none file [] a h = refl
byte_none file (l ∷ ls) a h =
    let p = or_parts (is_file_of a l) (is_file ls a) h in cond-false _ _ _ p.0 ∙ byte_none file ls a p.1

byte_same : (file : List ℕ) (pre rest : List Load) (a : ℕ) → is_file rest a ≡ false → byte_at file (pre ++ rest) a ≡ byte_at file pre a
byte_same file pre rest a h = picked file pre rest a h (is_file pre a) refl
  where
    picked : (file : List ℕ) (pre rest : List Load) (a : ℕ) → is_file rest a ≡ false → (b : Bool) → is_file pre a ≡ b → byte_at file (pre ++ rest) a ≡ byte_at file pre a
    picked file pre rest a h true e = byte_front file pre rest a e
    picked file pre rest a h false e = byte_behind file pre rest a e ∙ byte_none file rest a h ∙ sym (byte_none file pre a e)

file_more : (pre rest : List Load) (a : ℕ) → is_file rest a ≡ false → is_file (pre ++ rest) a ≡ is_file pre a
file_more pre rest a h = list_any-append (is_file_of a) pre rest ∙ or_first (is_file pre a) (is_file rest a) h

bytes_same : (file : List ℕ) (pre rest : List Load) (a n : ℕ) → ((k : ℕ) → k < n → is_file rest (a + k) ≡ false) → bytes_of file (pre ++ rest) a n ≡ bytes_of file pre a n
bytes_same file pre rest a n h =
    let m = up_to_last (λ k. is_file pre (a + k)) n in
    let small : m ≤ n = up_bound (λ k. is_file pre (a + k)) n in
    ap (λ i. map (byte_at file (pre ++ rest)) (range_with_len a i)) (up_same (λ k. is_file (pre ++ rest) (a + k)) (λ k. is_file pre (a + k)) n (λ k l. file_more pre rest (a + k) (h k l)))
    ∙ map_same (byte_at file (pre ++ rest)) (byte_at file pre) a m (λ k l. byte_same file pre rest (a + k) (h k (omega (arith, l, small))))

-- ---- loads before and behind
pub record EndsBy (s : ℕ) (l : Load) : Type 0 where
  pub stop : l.paddr + l.filesz ≤ s

not_file_before : (a : ℕ) (l : Load) → a < l.paddr → is_file_of a l ≡ false
not_file_before a l h = grind (arith, nat_tests)

not_file_behind : (a : ℕ) (l : Load) → l.paddr + l.filesz ≤ a → is_file_of a l ≡ false
not_file_behind a l h = grind (arith, nat_tests)

file_within : (a : ℕ) (l : Load) → l.paddr ≤ a → a < l.paddr + l.filesz → is_file_of a l ≡ true
file_within a l h k = grind (arith, nat_tests)

past_none : (s : ℕ) (pre : List Load) (a : ℕ) → AllByRecursion (EndsBy s) pre → s ≤ a → is_file pre a ≡ false
past_none s [] a d h = refl
past_none s (l ∷ ls) a d h = or_from _ _ (not_file_behind a l (omega (arith, d.0.stop, h))) (past_none s ls a d.1 h)

rise_none : (b : ℕ) (ls : List Load) (a : ℕ) → Rise b ls → a < b → is_file ls a ≡ false
rise_none b [] a r h = refl
rise_none b (l ∷ ls) a r h = or_from _ _ (not_file_before a l (omega (arith, r.0, h))) (rise_none (load_stop l) ls a r.1 (omega (arith, r.0, h)))

-- ---- one more load
grows_none : (file : List ℕ) (pre : List Load) (l : Load) (bytes : List ℕ) (a n m s : ℕ) → l.filesz ≡ 0 → AllByRecursion (EndsBy s) pre → s ≤ a + n → n ≤ m → bytes ≡ bytes_of file pre a n → bytes ≡ bytes_of file (pre ++ l ∷ []) a m
grows_none file pre l bytes a n m s none d q u is =
    let F : ℕ → Bool = λ k. is_file pre (a + k) in
    let small : up_to_last F n ≤ n = up_bound F n in
    is
    ∙ ap (λ i. map (byte_at file pre) (range_with_len a i)) (sym (up_is F m (up_to_last F n) (omega arith) (λ k h i. elim (cases_lt k n) [
      | inl l ↦ up_none F n k h l
      | inr l ↦ past_none s pre (a + k) d (omega (arith, l, q))
    ]) (up_last F n)))
    ∙ sym (bytes_same file pre (l ∷ []) a m (λ k i. or_from _ _ (nothing l (a + k) none) refl))
  where
    nothing : (l : Load) (x : ℕ) → l.filesz ≡ 0 → is_file_of x l ≡ false
    nothing l x e = grind (arith, nat_tests)

-- the three parts
in_front : (file : List ℕ) (pre : List Load) (l : Load) (bytes rest : List ℕ) (a n i : ℕ) → bytes ≡ map (byte_at file pre) (range_with_len a n) → i < n → a + i < l.paddr → get_or (bytes ++ rest) i 0 ≡ byte_at file (pre ++ l ∷ []) (a + i)
in_front file pre l bytes rest a n i is lo hi =
    let size : length bytes ≡ n = ap length is ∙ length-map-range_with_len (byte_at file pre) a n in
    get_or_append_left bytes rest 0 i (omega (arith, size, lo))
    ∙ ap (λ xs. get_or xs i 0) is
    ∙ get_or-map-range_with_len (byte_at file pre) a n i (a + i) 0 lo refl
    ∙ sym (byte_same file pre (l ∷ []) (a + i) (or_from _ _ (not_file_before (a + i) l hi) refl))

in_gap : (file : List ℕ) (pre : List Load) (l : Load) (bytes rest : List ℕ) (a n z i : ℕ) → length bytes ≡ n → n ≤ i → i < n + z → a + i < l.paddr → is_file pre (a + i) ≡ false → get_or (bytes ++ (replicate z 0 ++ rest)) i 0 ≡ byte_at file (pre ++ l ∷ []) (a + i)
in_gap file pre l bytes rest a n z i size lo hi before none =
    get_or-append_right bytes (replicate z 0 ++ rest) n i 0 size lo
    ∙ get_or_append_left (replicate z 0) rest 0 (i - n) (omega (arith, length-replicate {A = ℕ} z 0, lo, hi))
    ∙ get_or-replicate z (i - n) 0 0 (omega (arith, lo, hi))
    ∙ sym (byte_behind file pre (l ∷ []) (a + i) none ∙ cond-false _ _ _ (not_file_before (a + i) l before))

in_part : (file : List ℕ) (pre : List Load) (l : Load) (bytes : List ℕ) (a n z i : ℕ) → length bytes ≡ n → n + z + a ≡ l.paddr → n + z ≤ i → a + i < l.paddr + l.filesz → is_file pre (a + i) ≡ false → get_or (bytes ++ (replicate z 0 ++ take l.filesz (drop l.offset file))) i 0 ≡ byte_at file (pre ++ l ∷ []) (a + i)
in_part file pre l bytes a n z i size place lo hi none =
    let here : l.offset + (i - n - z) ≡ l.offset + (a + i - l.paddr) = omega (arith, place, lo) in
    get_or-append_right bytes (replicate z 0 ++ take l.filesz (drop l.offset file)) n i 0 size (omega (arith, lo))
    ∙ get_or-append_right (replicate z 0) (take l.filesz (drop l.offset file)) z (i - n) 0 (length-replicate {A = ℕ} z 0) (omega (arith, lo))
    ∙ get_or-take l.filesz (drop l.offset file) (i - n - z) 0 (omega (arith, place, lo, hi))
    ∙ get_or-drop l.offset file (i - n - z) 0
    ∙ ap (λ j. get_or file j 0) here
    ∙ sym (byte_behind file pre (l ∷ []) (a + i) none ∙ cond-true _ _ _ (file_within (a + i) l (omega (arith, place, lo)) hi))

part_size : (file : List ℕ) (l : Load) → l.offset + l.filesz ≤ length file → length (take l.filesz (drop l.offset file)) ≡ l.filesz
part_size file l h = let a = length-take l.filesz (drop l.offset file) in let b = length-drop l.offset file in omega (arith, a, b, h)

grows_some : (file : List ℕ) (pre : List Load) (l : Load) (bytes : List ℕ) (a n m s : ℕ) → (l.filesz ≡ 0 → ⊥) → IsLoad (length file) l → AllByRecursion (EndsBy s) pre → s ≤ l.paddr → s ≤ a + n → a ≤ l.paddr → load_stop l ≤ a + m → bytes ≡ bytes_of file pre a n → bytes ++ (replicate (l.paddr - a - length bytes) 0 ++ take l.filesz (drop l.offset file)) ≡ bytes_of file (pre ++ l ∷ []) a m
grows_some file pre l bytes a n m s some g d p q lo hi is =
    let F : ℕ → Bool = λ k. is_file pre (a + k) in
    let G : ℕ → Bool = λ k. is_file (pre ++ l ∷ []) (a + k) in
    let N = up_to_last F n in
    let fits = g.fits in
    let size : length bytes ≡ N = ap length is ∙ length-map-range_with_len (byte_at file pre) a N in
    let low : N ≤ l.paddr - a = up_low F n (l.paddr - a) (λ k h i. past_none s pre (a + k) d (omega (arith, h, p, lo))) in
    let top = l.paddr + l.filesz - a in
    let z = l.paddr - a - length bytes in
    let seam : N + z + a ≡ l.paddr = omega (arith, size, low, lo) in
    let psize = part_size file l g.inside in
    let none : (i : ℕ) → N ≤ i → is_file pre (a + i) ≡ false = λ i h. elim (cases_lt i n) [ inl x ↦ up_none F n i h x | inr x ↦ past_none s pre (a + i) d (omega (arith, x, q)) ] in
    let ends : up_to_last G m ≡ top = up_is G m top (omega (arith, fits, hi, lo))
    (λ k h i. list_any-append (is_file_of (a + k)) pre (l ∷ []) ∙ or_from _ _ (past_none s pre (a + k) d (omega (arith, h, p, lo, some))) (or_from _ _ (not_file_behind (a + k) l (omega (arith, h, lo))) refl))
    (inr (top - 1, omega (arith, some, lo), list_any-append (is_file_of (a + (top - 1))) pre (l ∷ []) ∙ or_right _ _ (or_left _ _ (file_within (a + (top - 1)) l (omega (arith, some, lo)) (omega (arith, some, lo)))))) in
    let whole : length (bytes ++ (replicate z 0 ++ take l.filesz (drop l.offset file))) ≡ top =
    length-append bytes (replicate z 0 ++ take l.filesz (drop l.offset file)) ∙ omega (arith, length-append (replicate z 0) (take l.filesz (drop l.offset file)), length-replicate {A = ℕ} z 0, psize, size, seam) in
    ext_get_or 0 _ _ (whole ∙ sym (length-map-range_with_len (byte_at file (pre ++ l ∷ [])) a top))
    (λ i h. let u : i < top = omega (arith, h, whole) in
    elim (cases_lt (a + i) l.paddr) [
      | inr x ↦ in_part file pre l bytes a N z i size seam (omega (arith, x, seam)) (omega (arith, u, lo)) (none i (omega (arith, x, seam))) ∙ sym (get_or-map-range_with_len (byte_at file (pre ++ l ∷ [])) a top i (a + i) 0 u refl)
      | inl x ↦ elim (cases_lt i N) [
        | inl y ↦ in_front file pre l bytes _ a N i is y x ∙ sym (get_or-map-range_with_len (byte_at file (pre ++ l ∷ [])) a top i (a + i) 0 u refl)
        | inr y ↦ in_gap file pre l bytes _ a N z i size y (omega (arith, x, seam)) x (none i y) ∙ sym (get_or-map-range_with_len (byte_at file (pre ++ l ∷ [])) a top i (a + i) 0 u refl)
      ]
    ])
    ∙ ap (λ k. map (byte_at file (pre ++ l ∷ [])) (range_with_len a k)) (sym ends)

pub grows : (file : List ℕ) (pre : List Load) (l : Load) (bytes : List ℕ) (a n m s : ℕ) → IsLoad (length file) l → AllByRecursion (EndsBy s) pre → s ≤ l.paddr → s ≤ a + n → a ≤ l.paddr → load_stop l ≤ a + m → n ≤ m → bytes ≡ bytes_of file pre a n → grown file l bytes a ≡ bytes_of file (pre ++ l ∷ []) a m
grows file pre l bytes a n m s g d p q lo hi u is =
    elim (cases_eq l.filesz 0) [
      | inl e ↦ cond-true _ _ _ (eq-eqb _ _ e) ∙ grows_none file pre l bytes a n m s e d q u is
      | inr ne ↦ cond-false _ _ _ (ne_eqb _ _ ne) ∙ grows_some file pre l bytes a n m s ne g d p q lo hi is
    ]

-- ---- all loads
abbrev segment_with : ℕ → List ℕ → ℕ → SegmentValue
segment_with mem bytes n = record { bytes = bytes; mem = mem; memsz = n }

same_part : (bytes more : List ℕ) (mem n m : ℕ) → bytes ≡ more → n ≡ m → segment_with mem bytes n ≡ segment_with mem more m
same_part bytes more mem n m e f = ap (λ xs. segment_with mem xs n) e ∙ ap (λ k. segment_with mem more k) f

ends_more : (s t : ℕ) (pre : List Load) (l : Load) → AllByRecursion (EndsBy s) pre → s ≤ t → l.paddr + l.filesz ≤ t → AllByRecursion (EndsBy t) (pre ++ l ∷ [])
ends_more s t [] l d h k = (record { stop = k }, tt)
ends_more s t (x ∷ xs) l d h k = let a = d.0.stop in (record { stop = omega (arith, a, h) }, ends_more s t xs l d.1 h k)

none_yet : (file : List ℕ) (pre : List Load) (a : ℕ) → [] ≡ bytes_of file pre a 0
unfolding up_to_last
none_yet file pre a = refl

le_pages : (a b : ℕ) → a ≤ b → nat_le (4096 * a) (4096 * b) ≡ true
le_pages a b h = grind (arith, nat_tests)

lt_pages : (a b : ℕ) → b < a → nat_le (4096 * a) (4096 * b) ≡ false
lt_pages a b h = grind (arith, nat_tests)

pages_size : (f e : ℕ) → 4096 * e - 4096 * f ≡ 4096 * (e - f)
pages_size f e = omega arith

pub joined_is : (file : List ℕ) (pre : List Load) (bytes : List ℕ) (f e s : ℕ) (ls : List Load) → f < e → Ends s e → Rise s ls → AreLoads (length file) ls → AllByRecursion (EndsBy s) pre → bytes ≡ bytes_of file pre (4096 * f) (4096 * (e - f)) → joined_to file bytes (4096 * f) (4096 * e) ls ≡ map (segment_of file (pre ++ ls)) (run_to f e ls)
unfolding joined_to run_to
joined_is file pre bytes f e s [] some h r g d is =
    ap (λ (p : SegmentValue). p ∷ []) (same_part bytes _ (4096 * f) _ _ (is ∙ ap (λ xs. bytes_of file xs (4096 * f) (4096 * (e - f))) (sym (append-nil pre))) (pages_size f e))
joined_is file pre bytes f e s (l ∷ ls) some h r g d is =
    let w = follows (length file) s e l g.0 h r.0 in
    let F = first_number l in
    let E = end_number l in
    let near = h.near in
    let inside = h.inside in
    let fits = g.0.fits in
    let ends = (ends_at l).inside in
    let on = w.on in
    let more = w.some in
    let size = g.0.some in
    let low = r.0 in
    let by = ends_more s (load_stop l) pre l d (omega arith) (omega arith) in
    let list = append_assoc pre (l ∷ []) ls in
    elim (cases_lt e F) [
      | inr t ↦ cond-true _ _ _ (le_pages F e t)
          ∙ joined_is file (pre ++ l ∷ []) (grown file l bytes (4096 * f)) f E (load_stop l) ls (omega (arith, on, some)) (ends_at l) r.1 g.1 by
          (grows file pre l bytes (4096 * f) (4096 * (e - f)) (4096 * (E - f)) s g.0 d low (omega (arith, inside, some)) (omega (arith, near, low, some)) (omega (arith, ends, on, some)) (omega (arith, on)) is)
          ∙ ap (λ xs. map (segment_of file xs) (run_to f E ls)) list
          ∙ ap (map (segment_of file (pre ++ l ∷ ls))) (sym (cond-true _ _ _ (le_true F e t)))
      | inl t ↦ cond-false _ _ _ (lt_pages F e t)
          ∙ ap (λ (p : SegmentValue). p ∷ joined_to file (grown file l [] (4096 * F)) (4096 * F) (4096 * E) ls)
          (same_part bytes _ (4096 * f) _ _ (is ∙ sym (bytes_same file pre (l ∷ ls) (4096 * f) (4096 * (e - f)) (λ k i. rise_none (4096 * e) (l ∷ ls) (4096 * f + k) (omega (arith, t), r.1) (omega (arith, i, some))))) (pages_size f e))
          ∙ ap (λ xs. segment_of file (pre ++ l ∷ ls) (between f e) ∷ xs)
          (joined_is file (pre ++ l ∷ []) (grown file l [] (4096 * F)) F E (load_stop l) ls more (ends_at l) r.1 g.1 by
          (grows file pre l [] (4096 * F) 0 (4096 * (E - F)) s g.0 d low (omega (arith, inside, t)) (omega arith) (omega (arith, ends, more)) (omega arith) (none_yet file pre (4096 * F)))
          ∙ ap (λ xs. map (segment_of file xs) (run_to F E ls)) list)
          ∙ ap (map (segment_of file (pre ++ l ∷ ls))) (sym (cond-false _ _ _ (le_false F e t)))
    ]

pub all_is : (file : List ℕ) (ls : List Load) → Rise 0 ls → AreLoads (length file) ls → join file ls ≡ map (segment_of file ls) (run_all ls)
unfolding join run_all
all_is file [] r g = refl
all_is file (l ∷ ls) r g =
    let F = first_number l in
    let E = end_number l in
    let size = g.0.some in
    let fits = g.0.fits in
    let ends = (ends_at l).inside in
    let more : F < E = omega arith in
    joined_is file (l ∷ []) (grown file l [] (4096 * F)) F E (load_stop l) ls more (ends_at l) r.1 g.1 (record { stop = omega arith }, tt)
    (grows file [] l [] (4096 * F) 0 (4096 * (E - F)) 0 g.0 tt (omega arith) (omega arith) (omega arith) (omega (arith, ends, more)) (omega arith) (none_yet file [] (4096 * F)))

pub all_segments : (file : List ℕ) (ls : List Load) → Rise 0 ls → AreLoads (length file) ls → join file ls ≡ segments_of file ls
all_segments file ls r g = all_is file ls r g ∙ ap (map (segment_of file ls)) (all_runs (length file) ls r g)
