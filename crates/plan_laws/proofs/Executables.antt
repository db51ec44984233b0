-- The byte at each address of a load of an executable.
use Rattle.std.proofs.Common.{◌≡◌, ◌∙◌, ℕ, zero, suc, ◌+◌, ◌-◌, ◌*◌, ◌/◌, ◌^◌, ◌<◌, ◌≤◌, ◌++◌, ◌⊎◌, List, [], ◌∷◌, append-nil, append_assoc, Bool, true, false, cond, Option, Some, None, Ok, refl, sym, ap, subst, arith, inl, inr}
use Rattle.std.specs.Prelude.{nat_lt, option_map, slice_index, ◌||◌}
use Rattle.std.specs.List.{cons_option, count_by, filter, filter_map, range_with_len, slice_get}
use Rattle.std.proofs.Math.ListN.{get_or-eq_default}
use Rattle.std.proofs.lemmas.Bool.{cases_lt, cond-true, cond-false, or_parts}
use Rattle.std.proofs.lemmas.Bool.Decides.{nat_tests}
use Rattle.std.proofs.lemmas.List.FromFn.{get_or-map-range_with_len, length-map-range_with_len}
use Rattle.std.proofs.lemmas.Option.{slice_get-map}
use Rattle.kx_laws.specs.Results.{unless}
use Rattle.kx_laws.proofs.Results.{bind_ok, ok_same}
use Rattle.kx_pages.specs.Spans.{Run, in_span, in_spans}
use Rattle.elf_image.specs.declared.load.Load.{Load}
use Rattle.elf_image.specs.declared.fault.ElfFault.{ElfFault}
use Rattle.elf_image.specs.Image.{byte_at, bytes_of, is_file, is_file_of, is_met, load_meets_page, runs, segment_of, segments_of, up_to_last}
use Rattle.elf_image.specs.Loads.{has_memory, is_bad, load_fault, load_onto, loads_onto}
use Rattle.elf_image.specs.inner.Joined.{AreLoads, AreSound, IsLoad, is_memory_of}
use Rattle.elf_image.proofs.Bytes.{byte_none}
use Rattle.elf_image.proofs.Order.{count_cons}
use Rattle.elf_image.proofs.Pages.{runs_has}
use Rattle.elf_image.proofs.Walk.{fit}
use Rattle.plan_laws.specs.Executable.{HasByte, IsLoaded}

-- ---- l is one of these loads
abbrev pub Among : Load → List Load → Type 0
Among l [] = ⊥
Among l (m ∷ ms) = (m ≡ l) ⊎ Among l ms

behind_option : (l : Load) (o : Option Load) (ls : List Load) → Among l ls → Among l (cons_option o ls)
behind_option l None ls k = k
behind_option l (Some m) ls k = inr k

-- a load that a number gives is one of those that the numbers give
pub given : (f : ℕ → Option Load) (a n i j : ℕ) (l : Load) → a + i ≡ j → i < n → f j ≡ Some l → Among l (filter_map f (range_with_len a n))
given f a zero i j l at h e = absurd (omega (arith, h))
given f a (suc n) zero j l at h e =
    let here : a ≡ j = omega (arith, at) in
    subst (λ o. Among l (cons_option o (filter_map f (range_with_len (a + 1) n)))) (sym (ap f here ∙ e)) (inl refl)
given f a (suc n) (suc i) j l at h e =
    behind_option l (f a) (filter_map f (range_with_len (a + 1) n)) (given f (a + 1) n i j l (omega (arith, at)) (omega (arith, h)) e)

-- ---- loads that were taken up one after another: all of them, and each has room for its bytes
pub all_taken : (n : ℕ) (earlier ls out : List Load) → loads_onto n earlier ls ≡ Ok out → earlier ++ ls ≡ out
unfolding loads_onto load_onto
all_taken n earlier [] out e = append-nil earlier ∙ ok_same {F = ElfFault} earlier out e
all_taken n earlier (l ∷ ls) out e =
    let a = bind_ok (load_onto n earlier l) (λ more. loads_onto n more ls) out e in
    let b = bind_ok (unless (load_fault n earlier l)) (λ _. Ok (earlier ++ l ∷ [])) a.0 a.1 in
    let same = ok_same {F = ElfFault} (earlier ++ l ∷ []) a.0 b.2 in
    sym (append_assoc earlier (l ∷ []) ls) ∙ ap (λ xs. xs ++ ls) same ∙ all_taken n a.0 ls out a.2

roomy : (l : Load) → is_bad l ≡ false → l.filesz ≤ l.memsz
roomy l e = let a = (or_parts (nat_lt l.memsz l.filesz) _ e).0 in grind (arith, nat_tests)

pub all_roomy : (n : ℕ) (earlier ls out : List Load) (l : Load) → loads_onto n earlier ls ≡ Ok out → Among l ls → l.filesz ≤ l.memsz
unfolding loads_onto load_onto
all_roomy n earlier [] out l e k = absurd k
all_roomy n earlier (m ∷ ls) out l e (inl is) =
    let a = bind_ok (load_onto n earlier m) (λ more. loads_onto n more ls) out e in
    let b = bind_ok (unless (load_fault n earlier m)) (λ _. Ok (earlier ++ m ∷ [])) a.0 a.1 in
    subst (λ (l : Load). l.filesz ≤ l.memsz) is (roomy m (fit n earlier m b.1).good)
all_roomy n earlier (m ∷ ls) out l e (inr k) =
    let a = bind_ok (load_onto n earlier m) (λ more. loads_onto n more ls) out e in
    all_roomy n a.0 ls out l a.2 k

-- one that has memory is one of those that have
pub kept : (l : Load) (ls : List Load) → has_memory l ≡ true → Among l ls → Among l (filter has_memory ls)
kept l [] h k = k
kept l (m ∷ ms) h (inl e) = subst (Among l) (sym (cond-true (has_memory m) (m ∷ filter has_memory ms) (filter has_memory ms) (ap has_memory e ∙ h))) (inl e)
kept l (m ∷ ms) h (inr k) = by (has_memory m) (kept l ms h k)
  where
    by : (b : Bool) → Among l (filter has_memory ms) → Among l (cond b (m ∷ filter has_memory ms) (filter has_memory ms))
    by true k = inr k
    by false k = k

-- ---- the byte at an address of its memory
not_file : (a : ℕ) (m : Load) → m.filesz ≤ m.memsz → is_memory_of a m ≡ false → is_file_of a m ≡ false
not_file a m room e = grind (arith, nat_tests)

counted : (a : ℕ) (m : Load) (b : Bool) → is_memory_of a m ≡ b → cond (is_memory_of a m) 1 0 ≡ cond {A = ℕ} b 1 0
counted a m b is = ap (λ b. cond {A = ℕ} b 1 0) is

no_file : (n a : ℕ) (ls : List Load) → AreLoads n ls → count_by (is_memory_of a) ls ≡ 0 → is_file ls a ≡ false
no_file n a [] k e = refl
no_file n a (m ∷ ms) k e = by (is_memory_of a m) refl (λ none. no_file n a ms k.1 none)
  where
    by : (b : Bool) → is_memory_of a m ≡ b → (count_by (is_memory_of a) ms ≡ 0 → is_file ms a ≡ false) → is_file (m ∷ ms) a ≡ false
    by true is rest = absurd (omega (arith, count_cons a m ms, counted a m true is, e))
    by false is rest =
        ap (λ b. b || is_file ms a) (not_file a m k.0.fits is)
        ∙ rest (omega (arith, count_cons a m ms, counted a m false is, e))

at_least : (a : ℕ) (l : Load) (ls : List Load) → Among l ls → is_memory_of a l ≡ true → 1 ≤ count_by (is_memory_of a) ls
at_least a l [] k h = absurd k
at_least a l (m ∷ ms) (inl e) h = omega (arith, count_cons a m ms, counted a m true (ap (is_memory_of a) e ∙ h))
at_least a l (m ∷ ms) (inr k) h = omega (arith, count_cons a m ms, at_least a l ms k h)

abbrev own_byte : ℕ → List ℕ → Load → ℕ → ℕ
own_byte a file l rest = cond (is_file_of a l) (slice_index file (l.offset + (a - l.paddr))) rest

byte_is : (n a : ℕ) (file : List ℕ) (l : Load) (ls : List Load) → AreLoads n ls → count_by (is_memory_of a) ls ≤ 1 → Among l ls → is_memory_of a l ≡ true → byte_at file ls a ≡ own_byte a file l 0
byte_is n a file l [] k one h m = absurd h
byte_is n a file l (x ∷ xs) k one (inl e) m =
    let none = byte_none file xs a (no_file n a xs k.1 (omega (arith, one, count_cons a x xs, counted a x true (ap (is_memory_of a) e ∙ m)))) in
    ap (own_byte a file x) none ∙ ap (λ l. own_byte a file l 0) e
byte_is n a file l (x ∷ xs) k one (inr h) m = by (is_memory_of a x) refl (byte_is n a file l xs k.1 (omega (arith, one, count_cons a x xs)) h m)
  where
    by : (b : Bool) → is_memory_of a x ≡ b → byte_at file xs a ≡ own_byte a file l 0 → byte_at file (x ∷ xs) a ≡ own_byte a file l 0
    by true is rest = absurd (omega (arith, one, count_cons a x xs, counted a x true is, at_least a l xs h m))
    by false is rest = cond-false (is_file_of a x) _ _ (not_file a x k.0.fits is) ∙ rest

-- ---- the segment that has an address
span_low : (r : Run) (q : ℕ) → in_span r q ≡ true → r.first ≤ q
span_low r q e = grind (arith, nat_tests)

span_high : (r : Run) (q : ℕ) → in_span r q ≡ true → q < r.first + r.count
span_high r q e = grind (arith, nat_tests)

in_runs : (rs : List Run) (q : ℕ) → in_spans rs q ≡ true → (i : ℕ) × (r : Run) × (slice_get rs i ≡ Some r) × (in_span r q ≡ true)
in_runs [] q e = cc
in_runs (r ∷ rs) q e = by (in_span r q) refl e (λ e. in_runs rs q e)
  where
    by : (b : Bool) → in_span r q ≡ b → (b || in_spans rs q) ≡ true → (in_spans rs q ≡ true → (i : ℕ) × (x : Run) × (slice_get rs i ≡ Some x) × (in_span x q ≡ true)) → (i : ℕ) × (x : Run) × (slice_get (r ∷ rs) i ≡ Some x) × (in_span x q ≡ true)
    by true is e rest = (0, r, refl, is)
    by false is e rest = let k = rest e in (suc k.0, k.1, k.2, k.3)

behind_last : (f : ℕ → Bool) (n k : ℕ) → up_to_last f n ≤ k → k < n → f k ≡ false
unfolding up_to_last
behind_last f zero k h l = absurd (omega (arith, l))
behind_last f (suc n) k h l = by (f n) refl h (λ h less. behind_last f n k h less)
  where
    by : (b : Bool) → f n ≡ b → cond b (suc n) (up_to_last f n) ≤ k → (up_to_last f n ≤ k → k < n → f k ≡ false) → f k ≡ false
    by true is h rest = absurd (omega (arith, h, l))
    by false is h rest =
        elim (cases_lt k n) [
          | inl less ↦ rest h less
          | inr more ↦ (let e : k ≡ n = omega (arith, more, l) in ap f e) ∙ is
        ]

-- where the bytes of a run of pages end
abbrev length_of : List Load → ℕ → ℕ → ℕ
length_of ls a n = up_to_last (λ k. is_file ls (a + k)) n

index_of_bytes : (file : List ℕ) (ls : List Load) (a n k : ℕ) → k < n → slice_index (bytes_of file ls a n) k ≡ byte_at file ls (a + k)
index_of_bytes file ls a n k h =
    elim (cases_lt k (length_of ls a n)) [
      | inl less ↦ get_or-map-range_with_len (byte_at file ls) a (length_of ls a n) k (a + k) 0 less refl
      | inr more ↦ get_or-eq_default (bytes_of file ls a n) 0 (let long = length-map-range_with_len (byte_at file ls) a (length_of ls a n) in omega (arith, long, more))
          ∙ sym (byte_none file ls (a + k) (behind_last (λ k. is_file ls (a + k)) n k more h))
    ]

-- an address of a page that is met has its byte in a segment
stands : (file : List ℕ) (ls : List Load) (a : ℕ) → a < 2 ^ 46 → is_met ls (a / 4096) ≡ true → HasByte a (byte_at file ls a) (segments_of file ls)
stands file ls a low met =
    let x = in_runs (runs (is_met ls) 0 (2 ^ 34)) (a / 4096) (runs_has (is_met ls) 0 (2 ^ 34) (a / 4096) (omega arith) (omega arith) (omega (arith, low)) ∙ met) in
    let r = x.1 in
    let from = span_low r (a / 4096) x.3 in
    let to = span_high r (a / 4096) x.3 in
    let place : 4096 * r.first + (a - 4096 * r.first) ≡ a = omega (arith, from) in (
      segment_of file ls r,
      (x.0, slice_get-map (segment_of file ls) (runs (is_met ls) 0 (2 ^ 34)) x.0 ∙ ap (option_map (segment_of file ls)) x.2),
      (omega (arith, from), omega (arith, to)),
      index_of_bytes file ls (4096 * r.first) (4096 * r.count) (a - 4096 * r.first) (omega (arith, from, to)) ∙ ap (byte_at file ls) place,
    )

meets : (a : ℕ) (l : Load) → is_memory_of a l ≡ true → load_meets_page (a / 4096) l ≡ true
meets a l e = grind (arith, nat_tests)

met : (p : ℕ) (l : Load) (ls : List Load) → load_meets_page p l ≡ true → Among l ls → is_met ls p ≡ true
met p l [] h k = absurd k
met p l (m ∷ ms) h (inl e) = ap (λ b. b || is_met ms p) (ap (load_meets_page p) e ∙ h)
met p l (m ∷ ms) h (inr k) = by (load_meets_page p m) (met p l ms h k)
  where
    by : (b : Bool) → is_met ms p ≡ true → (b || is_met ms p) ≡ true
    by true k = refl
    by false k = k

of_load : (n : ℕ) (l : Load) (ls : List Load) → AreLoads n ls → Among l ls → IsLoad n l
of_load n l [] k h = absurd h
of_load n l (m ∷ ms) k (inl e) = subst (IsLoad n) e k.0
of_load n l (m ∷ ms) k (inr h) = of_load n l ms k.1 h

in_memory : (a : ℕ) (l : Load) → l.paddr ≤ a → a < l.paddr + l.memsz → is_memory_of a l ≡ true
in_memory a l h k = grind (arith, nat_tests)

in_file : (a : ℕ) (l : Load) → l.paddr ≤ a → a < l.paddr + l.filesz → is_file_of a l ≡ true
in_file a l h k = grind (arith, nat_tests)

past_file : (a : ℕ) (l : Load) → l.paddr + l.filesz ≤ a → is_file_of a l ≡ false
past_file a l h = grind (arith, nat_tests)

-- each byte of a load stands in a segment of the image
pub load_stands : (n : ℕ) (file : List ℕ) (l : Load) (ls : List Load) → AreSound n ls → Among l ls → IsLoaded file l.offset l.paddr l.filesz l.memsz (segments_of file ls)
load_stands n file l ls sound h =
    let good = of_load n l ls sound.each h in
    let fits = good.fits in
    let low = good.low in
    let at = λ (k : ℕ) (inside : k < l.memsz).
    (let m = in_memory (l.paddr + k) l (omega arith) (omega (arith, inside)) in
    subst (λ byte. HasByte (l.paddr + k) byte (segments_of file ls)) (byte_is n (l.paddr + k) file l ls sound.each (sound.apart (l.paddr + k)) h m)
    (stands file ls (l.paddr + k) (omega (arith, low, inside)) (met ((l.paddr + k) / 4096) l ls (meets (l.paddr + k) l m) h))) in
    record {
      bytes = λ k inside.
          subst (λ byte. HasByte (l.paddr + k) byte (segments_of file ls))
          (cond-true (is_file_of (l.paddr + k) l) _ _ (in_file (l.paddr + k) l (omega arith) (omega (arith, inside))) ∙ (let e : l.offset + (l.paddr + k - l.paddr) ≡ l.offset + k = omega arith in ap (slice_index file) e))
          (at k (omega (arith, inside, fits)));
      zeros = λ k past inside.
          subst (λ byte. HasByte (l.paddr + k) byte (segments_of file ls))
          (cond-false (is_file_of (l.paddr + k) l) _ _ (past_file (l.paddr + k) l (omega (arith, past))))
          (at k inside);
    }
