-- What the loads of a file that was read keep.
use Rattle.std.proofs.Common.{◌≡◌, ℕ, ◌+◌, ◌^◌, ◌<◌, ◌≤◌, List, [], ◌∷◌, ◌++◌, length, Bool, true, false, cond, refl, sym, ap, ◌∙◌, subst, Ok, Err, Result, arith}
use Rattle.std.specs.Prelude.{nat_lt, filter}
use Rattle.std.specs.List.{AllByRecursion, count_by}
use Rattle.std.proofs.lemmas.Bool.Decides.{nat_tests}
use Rattle.std.proofs.lemmas.Bool.{or_parts, false_from_ne_true, both_ways, ltb-true, lt-ltb, le-ltb, cond-true, cond-false}
use Rattle.std.proofs.lemmas.List.Sums.{sum_by-append}
use Rattle.elf_image.specs.declared.load.Load.{Load}
use Rattle.elf_image.specs.declared.fault.ElfFault.{ElfFault}
use Rattle.elf_image.specs.declared.fault.ElfFault.TheVariants as faults
use Rattle.elf_image.specs.declared.file_header.Header.{Header}
use Rattle.segments.specs.Values.{SegmentValue}
use Rattle.elf_image.specs.Image.{page_count, segments_of, image}
use Rattle.kx_laws.specs.Results.{◌>>=◌, unless}
use Rattle.elf_image.specs.FileHeader.{exec_header}
use Rattle.elf_image.specs.ProgramHeader.{loads_of}
use Rattle.elf_image.specs.Loads.{Executable, load_stop, loads_meet, has_memory, load_fault, load_onto, loads_onto, read_loads, exec_reading}
use Rattle.elf_image.specs.inner.Loads.{meets_any}
use Rattle.elf_image.specs.inner.Joined.{AreLoads, AreSound, is_memory_of}
use Rattle.elf_image.proofs.Walk.{IsFit, fit, fit_apart}
use Rattle.elf_image.proofs.Order.{count_cons}

record IsPlaced (n : ℕ) (l : Load) : Type 0 where
  fits : l.filesz ≤ l.memsz
  low : load_stop l ≤ 2 ^ 46
  inside : l.offset + l.filesz ≤ n

-- the loads so far
record AreMade (n : ℕ) (ls : List Load) : Type 0 where
  each : AllByRecursion (IsPlaced n) ls
  apart : (a : ℕ) → count_by (is_memory_of a) ls ≤ 1

fit_is_placed : (n : ℕ) (ls : List Load) (l : Load) → IsFit n ls l → IsPlaced n l
fit_is_placed n ls l f =
    let a = or_parts (nat_lt l.memsz l.filesz) (nat_lt (2 ^ 46) (load_stop l)) f.good in
    record { fits = not_less _ _ a.0; low = not_less _ _ a.1; inside = not_less _ _ f.whole }
  where
    not_less : (a b : ℕ) → nat_lt a b ≡ false → b ≤ a
    not_less a b h = grind (arith, nat_tests)

memory_both : (a : ℕ) (l m : Load) → is_memory_of a l ≡ true → is_memory_of a m ≡ true → loads_meet l m ≡ true
memory_both a l m h k = grind (arith, nat_tests)

none_there : (a : ℕ) (l : Load) (ls : List Load) → is_memory_of a l ≡ true → meets_any l ls ≡ false → count_by (is_memory_of a) ls ≡ 0
none_there a l [] h k = refl
none_there a l (m ∷ ms) h k =
    let p = or_parts (loads_meet l m) (meets_any l ms) k in
    let no : is_memory_of a m ≡ false = false_from_ne_true (is_memory_of a m) (λ t. absurd (both_ways (loads_meet l m) p.0 (memory_both a l m h t))) in
    let e = count_cons a m ms ∙ ap (λ b. cond b 1 0 + count_by (is_memory_of a) ms) no in
    let z = none_there a l ms h p.1 in omega (arith, e, z)

all_more : (n : ℕ) (ls : List Load) (l : Load) → AllByRecursion (IsPlaced n) ls → IsPlaced n l → AllByRecursion (IsPlaced n) (ls ++ l ∷ [])
all_more n [] l g h = (h, tt)
all_more n (x ∷ xs) l g h = (g.0, all_more n xs l g.1 h)

more_made : (n : ℕ) (ls : List Load) (l : Load) → AreMade n ls → IsFit n ls l → AreMade n (ls ++ l ∷ [])
more_made n ls l m f = record {
  each = all_more n ls l m.each (fit_is_placed n ls l f);
  apart = λ a. let e = sum_by-append (λ x. cond (is_memory_of a x) 1 0) ls (l ∷ []) in
      let o = count_cons a l [] in
      bounded a l ls (is_memory_of a l) refl (fit_apart n ls l f) (m.apart a) e o;
}
  where
    bounded : (a : ℕ) (l : Load) (ls : List Load) (b : Bool) → is_memory_of a l ≡ b → meets_any l ls ≡ false → count_by (is_memory_of a) ls ≤ 1 → count_by (is_memory_of a) (ls ++ l ∷ []) ≡ count_by (is_memory_of a) ls + count_by (is_memory_of a) (l ∷ []) → count_by (is_memory_of a) (l ∷ []) ≡ cond (is_memory_of a l) 1 0 + 0 → count_by (is_memory_of a) (ls ++ l ∷ []) ≤ 1
    bounded a l ls true h apart one e o =
        let z = none_there a l ls h apart in let y = o ∙ ap (λ b. cond b 1 0 + 0) h in omega (arith, e, y, z)
    bounded a l ls false h apart one e o = let y = o ∙ ap (λ b. cond b 1 0 + 0) h in omega (arith, e, y, one)

onto_made : (n : ℕ) (ls more out : List Load) → AreMade n ls → loads_onto n ls more ≡ Ok out → AreMade n out
unfolding loads_onto load_onto
onto_made n ls [] out m h = let e : ls ≡ out = cc in subst (AreMade n) e m
onto_made n ls (l ∷ more) out m h = picked n ls l more out m (unless (load_fault n ls l)) refl h (λ k t. onto_made n (ls ++ l ∷ []) more out k t)
  where
    picked : (n : ℕ) (ls : List Load) (l : Load) (more out : List Load) → AreMade n ls → (r : Result (Unit {0}) ElfFault) → unless (load_fault n ls l) ≡ r → (r >>= (λ _. Ok (ls ++ l ∷ [])) >>= (λ m. loads_onto n m more)) ≡ Ok out → (AreMade n (ls ++ l ∷ []) → loads_onto n (ls ++ l ∷ []) more ≡ Ok out → AreMade n out) → AreMade n out
    picked n ls l more out m (Ok u) e h ih = ih (more_made n ls l m (fit n ls l e)) h
    picked n ls l more out m (Err f) e h ih = cc

-- ---- those that have memory
kept_each : (n : ℕ) (ls : List Load) → AllByRecursion (IsPlaced n) ls → AreLoads n (filter has_memory ls)
kept_each n [] g = tt
kept_each n (l ∷ ls) g = picked n l ls g.0 (has_memory l) refl (kept_each n ls g.1)
  where
    picked : (n : ℕ) (l : Load) (ls : List Load) → IsPlaced n l → (b : Bool) → has_memory l ≡ b → AreLoads n (filter has_memory ls) → AreLoads n (cond b (l ∷ filter has_memory ls) (filter has_memory ls))
    picked n l ls g true e h = (record { some = ltb-true 0 l.memsz e; fits = g.fits; low = g.low; inside = g.inside }, h)
    picked n l ls g false e h = h

kept_count : (a : ℕ) (ls : List Load) → count_by (is_memory_of a) (filter has_memory ls) ≤ count_by (is_memory_of a) ls
kept_count a [] = omega arith
kept_count a (l ∷ ls) = picked a l ls (has_memory l) (kept_count a ls)
  where
    picked : (a : ℕ) (l : Load) (ls : List Load) (b : Bool) → count_by (is_memory_of a) (filter has_memory ls) ≤ count_by (is_memory_of a) ls → count_by (is_memory_of a) (cond b (l ∷ filter has_memory ls) (filter has_memory ls)) ≤ count_by (is_memory_of a) (l ∷ ls)
    picked a l ls true h = omega (arith, count_cons a l (filter has_memory ls), count_cons a l ls, h)
    picked a l ls false h = omega (arith, count_cons a l ls, h)

kept_sound : (n : ℕ) (ls : List Load) → AreMade n ls → AreSound n (filter has_memory ls)
kept_sound n ls m = record { each = kept_each n ls m.each; apart = λ a. let k = kept_count a ls in let o = m.apart a in omega (arith, k, o) }

-- ---- what was read
bind_ok : {A B : Type 0} (r : Result A ElfFault) (f : A → Result B ElfFault) (y : B) → (r >>= f) ≡ Ok y → (x : A) × (r ≡ Ok x) × (f x ≡ Ok y)
bind_ok (Ok x) f y h = (x, refl, h)
bind_ok (Err e) f y h = cc

none_made : (n : ℕ) → AreMade n []
none_made n = record { each = tt; apart = λ a. omega arith }

loads_sound : (bytes : List ℕ) (h : Header) (ls : List Load) → read_loads h bytes ≡ Ok ls → AreSound (length bytes) ls
unfolding read_loads
loads_sound bytes h ls e =
    let a = bind_ok (loads_onto (length bytes) [] (loads_of h bytes)) (λ xs. Ok (filter has_memory xs)) ls e in
    let s : filter has_memory a.0 ≡ ls = cc in
    subst (AreSound (length bytes)) s (kept_sound (length bytes) a.0 (onto_made (length bytes) [] (loads_of h bytes) a.0 (none_made (length bytes)) a.1))

loads_in : Result Executable ElfFault → List Load
loads_in (Ok e) = e.loads
loads_in (Err f) = []

pub exec_sound : (bytes : List ℕ) (e : Executable) → exec_reading bytes ≡ Ok e → AreSound (length bytes) e.loads
unfolding exec_reading loads_in
exec_sound bytes e h =
    let a = bind_ok (exec_header bytes) (λ h. read_loads h bytes >>= λ ls. Ok (record { wide = h.wide; entry = h.file.entry; loads = ls })) e h in
    let b = bind_ok (read_loads a.0 bytes) (λ ls. Ok (record { wide = a.0.wide; entry = a.0.file.entry; loads = ls })) e a.2 in
    subst (AreSound (length bytes)) (ap loads_in b.2) (loads_sound bytes a.0 b.0 b.1)

-- ---- the image
pub image_large : (file : List ℕ) (ls : List Load) (n : ℕ) → n ≡ page_count ls → 65536 < n → image file ls ≡ Err (faults.TooLarge n)
unfolding image
image_large file ls n e h = cond-true _ _ _ (lt-ltb 65536 (page_count ls) (omega (arith, e, h))) ∙ ap (λ k. Err (faults.TooLarge k)) (sym e)

pub image_made : (file : List ℕ) (ls : List Load) (n : ℕ) (ss : List SegmentValue) → n ≡ page_count ls → n ≤ 65536 → ss ≡ segments_of file ls → image file ls ≡ Ok ss
unfolding image
image_made file ls n ss e h is = cond-false _ _ _ (le-ltb 65536 (page_count ls) (omega (arith, e, h))) ∙ ap Ok (sym is)
