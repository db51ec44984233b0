-- Loads that are read one after another.
use Rattle.std.proofs.Common.{◌≡◌, ℕ, suc, ◌+◌, ◌<◌, ◌≤◌, ◌^◌, List, [], ◌∷◌, ◌++◌, length, Bool, true, false, cond, refl, sym, ap, ◌∙◌, subst, Ok, Err, Result, Option, Some, None, inl, inr, arith}
use Rattle.std.specs.Prelude.{nat_lt, not}
use Rattle.std.specs.Option.{option_map}
use Rattle.std.specs.List.{list_any, position, position_or_len, filter_map, range_with_len, cons_option}
use Rattle.std.proofs.lemmas.Bool.Decides.{nat_tests}
use Rattle.std.proofs.lemmas.Bool.{or_parts, or_cases, lt-ltb, le-ltb, cond-true, cond-false, false_from_ne_true, false≢true}
use Rattle.elf_image.specs.declared.load.Load.{Load}
use Rattle.elf_image.specs.declared.fault.ElfFault.{ElfFault}
use Rattle.elf_image.specs.declared.fault.ElfFault.TheVariants as faults
use Rattle.elf_image.specs.declared.file_header.Header.{Header}
use Rattle.kx_laws.specs.Results.{◌>>=◌, unless}
use Rattle.elf_image.proofs.Failing.{Fails, fails_err, fails_on}
use Rattle.elf_image.specs.ProgramHeader.{load_at}
use Rattle.elf_image.specs.Loads.{load_stop, is_bad, is_cut, loads_meet, load_fault, load_onto, loads_onto}
use Rattle.elf_image.specs.inner.Loads.{meets_any, entry_onto}

-- ---- a load behind the others
pub position-none : (p : Load → Bool) (ls : List Load) → list_any p ls ≡ false → position p ls ≡ None
position-none p ls h = cond-false _ _ _ (le-ltb _ _ (past p ls h))
  where
    past : (p : Load → Bool) (ls : List Load) → list_any p ls ≡ false → length ls ≤ position_or_len p ls
    past p [] h = omega arith
    past p (l ∷ ls) h =
        let a = or_parts (p l) (list_any p ls) h in
        rw a.0 (omega (arith, past p ls a.1))

found : (p : Load → Bool) (ls : List Load) → list_any p ls ≡ true → position_or_len p ls < length ls
found p [] h = absurd (false≢true h)
found p (l ∷ ls) h =
    elim (or_cases (p l) (list_any p ls) h) [ inl t ↦ here (p l) (position_or_len p ls) (length ls) t | inr t ↦ later (p l) (position_or_len p ls) (length ls) (found p ls t) ]
  where
    here : (b : Bool) (n m : ℕ) → b ≡ true → cond (not b) (1 + n) 0 < suc m
    here true n m h = omega arith
    here false n m h = cc

    later : (b : Bool) (n m : ℕ) → n < m → cond (not b) (1 + n) 0 < suc m
    later true n m h = omega arith
    later false n m h = omega arith

some_position : (p : Load → Bool) (ls : List Load) → list_any p ls ≡ true → position p ls ≡ None → ⊥
some_position p ls h none =
    let t : nat_lt (position_or_len p ls) (length ls) ≡ true = lt-ltb _ _ (found p ls h) in
    let e : position p ls ≡ Some (position_or_len p ls) = cond-true _ _ _ t in cc

-- a load without a fault meets none of the others
pub record IsFit (n : ℕ) (ls : List Load) (l : Load) : Type 0 where
  pub good : is_bad l ≡ false
  pub whole : is_cut n l ≡ false
  pub apart : position (loads_meet l) ls ≡ None

pub peel : (b : Bool) (x : ElfFault) (rest : Option ElfFault) → unless (cond b (Some x) rest) ≡ Ok tt → (b ≡ false) × (unless rest ≡ Ok tt)
peel true x rest h = cc
peel false x rest h = (refl, h)

none_told : (f : ℕ → ElfFault) (o : Option ℕ) → unless (option_map f o) ≡ Ok tt → o ≡ None
none_told f None h = refl
none_told f (Some x) h = cc

pub fit : (n : ℕ) (ls : List Load) (l : Load) → unless (load_fault n ls l) ≡ Ok tt → IsFit n ls l
unfolding load_fault
fit n ls l h =
    let a = peel (is_bad l) _ _ h in
    let b = peel (is_cut n l) _ _ a.1 in
    record { good = a.0; whole = b.0; apart = none_told (faults.LoadsOverlap (length ls)) (position (loads_meet l) ls) b.1 }

pub fit_low : (n : ℕ) (ls : List Load) (l : Load) → IsFit n ls l → load_stop l ≤ 2 ^ 46
fit_low n ls l f =
    let a = (or_parts (nat_lt l.memsz l.filesz) _ f.good).1 in grind (arith, nat_tests)

pub fit_apart : (n : ℕ) (ls : List Load) (l : Load) → IsFit n ls l → meets_any l ls ≡ false
fit_apart n ls l f = false_from_ne_true (meets_any l ls) (λ h. absurd (some_position (loads_meet l) ls h f.apart))

pub onto_ok : (n : ℕ) (ls : List Load) (l : Load) → unless (load_fault n ls l) ≡ Ok tt → load_onto n ls l ≡ Ok (ls ++ l ∷ [])
unfolding load_onto
onto_ok n ls l h = ap (λ r. r >>= λ _. Ok (ls ++ l ∷ [])) h

pub onto_err : (n : ℕ) (ls : List Load) (l : Load) (e : ElfFault) → unless (load_fault n ls l) ≡ Err e → Fails e (load_onto n ls l)
unfolding load_onto
onto_err n ls l e h = fails_err e _ (ap (λ r. r >>= λ _. Ok (ls ++ l ∷ [])) h)

-- ---- one program header after another
abbrev pub entries : Header → List ℕ → ℕ → ℕ → List Load
entries h bytes k m = filter_map (load_at h bytes) (range_with_len k m)

entry_then : (n : ℕ) (ls : List Load) (o : Option Load) (rest : List Load) → loads_onto n ls (cons_option o rest) ≡ (entry_onto n ls o >>= λ more. loads_onto n more rest)
unfolding loads_onto
entry_then n ls None rest = refl
entry_then n ls (Some l) rest = refl

step : (h : Header) (bytes : List ℕ) (n k m j : ℕ) (ls : List Load) → m ≡ suc j → loads_onto n ls (entries h bytes k m) ≡ (entry_onto n ls (load_at h bytes k) >>= λ more. loads_onto n more (entries h bytes (k + 1) j))
step h bytes n k m j ls e = ap (λ i. loads_onto n ls (entries h bytes k i)) e ∙ entry_then n ls (load_at h bytes k) (entries h bytes (k + 1) j)

pub step_ok : (h : Header) (bytes : List ℕ) (n k m j : ℕ) (ls more : List Load) (all : Result (List Load) ElfFault) → m ≡ suc j → entry_onto n ls (load_at h bytes k) ≡ Ok more → loads_onto n ls (entries h bytes k m) ≡ all → loads_onto n more (entries h bytes (k + 1) j) ≡ all
step_ok h bytes n k m j ls more all e is same =
    sym (ap (λ r. r >>= λ more. loads_onto n more (entries h bytes (k + 1) j)) is) ∙ sym (step h bytes n k m j ls e) ∙ same

pub step_fails : (h : Header) (bytes : List ℕ) (n k m j : ℕ) (ls : List Load) (all : Result (List Load) ElfFault) (f : ElfFault) → m ≡ suc j → Fails f (entry_onto n ls (load_at h bytes k)) → loads_onto n ls (entries h bytes k m) ≡ all → Fails f all
step_fails h bytes n k m j ls all f e is same =
    subst (Fails f) (sym (step h bytes n k m j ls e) ∙ same) (fails_on f _ (λ more. loads_onto n more (entries h bytes (k + 1) j)) is)

pub step_end : (h : Header) (bytes : List ℕ) (n k m : ℕ) (ls : List Load) (all : Result (List Load) ElfFault) → m ≡ 0 → loads_onto n ls (entries h bytes k m) ≡ all → all ≡ Ok ls
unfolding loads_onto
step_end h bytes n k m ls all e same = sym same ∙ ap (λ i. loads_onto n ls (entries h bytes k i)) e
