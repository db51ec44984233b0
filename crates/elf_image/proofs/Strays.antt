-- The symbols of a section of relocations, entry by entry.
use Rattle.std.proofs.Common.{◌≡◌, ℕ, ◌+◌, ◌*◌, ◌<◌, ◌≤◌, List, length, get_or, Bool, true, false, cond, refl, sym, ap, ◌∙◌, subst, Ok, Err, Some, None, inl, inr, arith}
use Rattle.std.specs.Prelude.{nat_lt, not}
use Rattle.std.specs.List.{position_or_len, range_with_len}
use Rattle.std.proofs.lemmas.Bool.{cases_lt}
use Rattle.std.proofs.lemmas.Bool.Decides.{nat_tests}
use Rattle.std.proofs.lemmas.List.Sums.{position_or_len_is, fails_before_first}
use Rattle.std.proofs.lemmas.List.FromFn.{length-range_with_len, get_or-range_with_len}
use Rattle.kx_laws.specs.Results.{unless_at}
use Rattle.elf_image.specs.declared.fault.ElfFault.TheVariants as faults
use Rattle.elf_image.specs.declared.reloc.Reloc.{Reloc}
use Rattle.elf_image.specs.declared.reloc.RelocSection.{RelocSection}
use Rattle.elf_image.specs.Reloc.{entry_of, entry_place, is_stray, test_symbols}
use Rattle.elf_image.specs.inner.Reloc.{has_symbol}

number : (n k : ℕ) → k < n → get_or (range_with_len 0 n) k 0 ≡ k
number n k below = get_or-range_with_len 0 n k 0 below ∙ omega arith

-- the first number below n that passes the test, or n
first_is : (p : ℕ → Bool) (n i : ℕ) → i ≤ n → ((k : ℕ) → k < i → p k ≡ false) → (i < n → p i ≡ true) → position_or_len p (range_with_len 0 n) ≡ i
first_is p n i within before here =
    let long = length-range_with_len 0 n in
    position_or_len_is p (range_with_len 0 n) i 0 (subst (λ m. i ≤ m) (sym long) within)
    (λ k l. ap p (number n k (omega (arith, l, within))) ∙ before k l)
    (λ l. let below : i < n = omega (arith, l, long) in ap p (number n i below) ∙ here below)

told : (file : List ℕ) (symbols : ℕ) (s : RelocSection) (i : ℕ) (b : Bool)
    → position_or_len (is_stray file symbols s) (range_with_len 0 s.count) ≡ i
    → nat_lt i s.count ≡ b
    → test_symbols file symbols s ≡ unless_at (λ k. faults.BadIndex (entry_place s k + 8)) (cond b (Some i) None)
unfolding test_symbols
told file symbols s i b is below =
    let p = is_stray file symbols s in
    let xs = range_with_len 0 s.count in
    ap (λ m. unless_at (λ k. faults.BadIndex (entry_place s k + 8)) (cond (nat_lt m (length xs)) (Some m) None)) is
    ∙ ap (λ m. unless_at (λ k. faults.BadIndex (entry_place s k + 8)) (cond (nat_lt i m) (Some i) None)) (length-range_with_len 0 s.count)
    ∙ ap (λ b. unless_at (λ k. faults.BadIndex (entry_place s k + 8)) (cond b (Some i) None)) below

-- entry k, as it was read
pub is_here : (file : List ℕ) (symbols : ℕ) (s : RelocSection) (k : ℕ) (r : Reloc) → r ≡ entry_of file s k → symbols ≤ r.symbol → is_stray file symbols s k ≡ true
is_here file symbols s k r is past =
    let beyond : nat_lt r.symbol symbols ≡ false = grind (arith, nat_tests, past) in
    sym (ap (λ (r : Reloc). not (nat_lt r.symbol symbols)) is) ∙ ap not beyond

-- an entry that was noted to have its symbol
pub passed_over : (file : List ℕ) (symbols : ℕ) (s : RelocSection) (k : ℕ) → has_symbol file symbols (s.offset + 24 * k) ≡ true → is_stray file symbols s k ≡ false
unfolding has_symbol entry_of
passed_over file symbols s k has = ap not has

-- the same of those up to k, where it is none itself
pub one_more : (file : List ℕ) (symbols : ℕ) (s : RelocSection) (k : ℕ) (r : Reloc) → ((j : ℕ) → j < k → is_stray file symbols s j ≡ false) → r ≡ entry_of file s k → r.symbol < symbols → (j : ℕ) → j < k + 1 → is_stray file symbols s j ≡ false
one_more file symbols s k r before is below j least = elim (cases_lt j k) [ inl l ↦ before j l | inr l ↦ subst (λ i. is_stray file symbols s i ≡ false) (omega (arith, l, least)) here ]
  where
    here : is_stray file symbols s k ≡ false
    here = let within : nat_lt r.symbol symbols ≡ true = grind (arith, nat_tests, below) in sym (ap (λ (r : Reloc). not (nat_lt r.symbol symbols)) is) ∙ ap not within

pub none_stray : (file : List ℕ) (symbols : ℕ) (s : RelocSection) → ((k : ℕ) → k < s.count → is_stray file symbols s k ≡ false) → test_symbols file symbols s ≡ Ok tt
none_stray file symbols s none =
    let n = s.count in
    let is = first_is (is_stray file symbols s) n n (omega arith) none (λ l. absurd (omega (arith, l))) in
    told file symbols s n false is (grind (arith, nat_tests))

pub first_stray : (file : List ℕ) (symbols : ℕ) (s : RelocSection) (k : ℕ) → k < s.count → ((j : ℕ) → j < k → is_stray file symbols s j ≡ false) → is_stray file symbols s k ≡ true → test_symbols file symbols s ≡ Err (faults.BadIndex (entry_place s k + 8))
first_stray file symbols s k below before here =
    let is = first_is (is_stray file symbols s) s.count k (omega (arith, below)) before (λ _. here) in
    told file symbols s k true is (grind (arith, nat_tests, below))

is_symbol : (n m : ℕ) → not (nat_lt n m) ≡ false → n < m
is_symbol n m h = by (nat_lt n m) refl h
  where
    by : (b : Bool) → nat_lt n m ≡ b → not b ≡ false → n < m
    by true t h = grind (arith, nat_tests)
    by false t h = cc

pub all_symbols : (file : List ℕ) (symbols : ℕ) (s : RelocSection) → test_symbols file symbols s ≡ Ok tt → (k : ℕ) → k < s.count → (entry_of file s k).symbol < symbols
all_symbols file symbols s h k below = by (nat_lt first s.count) refl
  where
    first : ℕ
    first = position_or_len (is_stray file symbols s) (range_with_len 0 s.count)

    by : (b : Bool) → nat_lt first s.count ≡ b → (entry_of file s k).symbol < symbols
    by true t = let e = sym (told file symbols s first true refl t) ∙ h in cc
    by false t =
        let past : k < first = grind (arith, nat_tests, below) in
        is_symbol (entry_of file s k).symbol symbols
        (sym (ap (is_stray file symbols s) (number s.count k below)) ∙ fails_before_first (is_stray file symbols s) (range_with_len 0 s.count) k 0 past)
