-- The pages that loads meet, as maximal runs.
use Rattle.std.proofs.Common.{◌≡◌, ℕ, zero, suc, ◌+◌, ◌-◌, ◌*◌, ◌/◌, ◌^◌, ◌<◌, ◌≤◌, ◌&&◌, ◌||◌, List, [], ◌∷◌, Bool, true, false, cond, refl, sym, ap, ◌∙◌, subst, inl, inr, arith}
use Rattle.std.specs.Prelude.{nat_le, nat_lt, ◌==◌, map}
use Rattle.std.proofs.lemmas.Bool.Decides.{nat_tests}
use Rattle.std.proofs.lemmas.Bool.{cases_lt, cases_eq, cond-true, cond-false, eq-eqb, ne_eqb, or_from}
use Rattle.kx_laws.proofs.Booleans.{or_shift}
use Rattle.kx_pages.specs.Ranges.{pages_for}
use Rattle.kx_pages.specs.Spans.{Run, end, in_span, in_spans, AreApart}
use Rattle.kx_pages.proofs.Spans.{low_none, none_above}
use Rattle.kx_pages.proofs.Same.{same_spans}
use Rattle.segments.specs.Values.{SegmentValue}
use Rattle.elf_image.specs.declared.load.Load.{Load}
use Rattle.elf_image.specs.Loads.{load_stop}
use Rattle.elf_image.specs.Image.{load_meets_page, is_met, with_number, runs, segment_of, segments_of}
use Rattle.elf_image.specs.inner.Image.{run_of, AreRuns}
use Rattle.elf_image.specs.inner.Joined.{IsLoad, AreLoads, Rise}

pub runs_same : (f g : ℕ → Bool) (p n : ℕ) → ((q : ℕ) → f q ≡ g q) → runs f p n ≡ runs g p n
unfolding runs
runs_same f g p zero h = refl
runs_same f g p (suc n) h = rw (h p, runs_same f g (suc p) n h) refl

-- ---- spans that are apart
apart_from : (b c : ℕ) (rs : List Run) → b ≤ c → AreApart c rs → AreApart b rs
apart_from b c [] h a = tt
apart_from b c (r ∷ rs) h a = (omega arith, a.1, a.2, a.3)

-- ---- the runs of a test
numbered_apart : (p : ℕ) (rs : List Run) → p < 2 ^ 34 → AreApart (suc p) rs → AreApart p (with_number p rs)
numbered_apart p [] h a = (omega arith, omega arith, omega arith, tt)
numbered_apart p (r ∷ rs) h a =
    elim (cases_eq r.first (suc p)) [
      | inl e ↦ subst (AreApart p) (sym (cond-true _ _ _ (eq-eqb _ _ e))) (omega arith, omega arith, omega arith, apart_from _ (end r + 1) rs (omega arith) a.3)
      | inr ne ↦ subst (AreApart p) (sym (cond-false _ _ _ (ne_eqb _ _ ne))) (omega arith, omega arith, omega arith, (omega arith, a.1, a.2, a.3))
    ]

pub runs_apart : (f : ℕ → Bool) (p n : ℕ) → p + n ≤ 2 ^ 34 → AreApart p (runs f p n)
unfolding runs
runs_apart f p zero h = tt
runs_apart f p (suc n) h = picked (f p) p (runs f (suc p) n) (omega arith) (runs_apart f (suc p) n (omega arith))
  where
    picked : (b : Bool) (p : ℕ) (rs : List Run) → p < 2 ^ 34 → AreApart (suc p) rs → AreApart p (cond b (with_number p rs) rs)
    picked true p rs h a = numbered_apart p rs h a
    picked false p rs h a = apart_from p (suc p) rs (omega arith) a

one_number : (p q : ℕ) → (nat_le p q && nat_lt q (p + 1)) ≡ (q == p)
one_number p q = grind (arith, nat_tests)

longer : (p q f c : ℕ) → f ≡ suc p → (nat_le p q && nat_lt q (p + suc c)) ≡ ((q == p) || (nat_le f q && nat_lt q (f + c)))
longer p q f c e = grind (arith, nat_tests)

numbered_has : (p : ℕ) (rs : List Run) (q : ℕ) → in_spans (with_number p rs) q ≡ ((q == p) || in_spans rs q)
numbered_has p [] q = ap (λ b. b || false) (one_number p q)
numbered_has p (r ∷ rs) q =
    elim (cases_eq r.first (suc p)) [
      | inl e ↦ ap (λ xs. in_spans xs q) (cond-true _ _ _ (eq-eqb _ _ e)) ∙ ap (λ b. b || in_spans rs q) (longer p q r.first r.count e) ∙ or_shift (q == p) (in_span r q) (in_spans rs q)
      | inr ne ↦ ap (λ xs. in_spans xs q) (cond-false _ _ _ (ne_eqb _ _ ne)) ∙ ap (λ b. b || in_spans (r ∷ rs) q) (one_number p q)
    ]

pub runs_has : (f : ℕ → Bool) (p n q : ℕ) → p + n ≤ 2 ^ 34 → p ≤ q → q < p + n → in_spans (runs f p n) q ≡ f q
unfolding runs
runs_has f p zero q h lo hi = absurd (omega arith)
runs_has f p (suc n) q h lo hi =
    elim (cases_eq q p) [
      | inl e ↦ here (f p) p q (runs f (suc p) n) e (low_none (suc p) (runs f (suc p) n) q (runs_apart f (suc p) n (omega arith)) (omega arith)) ∙ sym (ap f e)
      | inr ne ↦ there (f p) p q (runs f (suc p) n) ne ∙ runs_has f (suc p) n q (omega arith) (omega arith) (omega arith)
    ]
  where
    here : (b : Bool) (p q : ℕ) (rs : List Run) → q ≡ p → in_spans rs q ≡ false → in_spans (cond b (with_number p rs) rs) q ≡ b
    here true p q rs e none = numbered_has p rs q ∙ ap (λ b. b || in_spans rs q) (eq-eqb q p e)
    here false p q rs e none = none

    there : (b : Bool) (p q : ℕ) (rs : List Run) → (q ≡ p → ⊥) → in_spans (cond b (with_number p rs) rs) q ≡ in_spans rs q
    there true p q rs ne = numbered_has p rs q ∙ ap (λ b. b || in_spans rs q) (ne_eqb q p ne)
    there false p q rs ne = refl

-- ---- the runs of loads that rise
abbrev pub first_number : Load → ℕ
first_number l = l.paddr / 4096

abbrev pub end_number : Load → ℕ
end_number l = pages_for (load_stop l)

abbrev pub between : ℕ → ℕ → Run
between f e = record { first = f; count = e - f }

unfoldable pub run_to : ℕ → ℕ → List Load → List Run
run_to f e [] = between f e ∷ []
run_to f e (l ∷ ls) =
    cond (nat_le (first_number l) e) (run_to f (end_number l) ls) (between f e ∷ run_to (first_number l) (end_number l) ls)

unfoldable pub run_all : List Load → List Run
run_all [] = []
run_all (l ∷ ls) = run_to (first_number l) (end_number l) ls

-- the last load ends at s on the last page before page e
pub record Ends (s e : ℕ) : Type 0 where
  pub inside : s ≤ 4096 * e
  pub near : 4096 * e < s + 4096

pub ends_at : (l : Load) → Ends (load_stop l) (end_number l)
ends_at l = record { inside = omega arith; near = omega arith }

pub record Follows (s e : ℕ) (l : Load) : Type 0 where
  pub some : first_number l < end_number l
  pub on : e ≤ end_number l
  pub last : end_number l ≤ 2 ^ 34

pub follows : (n s e : ℕ) (l : Load) → IsLoad n l → Ends s e → s ≤ l.paddr → Follows s e l
follows n s e l g h k =
    let a = g.some in
    let b = g.low in
    let c = h.near in
    record { some = omega arith; on = omega arith; last = omega arith }

pub le_true : (a b : ℕ) → a ≤ b → nat_le a b ≡ true
le_true a b h = grind (arith, nat_tests)

pub le_false : (a b : ℕ) → b < a → nat_le a b ≡ false
le_false a b h = grind (arith, nat_tests)

run_apart : (n f e s : ℕ) (ls : List Load) → f < e → e ≤ 2 ^ 34 → Ends s e → Rise s ls → AreLoads n ls → AreApart f (run_to f e ls)
unfolding run_to
run_apart n f e s [] some last h r g = (omega arith, omega arith, omega arith, tt)
run_apart n f e s (l ∷ ls) some last h r g =
    let w = follows n s e l g.0 h r.0 in
    elim (cases_lt e (first_number l)) [
      | inr t ↦ subst (AreApart f) (sym (cond-true _ _ _ (le_true (first_number l) e t))) (run_apart n f (end_number l) (load_stop l) ls (omega (arith, w.on, some)) w.last (ends_at l) r.1 g.1)
      | inl t ↦ subst (AreApart f) (sym (cond-false _ _ _ (le_false (first_number l) e t))) (omega arith, omega arith, omega arith, apart_from _ (first_number l) _ (omega (arith, t, some)) (run_apart n (first_number l) (end_number l) (load_stop l) ls w.some w.last (ends_at l) r.1 g.1))
    ]

met_between : (l : Load) (q : ℕ) → 0 < l.memsz → in_span (between (first_number l) (end_number l)) q ≡ load_meets_page q l
met_between l q some = grind (arith, nat_tests)

run_on : (f g e h q : ℕ) → f ≤ g → g ≤ e → e ≤ h → f < e → g < h → in_span (between f h) q ≡ (in_span (between f e) q || in_span (between g h) q)
run_on f g e h q a b c d k = grind (arith, nat_tests)

run_has : (n f e s : ℕ) (ls : List Load) (q : ℕ) → f < e → e ≤ 2 ^ 34 → Ends s e → Rise s ls → AreLoads n ls → in_spans (run_to f e ls) q ≡ (in_span (between f e) q || is_met ls q)
unfolding run_to
run_has n f e s [] q some last h r g = refl
run_has n f e s (l ∷ ls) q some last h r g =
    let w = follows n s e l g.0 h r.0 in
    let near = h.near in
    let low = r.0 in
    let ordered : f ≤ first_number l = omega arith in
    let met = met_between l q g.0.some in
    elim (cases_lt e (first_number l)) [
      | inr t ↦ ap (λ xs. in_spans xs q) (cond-true _ _ _ (le_true (first_number l) e t))
          ∙ run_has n f (end_number l) (load_stop l) ls q (omega (arith, w.on, some)) w.last (ends_at l) r.1 g.1
          ∙ ap (λ b. b || is_met ls q) (run_on f (first_number l) e (end_number l) q ordered t w.on some w.some)
          ∙ or_shift (in_span (between f e) q) (in_span (between (first_number l) (end_number l)) q) (is_met ls q)
          ∙ ap (λ b. in_span (between f e) q || (b || is_met ls q)) met
      | inl t ↦ ap (λ xs. in_spans xs q) (cond-false _ _ _ (le_false (first_number l) e t))
          ∙ ap (λ b. in_span (between f e) q || b) (run_has n (first_number l) (end_number l) (load_stop l) ls q w.some w.last (ends_at l) r.1 g.1 ∙ ap (λ b. b || is_met ls q) met)
    ]

all_apart : (n : ℕ) (ls : List Load) → Rise 0 ls → AreLoads n ls → AreApart 0 (run_all ls)
unfolding run_all
all_apart n [] r g = tt
all_apart n (l ∷ ls) r g =
    let some = g.0.some in
    let low = g.0.low in
    apart_from 0 (first_number l) _ (omega arith) (run_apart n (first_number l) (end_number l) (load_stop l) ls (omega arith) (omega arith) (ends_at l) r.1 g.1)

all_has : (n : ℕ) (ls : List Load) (q : ℕ) → Rise 0 ls → AreLoads n ls → in_spans (run_all ls) q ≡ is_met ls q
unfolding run_all
all_has n [] q r g = refl
all_has n (l ∷ ls) q r g =
    let some = g.0.some in
    let low = g.0.low in
    run_has n (first_number l) (end_number l) (load_stop l) ls q (omega arith) (omega arith) (ends_at l) r.1 g.1 ∙ ap (λ b. b || is_met ls q) (met_between l q some)

-- the runs of loads that rise are the maximal runs of the pages that they meet
pub all_runs : (n : ℕ) (ls : List Load) → Rise 0 ls → AreLoads n ls → run_all ls ≡ runs (is_met ls) 0 (2 ^ 34)
all_runs n ls r g =
    let a = all_apart n ls r g in
    let b = runs_apart (is_met ls) 0 (2 ^ 34) (omega arith) in
    same_spans 0 0 (run_all ls) (runs (is_met ls) 0 (2 ^ 34)) a b (λ q. elim (cases_lt q (2 ^ 34)) [
      | inl l ↦ all_has n ls q r g ∙ sym (runs_has (is_met ls) 0 (2 ^ 34) q (omega arith) (omega arith) (omega arith))
      | inr l ↦ none_above 0 _ q a l ∙ sym (none_above 0 _ q b l)
    ])

-- ---- the runs of the segments
none_past : (n : ℕ) (ls : List Load) (q : ℕ) → AreLoads n ls → 2 ^ 34 ≤ q → is_met ls q ≡ false
none_past n [] q g h = refl
none_past n (l ∷ ls) q g h = or_from _ _ (not_met l q g.0.low h) (none_past n ls q g.1 h)
  where
    not_met : (l : Load) (q : ℕ) → load_stop l ≤ 2 ^ 46 → 2 ^ 34 ≤ q → load_meets_page q l ≡ false
    not_met l q low h = grind (arith, nat_tests)

are_runs : (n : ℕ) (ls : List Load) → AreLoads n ls → AreRuns (is_met ls) (runs (is_met ls) 0 (2 ^ 34))
are_runs n ls g =
    let a = runs_apart (is_met ls) 0 (2 ^ 34) (omega arith) in
    record {
      apart = a;
      numbers = λ q. elim (cases_lt q (2 ^ 34)) [
        | inl l ↦ runs_has (is_met ls) 0 (2 ^ 34) q (omega arith) (omega arith) (omega arith)
        | inr l ↦ none_above 0 _ q a l ∙ sym (none_past n ls q g l)
      ];
    }

run_back : (file : List ℕ) (ls : List Load) (rs : List Run) → map run_of (map (segment_of file ls) rs) ≡ rs
run_back file ls [] = refl
run_back file ls (r ∷ rs) =
    let f : 4096 * r.first / 4096 ≡ r.first = omega arith in
    let c : 4096 * r.count / 4096 ≡ r.count = omega arith in
    let P : ℕ → Run = λ n. record { first = n; count = 4096 * r.count / 4096 } in
    let Q : ℕ → Run = λ n. record { first = r.first; count = n } in
    ap (λ x. x ∷ map run_of (map (segment_of file ls) rs)) (ap P f ∙ ap Q c) ∙ ap (λ xs. r ∷ xs) (run_back file ls rs)

pub segments_runs : (file : List ℕ) (ls : List Load) (ss : List SegmentValue) (n : ℕ) → AreLoads n ls → ss ≡ segments_of file ls → AreRuns (is_met ls) (map run_of ss)
segments_runs file ls ss n g is = subst (AreRuns (is_met ls)) (sym (ap (map run_of) is ∙ run_back file ls (runs (is_met ls) 0 (2 ^ 34)))) (are_runs n ls g)
