-- Pages of rows, and spans of them.
use Rattle.std.proofs.Common.{◌≡◌, ℕ, ◌+◌, ◌-◌, ◌*◌, ◌/◌, ◌<◌, ◌≤◌, ◌^◌, List, [], ◌∷◌, ◌++◌, Bool, true, false, refl, sym, ap, ◌∙◌, Some, None, Option, arith, inl, inr, length, take, get_or}
use Rattle.std.specs.Prelude.{◌↔◌, IsSome, IfSome, IfOk, Result, Ok, Err, ◌&&◌, ◌||◌, ◌==◌, not, nat_lt, nat_le, if◌then◌else◌}
use Rattle.std.specs.List.{list_any}
use Rattle.std.proofs.lemmas.Bool.Decides.{nat_tests}
use Rattle.std.proofs.lemmas.Bool.{cases_lt, lt-ltb, le-ltb, le-leb, lt-leb, eq-eqb, ne_eqb, false≢true}
use Rattle.std.proofs.lemmas.List.Folds.{list_any-append, list_any_more}
use Rattle.kx_laws.proofs.Booleans.{or_false, or_shift}
use Rattle.kx_pages.specs.Ranges.{pages_for}
use Rattle.kx_pages.specs.Spans.{Run, in_span, in_spans, passing}
use Rattle.memory_map.specs.declared.row.Row.{Row}
use Rattle.memory_map.specs.Rows.{row_end, holds_page}
use Rattle.memory_map.specs.Maps.{MapValue, pages_inside, if_some_pages, is_whole, is_taken, is_ram, ram_pages}
use Rattle.memory_map.specs.inner.Maps.{has_page}
use Rattle.kx_pages.proofs.Spans.{passing_same}

le_same : (a b c d : ℕ) → (a ≤ b → c ≤ d) → (b < a → d < c) → nat_le a b ≡ nat_le c d
le_same a b c d f g = elim (cases_lt b a) [ inl h ↦ lt-leb a b h ∙ sym (lt-leb c d (g h)) | inr h ↦ le-leb a b h ∙ sym (le-leb c d (f h)) ]

if_has : (b : Bool) (s : Run) (p : ℕ) → has_page (if b then None else Some s) p ≡ (not b && in_span s p)
if_has true s p = refl
if_has false s p = refl

between : (f e p : ℕ) → (not (e - f == 0) && (nat_le f p && nat_lt p (f + (e - f)))) ≡ (nat_le f p && nat_lt p e)
between f e p = grind (arith, nat_tests)

-- the pages from f on and before e
has_between : (f e p : ℕ) → has_page (if_some_pages (record { first = f; count = e - f })) p ≡ (nat_le f p && nat_lt p e)
has_between f e p = if_has (e - f == 0) (record { first = f; count = e - f }) p ∙ between f e p

whole_from : (s p : ℕ) → nat_le (pages_for s) p ≡ nat_le s (4096 * p)
whole_from s p = le_same _ _ _ _ (λ h. omega (arith, h)) (λ h. omega (arith, h))

whole_to : (e p : ℕ) → nat_lt p (e / 4096) ≡ nat_le (4096 * p + 4096) e
whole_to e p = elim (cases_lt p (e / 4096)) [ inl h ↦ lt-ltb _ _ h ∙ sym (le-leb _ _ (omega (arith, h))) | inr h ↦ le-ltb _ _ h ∙ sym (lt-leb _ _ (omega (arith, h))) ]

pub has_whole : (r : Row) (p : ℕ) → has_page (if_some_pages (pages_inside r)) p ≡ holds_page p r
has_whole r p =
    has_between (pages_for r.start) (row_end r / 4096) p ∙ ap (λ b. b && nat_lt p (row_end r / 4096)) (whole_from r.start p) ∙ ap (λ b. nat_le r.start (4096 * p) && b) (whole_to (row_end r) p)

-- ---- lists of spans
pub in_more : (xs ys : List Run) (s : Run) (o : Option Run) (p : ℕ) → ys ≡ xs ++ s ∷ [] → o ≡ Some s → in_spans ys p ≡ (in_spans xs p || has_page o p)
in_more xs ys s o p e is = ap (λ (zs : List Run). in_spans zs p) e ∙ list_any-append (λ r. in_span r p) xs (s ∷ []) ∙ ap (λ b. in_spans xs p || b) (or_false (in_span s p)) ∙ ap (λ (w : Option Run). in_spans xs p || has_page w p) (sym is)

pub in_same : (xs : List Run) (o : Option Run) (p : ℕ) → o ≡ None → in_spans xs p ≡ (in_spans xs p || has_page o p)
in_same xs o p is = sym (or_false (in_spans xs p)) ∙ ap (λ (w : Option Run). in_spans xs p || has_page w p) (sym is)

-- a turn over a row
pub turn : (t : Row → Bool) (rows : List Row) (i : ℕ) (d : Row) (a b c : Bool) → i < length rows → c ≡ (b || t (get_or rows i d)) → b ≡ (a || list_any t (take i rows)) → c ≡ (a || list_any t (take (i + 1) rows))
turn t rows i d a b c l new old =
    new ∙ ap (λ x. x || t (get_or rows i d)) old ∙ or_shift a (list_any t (take i rows)) (t (get_or rows i d)) ∙ ap (λ x. a || x) (sym (list_any_more t rows i d l))

-- ---- counting

ram_count_of : (ram : List Run) (m : MapValue) (n : ℕ) → ((p : ℕ) → in_spans ram p ≡ is_ram m p) → ((k : ℕ) → 2 ^ 34 ≤ k → n ≡ passing (in_spans ram) k) → n ≡ ram_pages m
ram_count_of ram m n is count = count (2 ^ 34) (omega arith) ∙ passing_same (in_spans ram) (is_ram m) (2 ^ 34) is

pub ram_count : (ram : List Run) (rows areas rs bs : List Row) (n : ℕ) → rs ≡ rows → bs ≡ areas → ((p : ℕ) → in_spans ram p ≡ is_ram (record { rows = rs; areas = bs }) p) → ((k : ℕ) → 2 ^ 34 ≤ k → n ≡ passing (in_spans ram) k) → n ≡ ram_pages (record { rows = rows; areas = areas })
ram_count ram rows areas rs bs n p q is count =
    ram_count_of ram (record { rows = rs; areas = bs }) n is count ∙ ap (λ (xs : List Row). ram_pages (record { rows = xs; areas = bs })) p ∙ ap (λ (xs : List Row). ram_pages (record { rows = rows; areas = xs })) q

-- ---- what the calls give
pub span_is : (o : Option Run) (f e : ℕ) → (IsSome o ↔ (f + (e - f) ≤ 2 ^ 34)) → IfSome o (λ s. s ≡ record { first = f; count = e - f }) → e ≤ 2 ^ 34 → f < e → o ≡ if_some_pages (record { first = f; count = e - f })
span_is None f e valid is limit less = absurd (false≢true (valid.1 (omega arith)))
span_is (Some s) f e valid is limit less = ap (λ (r : Run). Some r) is ∙ if_not (e - f == 0) (record { first = f; count = e - f }) (ne_eqb (e - f) 0 (λ z. omega (arith, z, less)))
  where
    if_not : (b : Bool) (s : Run) → b ≡ false → Some s ≡ (if b then None else Some s)
    if_not true s h = cc
    if_not false s h = refl

pub span_none : (f e : ℕ) → e ≤ f → None ≡ if_some_pages (record { first = f; count = e - f })
span_none f e h = if_so (e - f == 0) (record { first = f; count = e - f }) (eq-eqb (e - f) 0 (omega arith))
  where
    if_so : (b : Bool) (s : Run) → b ≡ true → None ≡ (if b then None else Some s)
    if_so true s h = refl
    if_so false s h = cc

-- the difference of the whole pages and the taken ones
pub ram_is : {E : Type 0} (r : Result (List Run) E) (whole taken : List Run) (m : MapValue) → ((p : ℕ) → in_spans whole p ≡ is_whole m.rows p) → ((p : ℕ) → in_spans taken p ≡ is_taken m p) → IfOk r (λ s. (p : ℕ) → in_spans s p ≡ (in_spans whole p && not (in_spans taken p))) → IfOk r (λ s. (p : ℕ) → in_spans s p ≡ is_ram m p)
ram_is (Ok s) whole taken m w t h = λ p. h p ∙ ap (λ b. b && not (in_spans taken p)) (w p) ∙ ap (λ b. is_whole m.rows p && not b) (t p)
ram_is (Err e) whole taken m w t h = h
