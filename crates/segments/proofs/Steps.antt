-- Steps of loops over segments and spans.
use Rattle.std.proofs.Common.{◌≡◌, ℕ, zero, suc, ◌+◌, ◌<◌, ◌≤◌, ◌++◌, List, [], ◌∷◌, Option, Some, None, Ok, Err, Result, Bool, true, false, refl, sym, ap, ◌∙◌, subst, inl, inr, ⊎_elim, arith, length, take, drop, get_or, length-append}
use Rattle.std.specs.Prelude.{IsTrue, ◌⊎◌, ◌||◌, ◌&&◌, cond, slice_get, nat_le, MatchResult}
use Rattle.std.specs.List.{list_all, range_with_len, position, AllByRecursion}
use Rattle.std.specs.Option.{option_map, option_or}
use Rattle.std.proofs.lemmas.Bool.{false≢true, and_parts}
use Rattle.std.proofs.lemmas.Bool.Decides.{nat_tests}
use Rattle.std.proofs.lemmas.List.Folds.{Any-from_list_any}
use Rattle.std.proofs.lemmas.List.FromFn.{length-range_with_len}
use Rattle.std.proofs.lemmas.Grind.{common_steps}
use Rattle.kx_pages.specs.Spans.{Run, end, in_span, in_spans}
use Rattle.kx_pages.specs.inner.Spans.{IsMaximal}
use Rattle.segments.specs.declared.fault.SegFault.{SegFault}
use Rattle.segments.specs.declared.fault.SegFault.TheVariants as faults
use Rattle.std.proofs.lemmas.Option.{slice_get-get_or}
use Rattle.kx_laws.proofs.Options.{some_same}
use Rattle.segments.specs.Values.{SegmentValue, page_count, pages_of_segment, pages, is_page_of_segment, is_destination, bytes_from}
use Rattle.segments.specs.inner.Values.{wanted}
use Rattle.kx_laws.specs.Results.{unless}
use Rattle.segments.specs.Rules.{overlap_after, overlap_each_other}
use Rattle.segments.specs.inner.Rules.{Refuses, Answers}
use Rattle.kx_laws.proofs.Lists.{drop_read}

-- the segment at place i, of a list under another name
pub got : (ss ts : List SegmentValue) (i : ℕ) (s : SegmentValue) → ss ≡ ts → i < length ts → s ≡ get_or ss i s → slice_get ts i ≡ Some s
got ss ts i s e l f = slice_get-get_or ts i s l ∙ ap Some (ap (λ xs. get_or xs i s) (sym e) ∙ sym f)

pub count_more : (ss : List SegmentValue) (i : ℕ) (s : SegmentValue) → i < length ss → s ≡ get_or ss i s → length (pages (drop i ss)) ≡ page_count s + length (pages (drop (i + 1) ss))
count_more ss i s l e =
    ap (λ xs. length (pages xs)) (drop_read ss i s l e)
    ∙ length-append (pages_of_segment s) (pages (drop (i + 1) ss))
    ∙ ap (λ n. n + length (pages (drop (i + 1) ss))) (length-range_with_len _ (page_count s))

all_in : (rs : List Run) (r : Run) → ((q : ℕ) → IsTrue (in_span r q) → IsTrue (in_spans rs q)) → (n first : ℕ) → r.first ≤ first → first + n ≤ end r → list_all (in_spans rs) (range_with_len first n) ≡ true
all_in rs r inside zero first low high = refl
all_in rs r inside (suc n) first low high =
    let here : in_span r first ≡ true = grind (arith, nat_tests) in
    let first_in : in_spans rs first ≡ true = inside first here in
    let later = all_in rs r inside n (first + 1) (omega (arith, low)) (omega (arith, high)) in
    rw first_in later

-- one span of the set has the whole run
pub run_in_span : (rs : List Run) (r : Run) (first n : ℕ) → IsMaximal rs r → (nat_le r.first first && nat_le (first + n) (end r)) ≡ true → list_all (in_spans rs) (range_with_len first n) ≡ true
run_in_span rs r first n m e =
    let p = and_parts (nat_le r.first first) (nat_le (first + n) (end r)) e in
    all_in rs r m.inside n first (grind (arith, nat_tests)) (grind (arith, nat_tests))

-- a run in the set that starts in a span ends in it, as the page behind the span is not in the set
walk : (rs : List Run) (r : Run) → in_spans rs (end r) ≡ false → (n first : ℕ) → first < end r → list_all (in_spans rs) (range_with_len first n) ≡ true → first + n ≤ end r
walk rs r behind zero first l e = omega (arith, l)
walk rs r behind (suc zero) first l e = omega (arith, l)
walk rs r behind (suc (suc n)) first l e =
    let p = and_parts (in_spans rs first) (list_all (in_spans rs) (range_with_len (first + 1) (suc n))) e in
    let q = and_parts (in_spans rs (first + 1)) (list_all (in_spans rs) (range_with_len (first + 1 + 1) n)) p.1 in
    let later = ⊎_elim
    (λ k. walk rs r behind (suc n) (first + 1) k p.1)
    (λ k. absurd (false≢true (sym behind ∙ ap (in_spans rs) (sym k) ∙ q.0)))
    (next first (end r) l) in
    omega (arith, later)
  where
    next : (a b : ℕ) → a < b → (a + 1 < b) ⊎ (a + 1 ≡ b)
    next a b h = grind arith

-- no span has the whole run
pub run_in_no_span : (rs : List Run) (first n : ℕ) → 0 < n → ((k : ℕ) → k < length rs → (r : Run) → slice_get rs k ≡ Some r → IsMaximal rs r × ((nat_le r.first first && nat_le (first + n) (end r)) ≡ false)) → false ≡ list_all (in_spans rs) (range_with_len first n)
run_in_no_span rs first zero some none = absurd (omega (arith, some))
run_in_no_span rs first (suc n) some none = go (list_all (in_spans rs) (range_with_len first (suc n))) refl
  where
    meets : list_all (in_spans rs) (range_with_len first (suc n)) ≡ true → ⊥
    meets t =
        let p = and_parts (in_spans rs first) (list_all (in_spans rs) (range_with_len (first + 1) n)) t in
        let w = Any-from_list_any (λ r. in_span r first) rs p.0 in
        let r : Run = w.1 in
        let here : in_span r first ≡ true = w.4 in
        let found : slice_get rs w.0 ≡ Some r = slice_get-get_or rs w.0 r w.2 ∙ ap Some w.3 in
        let m = none w.0 w.2 r found in
        let low : r.first ≤ first = grind (arith, nat_tests) in
        let high : first < end r = grind (arith, nat_tests) in
        let whole : first + suc n ≤ end r = walk rs r m.0.behind (suc n) first high t in
        let covers : (nat_le r.first first && nat_le (first + suc n) (end r)) ≡ true = grind (arith, nat_tests) in
        false≢true (sym m.1 ∙ covers)

    go : (b : Bool) → list_all (in_spans rs) (range_with_len first (suc n)) ≡ b → false ≡ list_all (in_spans rs) (range_with_len first (suc n))
    go false e = sym e
    go true e = absurd (meets e)

-- the spans up to and with the next one
pub none_more : (rs : List Run) (first n i : ℕ) (s : Run) → ((k : ℕ) → k < i → (r : Run) → slice_get rs k ≡ Some r → IsMaximal rs r × ((nat_le r.first first && nat_le (first + n) (end r)) ≡ false)) → slice_get rs i ≡ Some s → IsMaximal rs s → (nat_le s.first first && nat_le (first + n) (end s)) ≡ false → (k : ℕ) → k < i + 1 → (r : Run) → slice_get rs k ≡ Some r → IsMaximal rs r × ((nat_le r.first first && nat_le (first + n) (end r)) ≡ false)
none_more rs first n i s before at m e k l r found = ⊎_elim
    (λ h. before k h r found)
    (λ h. let same : s ≡ r = some_same s r (sym at ∙ ap (slice_get rs) (sym h) ∙ found) in
    subst (λ r. IsMaximal rs r × ((nat_le r.first first && nat_le (first + n) (end r)) ≡ false)) same (m, e))
    (last k i l)
  where
    last : (k i : ℕ) → k < i + 1 → (k < i) ⊎ (k ≡ i)
    last k i h = grind arith

-- the segments before and from place i on, and the next one
pub overlap_here : (ss : List SegmentValue) (i : ℕ) (s : SegmentValue) (j : ℕ) → i < length ss → s ≡ get_or ss i s → position (overlap_each_other s) (take i ss) ≡ Some j → overlap_after (take i ss) (drop i ss) ≡ Some (faults.Overlap i j)
overlap_here ss i s j l e f =
    ap (overlap_after (take i ss)) (drop_read ss i s l e)
    ∙ ap (λ o. option_or (option_map (faults.Overlap (length (take i ss))) o) (overlap_after (take i ss ++ s ∷ []) (drop (i + 1) ss))) f
    ∙ ap (λ n. Some (faults.Overlap n j)) (front ss i l)
  where
    front : (ss : List SegmentValue) (i : ℕ) → i < length ss → length (take i ss) ≡ i
    front ss i l = grind (arith, common_steps)

pub overlap_later : (ss : List SegmentValue) (i : ℕ) (s : SegmentValue) → i < length ss → s ≡ get_or ss i s → position (overlap_each_other s) (take i ss) ≡ None → overlap_after (take (i + 1) ss) (drop (i + 1) ss) ≡ overlap_after (take i ss) (drop i ss)
overlap_later ss i s l e f =
    ap (λ xs. overlap_after xs (drop (i + 1) ss)) (longer ss i s l e)
    ∙ sym (ap (λ o. option_or (option_map (faults.Overlap (length (take i ss))) o) (overlap_after (take i ss ++ s ∷ []) (drop (i + 1) ss))) f)
    ∙ sym (ap (overlap_after (take i ss)) (drop_read ss i s l e))
  where
    longer : (ss : List SegmentValue) (i : ℕ) (s : SegmentValue) → i < length ss → s ≡ get_or ss i s → take (i + 1) ss ≡ take i ss ++ s ∷ []
    longer ss i s l e = grind (arith, common_steps)

-- the first segments' pages are in, the others' are to come
pub pages_more : (a b c : ℕ → Bool) (r : ℕ → Bool) (ss : List SegmentValue) (i : ℕ) (s : SegmentValue) → i < length ss → s ≡ get_or ss i s → ((q : ℕ) → r q ≡ is_page_of_segment s q) → ((q : ℕ) → b q ≡ (a q || r q)) → ((q : ℕ) → (a q || is_destination (drop i ss) q) ≡ c q) → (q : ℕ) → (b q || is_destination (drop (i + 1) ss) q) ≡ c q
pages_more a b c r ss i s l e same grown before q =
    ap (λ x. x || is_destination (drop (i + 1) ss) q) (grown q)
    ∙ ap (λ x. (a q || x) || is_destination (drop (i + 1) ss) q) (same q)
    ∙ assoc (a q) (is_page_of_segment s q) (is_destination (drop (i + 1) ss) q)
    ∙ ap (λ xs. a q || is_destination xs q) (sym (drop_read ss i s l e))
    ∙ before q
  where
    assoc : (a b c : Bool) → ((a || b) || c) ≡ (a || (b || c))
    assoc true b c = refl
    assoc false b c = refl

-- a fact of each segment from place i on
pub each_here : (P : SegmentValue → Type 0) (ss : List SegmentValue) (i : ℕ) (s : SegmentValue) → i < length ss → s ≡ get_or ss i s → AllByRecursion P (drop i ss) → P s × AllByRecursion P (drop (i + 1) ss)
each_here P ss i s l e h = subst (AllByRecursion P) (drop_read ss i s l e) h

pub drop_all : {X : Type 0} (xs : List X) (i : ℕ) → length xs ≤ i → drop i xs ≡ []
drop_all xs i l = grind (arith, common_steps)

-- all pages are in
pub pages_all : (a c : ℕ → Bool) (ss : List SegmentValue) (i : ℕ) → length ss ≤ i → ((q : ℕ) → (a q || is_destination (drop i ss) q) ≡ c q) → (q : ℕ) → a q ≡ c q
pages_all a c ss i l h q = or_false (a q) ∙ ap (λ xs. a q || is_destination xs q) (sym (drop_all ss i l)) ∙ h q
  where
    or_false : (b : Bool) → b ≡ (b || false)
    or_false true = refl
    or_false false = refl

-- the segments from place i on, and the next one, for what a page is to have
pub want_here : (ss : List SegmentValue) (i : ℕ) (s : SegmentValue) (p : ℕ) → i < length ss → s ≡ get_or ss i s → is_page_of_segment s p ≡ true → wanted (drop i ss) p ≡ Some (take 4096 (bytes_from s p))
want_here ss i s p l e t = ap (λ xs. wanted xs p) (drop_read ss i s l e) ∙ ap (λ b. cond b (Some (take 4096 (bytes_from s p))) (wanted (drop (i + 1) ss) p)) t

-- what a test of rules tells
pub refusal_is_some : (o : Option SegFault) (e : SegFault) → unless o ≡ Err e → o ≡ Some e
refusal_is_some None e h = cc
refusal_is_some (Some f) e h = cc

pub pass_is_none : (o : Option SegFault) (u : Unit {0}) → unless o ≡ Ok u → o ≡ None
pass_is_none None u h = refl
pass_is_none (Some f) u h = cc

-- the first refusal of a row of tests: here, later, or at the last one
pub refused_here : (a b : Option SegFault) (e : SegFault) → unless a ≡ Err e → Err e ≡ unless (option_or a b)
refused_here a b e h = let f = refusal_is_some a e h in rw f refl

pub refused_later : (a b : Option SegFault) (u : Unit {0}) (r : Result (Unit {0}) SegFault) → unless a ≡ Ok u → r ≡ unless b → r ≡ unless (option_or a b)
refused_later a b u r h k = let f = pass_is_none a u h in rw f k

pub refused_last : (a : Option SegFault) (r : Result (Unit {0}) SegFault) → r ≡ unless a → r ≡ unless (option_or a None)
refused_last None r k = k
refused_last (Some f) r k = k

-- what a call that tests and then takes memory answers
pub Answers-refused : (ss : List SegmentValue) (first : Option SegFault) (e : SegFault) → unless first ≡ Err e → Refuses e first
Answers-refused ss first e h = inl (refusal_is_some first e h)

pub Answers-made : (ss : List SegmentValue) (first : Option SegFault) (r : Result (List SegmentValue) SegFault) → first ≡ None → MatchResult r (λ s. s ≡ ss) (λ e. e ≡ faults.Memory) → Answers ss first r
Answers-made ss first (Ok s) f h = (h, f)
Answers-made ss first (Err e) f h = inr (h, f)
