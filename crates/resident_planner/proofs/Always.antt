-- Where nothing is refused, there is a list.
use Rattle.std.proofs.Common.{◌≡◌, ℕ, ◌+◌, ◌-◌, ◌^◌, ◌<◌, ◌≤◌, List, [], ◌∷◌, ◌++◌, length, take, drop, filter, Option, Some, None, Bool, true, false, cond, refl, sym, ap, ◌∙◌, subst, ⊎_elim, arith}
use Rattle.std.specs.List.{AllByRecursion, range_with_len}
use Rattle.std.proofs.lemmas.Bool.{cases_lt}
use Rattle.std.proofs.lemmas.List.{append_assoc, length-drop, length-take-le, take-append-drop}
use Rattle.kx_laws.proofs.Booleans.{same_truth}
use Rattle.kx_pages.specs.Lists.{has, Distinct}
use Rattle.kx_pages.specs.declared.image.Mode.TheVariants.{Plain}
use Rattle.kx_pages.proofs.Lists.{Each-at, Each-filter, Each-from_Has, Each-left, Has-from_has, has-from_Has, range-Has}
use Rattle.page_memory.specs.Contents.{Contents, at, with_page}
use Rattle.page_memory.specs.Memory.{put}
use Rattle.page_memory.proofs.Laws.{at-with_page}
use Rattle.segments.specs.Values.{SegmentValue, want, is_destination}
use Rattle.segments.proofs.Laws.{AreSegments-from_IsBare, Has-from_is_destination, pages_below}
use Rattle.list_checker.specs.inner.Laws.{ListsWanted}
use Rattle.kimage_list.specs.Laying.{link_pages, source_pages, put_all}
use Rattle.resident_planner.specs.declared.fault.ResidentFault.{ResidentFault}
use Rattle.resident_planner.specs.declared.fault.ResidentFault.TheVariants as faults
use Rattle.resident_planner.specs.declared.plan.Made.{Made}
use Rattle.resident_planner.specs.Cycles.{cycles}
use Rattle.resident_planner.specs.Laid.{given_sources, pair_items, plan_head}
use Rattle.resident_planner.specs.Stretches.{Rising}
use Rattle.resident_planner.specs.Refusals.{AreWantedPages, IsFault, link_count, need_of, pairs_refusal, resident_of, usable}
use Rattle.resident_planner.specs.Made.{IsMade}
use Rattle.resident_planner.specs.inner.Laws.{ListExists}
use Rattle.resident_planner.proofs.Needs.{has_filter, plan_exists}
use Rattle.resident_planner.proofs.Picking.{distinct_rising}
use Rattle.resident_planner.proofs.Wanting.{lists_wanted, rising_range}
use Rattle.resident_planner.proofs.Making.{are_fine, fault_from, filter_each, fresh_count, pairs_fault, wanted_pairs}
use Rattle.resident_planner.proofs.Writing.{made_over}

-- ---- the wanted pages have a list in rising order
rising_filter : (f : ℕ → Bool) (xs : List ℕ) → Rising xs → Rising (filter f xs)
rising_filter f [] r = tt
rising_filter f (x ∷ xs) r = go (f x) (rising_filter f xs r.1)
  where
    go : (b : Bool) → Rising (filter f xs) → Rising (cond b (x ∷ filter f xs) (filter f xs))
    go true h = (Each-filter (λ y. x < y) f xs r.0, h)
    go false h = h

wanted_list : (S : List SegmentValue) (n : ℕ) → ((p : ℕ) → is_destination S p ≡ true → p < n) → (D : List ℕ) × AreWantedPages S D
wanted_list S n low = (
  filter (is_destination S) (range_with_len 0 n),
  record {
    rising = rising_filter (is_destination S) (range_with_len 0 n) (rising_range n 0);
    whole = λ p. same_truth (has p (filter (is_destination S) (range_with_len 0 n))) (is_destination S p)
        (λ e. Each-at (λ x. is_destination S x ≡ true) (filter (is_destination S) (range_with_len 0 n)) p (filter_each (is_destination S) (range_with_len 0 n)) (Has-from_has p (filter (is_destination S) (range_with_len 0 n)) e))
        (λ e. has-from_Has p (filter (is_destination S) (range_with_len 0 n)) (has_filter (is_destination S) p (range_with_len 0 n) e (range-Has n 0 p (omega arith) (let l = low p e in omega (arith, l)))));
  },
)

-- ---- a memory in which pages are set
with_pages : Contents → List (ℕ × List ℕ) → Contents
with_pages m [] = m
with_pages m (x ∷ xs) = with_page (with_pages m xs) x.0 x.1

at-with_pages : (m : Contents) (xs : List (ℕ × List ℕ)) → at (with_pages m xs) ≡ put_all (at m) xs
unfolding with_pages
at-with_pages m [] = refl
at-with_pages m (x ∷ xs) = at-with_page (with_pages m xs) x.0 x.1 ∙ ap (λ N. put N x.0 x.1) (at-with_pages m xs)

module _ (m : Contents) (S : List SegmentValue) (pool : List ℕ) (rs : List (ℕ × ℕ)) (none : (e : ResidentFault) → IsFault (at m) S pool rs e → ⊥) where
  none_refused : pairs_refusal (at m) (want S) [] rs ≡ None
  none_refused = go (pairs_refusal (at m) (want S) [] rs) refl
    where
      go : (o : Option ResidentFault) → pairs_refusal (at m) (want S) [] rs ≡ o → o ≡ None
      go None h = refl
      go (Some e) h = absurd (none e (fault_from (at m) S pool rs e (pairs_fault (at m) (want S) [] rs e h) h))

  enough : (D : List ℕ) → AreWantedPages S D → need_of (length D) (length rs) (cycles (resident_of rs) D) ≤ length (usable (is_destination S) rs pool)
  enough D are = ⊎_elim
      (λ l. absurd (none (faults.NoPages (length (usable (is_destination S) rs pool)) (need_of (length D) (length rs) (cycles (resident_of rs) D))) (none_refused, record { wanted_pages = D; are = are; left_is = refl; need_is = refl; fewer = l })))
      (λ l. l)
      (cases_lt (length (usable (is_destination S) rs pool)) (need_of (length D) (length rs) (cycles (resident_of rs) D)))

-- what the pages are that are taken
record Taken (U : List ℕ) (links_wanted fresh_wanted : ℕ) : Type 0 where
  control : ℕ
  links : List ℕ
  fresh : List ℕ
  rest : List ℕ
  first : U ≡ (control ∷ links ++ fresh) ++ rest
  links_are : length links ≡ links_wanted
  fresh_are : length fresh ≡ fresh_wanted

taken : (U : List ℕ) (l f : ℕ) → 1 + l + f ≤ length U → Taken U l f
taken [] l f h = absurd (omega (arith, h))
taken (c ∷ V) l f h =
    let behind = length-drop l V in
    record {
      control = c;
      links = take l V;
      fresh = take f (drop l V);
      rest = drop f (drop l V);
      first = ap (λ ys. c ∷ ys) (sym (take-append-drop l V) ∙ ap (λ ys. take l V ++ ys) (sym (take-append-drop f (drop l V))) ∙ sym (append_assoc (take l V) (take f (drop l V)) (drop f (drop l V))));
      links_are = length-take-le l V (omega (arith, h));
      fresh_are = length-take-le f (drop l V) (omega (arith, h, behind));
    }

list_below : (n : ℕ) (m : Contents) (S : List SegmentValue) (pool : List ℕ) (rs : List (ℕ × ℕ)) → ((p : ℕ) → is_destination S p ≡ true → p < n) → ((p : ℕ) → is_destination S p ≡ true → p < 2 ^ 34)
    → Distinct pool → AllByRecursion (λ p. p < 2 ^ 34) pool → AllByRecursion (λ q. q.1 < 2 ^ 34) rs → ((e : ResidentFault) → IsFault (at m) S pool rs e → ⊥) → (made : Made) × IsMade (at m) S pool rs made
list_below n m S pool rs low below once pool_low sources_low none =
    let w = wanted_list S n low in
    let D = w.0 in
    let are = w.1 in
    let r : ℕ → Option ℕ = resident_of rs in
    let fine = none_refused m S pool rs none in
    let lists : ListsWanted (want S) D = lists_wanted S D are in
    let enough = enough m S pool rs none D are in
    let count = fresh_count (at m) (want S) D rs (distinct_rising D are.rising) fine (wanted_pairs (at m) S D rs (λ p bytes e. has-from_Has p D (lists.whole p bytes e)) (are_fine (at m) (want S) [] rs fine).holds) in
    let t = taken (usable (is_destination S) rs pool) (link_count (length D)) ((length D - length rs) + cycles r D) (omega (arith, enough)) in
    let same = t.fresh_are in
    let plan = plan_exists r D t.fresh (omega (arith, count, same)) in
    let qs = plan.0 in
    let memory = with_pages m (link_pages t.links (pair_items qs) ++ source_pages (want S) (given_sources r D t.fresh)) in
    let made : Made = record { memory = memory; image = record { head = plan_head t.links; mode = Plain; control = t.control }; copied = cycles r D } in
    let passed = Each-filter (λ p. p < 2 ^ 34) _ pool pool_low in (
      made,
      made_over (at m) S pool rs D t.links t.fresh t.rest qs made once are
          (Each-from_Has (λ d. d < 2 ^ 34) D (λ d h. below d (sym (are.whole d) ∙ has-from_Has d D h)))
          fine sources_low t.first
          (Each-left (λ p. p < 2 ^ 34) (t.control ∷ t.links ++ t.fresh) t.rest (subst (AllByRecursion (λ p. p < 2 ^ 34)) t.first passed))
          t.links_are (t.fresh_are ∙ sym count) plan.1
          (at-with_pages m (link_pages t.links (pair_items qs) ++ source_pages (want S) (given_sources r D t.fresh)))
          refl refl,
    )

pub list_exists : ListExists
list_exists m S pool rs bare once pool_low sources_low none = list_below (2 ^ 34) m S pool rs low low once pool_low sources_low none
  where
    low : (p : ℕ) → is_destination S p ≡ true → p < 2 ^ 34
    low p e = let s = AreSegments-from_IsBare S bare in pages_below S p s.placed (Has-from_is_destination S p s.placed e)
