-- A load comes to its end exactly where the pool has the pages that it takes.
use Rattle.std.proofs.Common.{◌≡◌, ℕ, ◌+◌, ◌/◌, ◌≤◌, List, [], ◌∷◌, ◌++◌, length, Some, None, refl, sym, ap, ◌∙◌, subst, arith, cond, Bool, true, append_assoc, length-append}
use Rattle.std.specs.List.{AllByRecursion}
use Rattle.std.specs.Prelude.{is_some}
use Rattle.kx_laws.proofs.Options.{some_of}
use Rattle.kx_pages.specs.Lists.{Has, count, sources}
use Rattle.kx_pages.specs.declared.image.Wish.{Wish}
use Rattle.segments.specs.Values.{SegmentValue, is_destination, need, pages}
use Rattle.segments.specs.inner.Shape.{AreSegments}
use Rattle.segments.proofs.Laws.{Has-from_is_destination, Distinct-pages}
use Rattle.kimage_list.specs.Load.{Loading, Request, begun, give_page, requests, serve}
use Rattle.kimage_list.specs.inner.Load.{pages_of}
use Rattle.kimage_list.specs.inner.Counted.{Allowed}
use Rattle.kimage_list.proofs.Counting.{Full, full_on, counted_fit}
use Rattle.kimage_list.proofs.Enough.{has_of_count, taken_some}
use Rattle.kimage_list.proofs.Lists.{eqb-self}
use Rattle.kimage_list.proofs.Parts.{served-append}
use Rattle.kimage_list.proofs.Standings.{length-entries, one_served}
use Rattle.kimage_list.proofs.Takes.{others, wishes_among}
use Rattle.kx_pages.proofs.Lists.{length-sources}
use Rattle.load_states.specs.Loads.{entries_of, loading_of}
use Rattle.load_states.specs.inner.Loads.{LoadsExactly}
use Rattle.load_states.proofs.FillSteps.{need_same, starts-entries_of}
use Rattle.load_states.proofs.LaidAccepted.{others_in, served_well, wished_in}
use Rattle.load_states.proofs.LaidPlan.{pages_of-entries_of}
use Rattle.kx_pages.proofs.Lists.{Each-left, Each-right, Each-from_Has, length-destinations}
use Rattle.kx_pages.proofs.Counting.{count-append, Each-from_count}
use Rattle.kx_pages.specs.Needs.{first_count}
use Rattle.kx_pages.proofs.Counting.{count-from_Distinct}

wished-cons : (r : Request) (rs : List Request) → wishes_among (r ∷ []) ++ wishes_among rs ≡ wishes_among (r ∷ rs)
wished-cons None rs = refl
wished-cons (Some p) rs = refl

others-cons : (r : Request) (rs : List Request) → others (r ∷ []) + others rs ≡ others (r ∷ rs)
others-cons None rs = omega arith
others-cons (Some p) rs = omega arith

-- where each page in all is wanted and the pool has as many pages as it takes, requests are served
module _ (D : ℕ → Bool) (pool all : List ℕ) (need : ℕ) (once : (x : ℕ) → count x pool ≤ 1) (wanted : (p : ℕ) → D p ≡ true → Has p all) (enough : need ≤ length pool) where
  allowed : (r : Request) (rs : List Request) (spent : List ℕ) (n : ℕ) → AllByRecursion (λ p. Has p all) (spent ++ wishes_among (r ∷ rs))
      → ((x : ℕ) → count x (spent ++ wishes_among (r ∷ rs)) ≤ 1) → n + others (r ∷ rs) + length all ≤ need → Allowed r all spent n need
  allowed None rs spent n inside single fits = omega (arith, fits)
  allowed (Some p) rs spent n inside single fits =
      let here : count p (p ∷ wishes_among rs) ≡ 1 + count p (wishes_among rs) = ap (λ b. cond b 1 0 + count p (wishes_among rs)) (eqb-self p) in (
        (Each-right (λ p. Has p all) spent (p ∷ wishes_among rs) inside).0,
        omega (arith, count-append p spent (p ∷ wishes_among rs), single p, here),
        omega (arith, fits),
      )

  serves : (rs : List Request) (spent : List ℕ) (n : ℕ) (l : Loading) → Full D pool spent n l → AllByRecursion (λ p. Has p all) (spent ++ wishes_among rs)
      → ((x : ℕ) → count x (spent ++ wishes_among rs) ≤ 1) → n + others rs + length all ≤ need → (m : Loading) × (serve D rs l ≡ Some m)
  serves [] spent n l f inside single fits = (l, refl)
  serves (r ∷ rs) spent n l f inside single fits =
      let t = taken_some D pool spent all n need l once f wanted (Each-left (λ p. Has p all) spent (wishes_among (r ∷ rs)) inside)
      (λ x. omega (arith, count-append x spent (wishes_among (r ∷ rs)), single x)) enough r (allowed r rs spent n inside single fits) in
      let more : (spent ++ wishes_among (r ∷ [])) ++ wishes_among rs ≡ spent ++ wishes_among (r ∷ rs) = append_assoc spent (wishes_among (r ∷ [])) (wishes_among rs) ∙ ap (λ ys. spent ++ ys) (wished-cons r rs) in
      let ih = serves rs (spent ++ wishes_among (r ∷ [])) (n + others (r ∷ [])) (give_page r t.0) (full_on D pool spent n r l t.0 once f t.1)
      (subst (AllByRecursion (λ p. Has p all)) (sym more) inside) (λ x. subst (λ ys. count x ys ≤ 1) (sym more) (single x)) (omega (arith, fits, others-cons r rs)) in
      (ih.0, served-append D (r ∷ []) rs l (give_page r t.0) (one_served D r l t.0 t.1) ∙ ih.1)

-- nothing is drawn yet
full_begun : (D : ℕ → Bool) (pool : List ℕ) → Full D pool [] 0 (begun pool)
full_begun D pool = record {
  sound = record { conserved = λ x. omega arith; homes = tt; order = refl; free = tt; many = refl };
  files = tt;
  sizes = omega arith;
  ends = ([], refl);
}

module _ (wish : Wish) (ss : List SegmentValue) (pool : List ℕ) (k : AreSegments ss) (once : (x : ℕ) → count x pool ≤ 1) where
  spent : pages_of (entries_of ss) ≡ pages ss
  spent = pages_of-entries_of ss

  size : length (entries_of ss) ≡ length ss + length (pages ss)
  size = omega (arith, length-entries (entries_of ss), starts-entries_of ss, ap length spent)

  needs : length (pages ss) + (length ss + length (pages ss) + 510) / 511 + first_count wish ≡ need wish ss
  needs = need_same wish ss (length ss) (length (pages ss)) refl refl

  wishes : wishes_among (requests wish (entries_of ss)) ≡ pages ss
  wishes = wished_in wish (entries_of ss) ∙ spent

  comes : need wish ss ≤ length pool → (l : Loading) × (loading_of wish ss pool ≡ Some l)
  comes enough =
      serves (is_destination ss) pool (pages ss) (need wish ss) once (λ p h. Has-from_is_destination ss p k.placed h) enough (requests wish (entries_of ss)) [] 0 (begun pool) (full_begun (is_destination ss) pool)
      (subst (AllByRecursion (λ p. Has p (pages ss))) (sym wishes) (Each-from_Has (λ p. Has p (pages ss)) (pages ss) (λ p h. h)))
      (λ x. subst (λ ys. count x ys ≤ 1) (sym wishes) (count-from_Distinct x (pages ss) (Distinct-pages ss k.placed k.apart)))
      (omega (arith, others_in wish (entries_of ss), needs, ap (λ n. (n + 510) / 511) size))

  takes : (l : Loading) → loading_of wish ss pool ≡ Some l → need wish ss ≤ length pool
  takes l e =
      let s = served_well wish (is_destination ss) (entries_of ss) pool l once e in
      let used = l.spare ++ sources l.pairs in
      let few = counted_fit (l.spare ++ sources l.pairs) pool (λ x. omega (arith, count-append x l.spare (sources l.pairs), s.conserved x, once x))
      (Each-from_count (λ x. Has x pool) (l.spare ++ sources l.pairs) (λ x n. has_of_count x pool (omega (arith, n, count-append x l.spare (sources l.pairs), s.conserved x)))) in
      omega (arith, few, length-append l.spare (sources l.pairs), length-sources l.pairs, length-destinations l.pairs, ap length s.order, ap length spent, s.many, needs, ap (λ n. (n + 510) / 511) size)

  pub loads_exactly : LoadsExactly wish ss pool
  loads_exactly = (
    λ h. let l = some_of (loading_of wish ss pool) h in takes l.0 l.1,
    λ enough. ap is_some (comes enough).1,
  )
