-- Parts that are placed one after another, each at the least or the greatest address at which it fits.
use Rattle.std.proofs.Common.{◌≡◌, ◌∙◌, append-nil, append_assoc, ℕ, zero, suc, ◌*◌, ◌/◌, ◌^◌, ◌++◌, List, [], ◌∷◌, Bool, true, false, Option, Some, None, Ok, refl, ⊎_elim, sym, ap, subst, arith, inl, inr}
use Rattle.std.specs.Prelude.{◌⊎◌, nat_le}
use Rattle.std.specs.List.{AllByRecursion}
use Rattle.std.proofs.lemmas.Bool.{or_cases, or_parts}
use Rattle.std.proofs.lemmas.Bool.Decides.{nat_tests}
use Rattle.kx_laws.proofs.Options.{some_same}
use Rattle.kx_laws.proofs.Results.{guard_ok, ok_same}
use Rattle.kx_pages.specs.Spans.{in_span}
use Rattle.kx_pages.proofs.Lists.{Each-left, Each-slice_get}
use Rattle.memory_map.specs.Maps.{MapValue}
use Rattle.segments.specs.Values.{SegmentValue}
use Rattle.segments.specs.inner.Shape.{IsPlaced}
use Rattle.hole_search.specs.declared.search.End.{End}
use Rattle.hole_search.specs.declared.search.End.TheVariants.{Greatest}
use Rattle.hole_search.specs.inner.Holes.{ComesFirst, Fits}
use Rattle.plan_faults.specs.declared.fault.PlanFault.{PlanFault}
use Rattle.kexec_plan.specs.Ground.{Ground, ram}
use Rattle.kexec_plan.specs.Holes.{hole}
use Rattle.kexec_plan.specs.Laying.{Headers, Image, Information, Initrd, Laid, Module, Parameters, PlanPart, place_parts, push, rule_of}
use Rattle.kexec_plan.specs.Parts.{part_size, segment_at}
use Rattle.kexec_plan.specs.Places.{pages_at, place, site_at, taking}
use Rattle.kexec_plan.specs.inner.Holes.{IsHoleBy}
use Rattle.kexec_plan.proofs.Holes.{found_is_hole}
use Rattle.plan_laws.specs.Extremes.{FitsAt, IsMet, LieHighest, Limits, MayTake}
use Rattle.plan_laws.specs.Places.{IsIn, IsOne}
use Rattle.plan_laws.proofs.Laying.{none_more, one_last, one_left, step, told_at}
use Rattle.plan_laws.proofs.Private.{PlaceRule, Site}

-- ---- the pages that are taken
-- exactly the pages that these segments meet
pub record Marks (taken : ℕ → Bool) (ss : List SegmentValue) : Type 0 where
  pub met : (q : ℕ) → taken q ≡ true → IsMet ss q
  pub unmet : (q : ℕ) → taken q ≡ false → IsMet ss q → ⊥

one_of : (x : SegmentValue) (xs : List SegmentValue) (y : SegmentValue) → IsOne x (xs ++ y ∷ []) → IsOne x xs ⊎ (y ≡ x)
one_of x [] y (zero, e) = inr (some_same y x e)
one_of x [] y (suc i, e) = cc
one_of x (z ∷ xs) y (zero, e) = inl (0, e)
one_of x (z ∷ xs) y (suc i, e) = ⊎_elim (λ o. inl (suc o.0, o.1)) (λ s. inr s) (one_of x xs y (i, e))

first_of : (s : Site) (bytes : List ℕ) (q : ℕ) → IsPlaced (segment_at s bytes) → in_span (pages_at s) q ≡ true → IsIn (4096 * q) (segment_at s bytes)
first_of s bytes q k h = let a = k.starts in let b = k.whole in (grind (arith, nat_tests, h, a, b), grind (arith, nat_tests, h, a, b))

none_of : (s : Site) (bytes : List ℕ) (q a : ℕ) → IsPlaced (segment_at s bytes) → in_span (pages_at s) q ≡ false → IsIn a (segment_at s bytes) → a / 4096 ≡ q → ⊥
none_of s bytes q a k h (low, high) e = let b = k.starts in let c = k.whole in grind (arith, nat_tests, h, b, c, low, high, e)

marked : (taken : ℕ → Bool) (ss : List SegmentValue) (s : Site) (bytes : List ℕ) → Marks taken ss → IsPlaced (segment_at s bytes) → Marks (taking taken s) (ss ++ segment_at s bytes ∷ [])
unfolding taking
marked taken ss s bytes k placed = record {
  met = λ q e. ⊎_elim
      (λ h. let x = k.met q h in (x.0, x.1, one_left x.0 ss (segment_at s bytes ∷ []) x.2, x.3, x.4))
      (λ h. (segment_at s bytes, 4096 * q, one_last (segment_at s bytes) ss, first_of s bytes q placed h, omega arith))
      (or_cases (taken q) (in_span (pages_at s) q) e);
  unmet = λ q e x.
      let parts = or_parts (taken q) (in_span (pages_at s) q) e in
      ⊎_elim
      (λ one. k.unmet q parts.0 (x.0, x.1, one, x.3, x.4))
      (λ same. none_of s bytes q x.1 placed parts.1 (subst (IsIn x.1) (sym same) x.3) x.4)
      (one_of x.0 ss (segment_at s bytes) x.2);
}

-- ---- what was laid stays
told_list : (p : PlanPart) (s : Site) (l : Laid) → (told_at p s l).list ≡ l.list
told_list (Image rule bytes) s l = refl
told_list (Initrd rule bytes) s l = refl
told_list (Headers rule map notes) s l = refl
told_list (Parameters k rows) s l = refl
told_list (Module m) s l = refl
told_list (Information rows) s l = refl

told_taken : (p : PlanPart) (s : Site) (l : Laid) → (told_at p s l).taken ≡ taking l.taken s
told_taken (Image rule bytes) s l = refl
told_taken (Initrd rule bytes) s l = refl
told_taken (Headers rule map notes) s l = refl
told_taken (Parameters k rows) s l = refl
told_taken (Module m) s l = refl
told_taken (Information rows) s l = refl

-- what is laid behind it
pub grown : (ram : ℕ → Bool) (ps : List PlanPart) (l out : Laid) → place_parts ram l ps ≡ Ok out → out.fault ≡ None → (more : List SegmentValue) × (out.list ≡ l.list ++ more)
grown ram [] l out e z = ([], ap (λ (l : Laid). l.list) (sym (none_more ram l out e)) ∙ sym (append-nil l.list))
grown ram (p ∷ ps) l out e z =
    let a = step ram l out p ps e z in
    let s = segment_at a.site a.bytes in
    let rest = grown ram ps (push (told_at p a.site l) a.site (Ok a.bytes)) out a.rest z in
    (s ∷ rest.0, rest.1 ∙ ap (λ ss. (ss ++ s ∷ []) ++ rest.0) (told_list p a.site l) ∙ append_assoc l.list (s ∷ []) rest.0)

-- ---- a place that was found
abbrev pub limits_by : PlaceRule → Limits
limits_by r = record { align = r.align; low = r.min; high = r.most }

-- each of these parts is to lie at the greatest address, within these limits
abbrev pub AreHigh : List PlanPart → List Limits → Type 0
AreHigh [] [] = Unit {0}
AreHigh [] (l ∷ ls) = ⊥
AreHigh (p ∷ ps) [] = ⊥
AreHigh (p ∷ ps) (l ∷ ls) = ((d : Laid) → ((rule_of p d).end ≡ Greatest) × (limits_by (rule_of p d) ≡ l)) × AreHigh ps ls

module _ (crash : Bool) (m : MapValue) (g : Ground) (to : (q : ℕ) → ram g q ≡ true → MayTake crash m q) (from : (q : ℕ) → MayTake crash m q → ram g q ≡ true) where
  -- the segment lies at the first address, from this end, at which it fits
  abbrev pub LiesFrom : End → Limits → (before : List SegmentValue) → SegmentValue → Type 0
  LiesFrom end l before s = FitsAt crash m before l s.memsz s.mem × ((a : ℕ) → FitsAt crash m before l s.memsz a → ComesFirst end s.mem a)

  abbrev pub LiesBy : PlaceRule → (before : List SegmentValue) → SegmentValue → Type 0
  LiesBy r before s = LiesFrom r.end (limits_by r) before s

  -- an address that fits by the rule
  abbrev FitsBy : (ℕ → Bool) → PlaceRule → ℕ → Type 0
  FitsBy taken r a = Fits (ram g) taken (record { size = part_size r.length; align = r.align; min = r.min; max = r.most }) a

  fits_out : (taken : ℕ → Bool) (ss : List SegmentValue) (r : PlaceRule) (a : ℕ) → Marks taken ss → FitsBy taken r a → FitsAt crash m ss (limits_by r) (part_size r.length) a
  fits_out taken ss r a k f = record {
    aligned = f.aligned;
    above = f.above;
    below = f.below;
    may_take = λ q low high. to q (f.in_ram q low high);
    apart = λ q low high. k.unmet q (f.not_taken q low high);
  }

  untaken : (taken : ℕ → Bool) (ss : List SegmentValue) (q : ℕ) → Marks taken ss → (IsMet ss q → ⊥) → taken q ≡ false
  untaken taken ss q k none = by (taken q) refl
    where
      by : (b : Bool) → taken q ≡ b → taken q ≡ false
      by true e = absurd (none (k.met q e))
      by false e = e

  fits_in : (taken : ℕ → Bool) (ss : List SegmentValue) (r : PlaceRule) (a : ℕ) → Marks taken ss → FitsAt crash m ss (limits_by r) (part_size r.length) a → FitsBy taken r a
  fits_in taken ss r a k f = record {
    aligned = f.aligned;
    above = f.above;
    below = f.below;
    in_ram = λ q low high. from q (f.may_take q low high);
    not_taken = λ q low high. untaken taken ss q k (f.apart q low high);
  }

  pub lies : (taken : ℕ → Bool) (ss : List SegmentValue) (r : PlaceRule) (s : Site) (bytes : List ℕ) → Marks taken ss → place (ram g) taken r ≡ Ok s → LiesBy r ss (segment_at s bytes)
  unfolding place
  lies taken ss r s bytes k e = by (hole (ram g) taken r) (found_is_hole (ram g) taken r) (guard_ok (nat_le (2 ^ 46) (part_size r.length)) _ _ s e).1
    where
      by : (o : Option ℕ) → IsHoleBy (ram g) taken r o → site_at r o ≡ Ok s → LiesBy r ss (segment_at s bytes)
      by None h f = cc
      by (Some a) h f = subst (λ s. LiesBy r ss (segment_at s bytes)) (ok_same {F = PlanFault} _ s f) (fits_out taken ss r a k h.0, λ x fits. h.1 x (fits_in taken ss r x k fits))

  -- ---- parts that were placed, each by its rule
  abbrev pub AllLie : List PlanPart → (before : List SegmentValue) → List SegmentValue → Type 0
  AllLie [] before [] = Unit {0}
  AllLie [] before (s ∷ ss) = ⊥
  AllLie (p ∷ ps) before [] = ⊥
  AllLie (p ∷ ps) before (s ∷ ss) = ((l : Laid) × LiesBy (rule_of p l) before s) × AllLie ps (before ++ s ∷ []) ss

  pub record Lain (ps : List PlanPart) (l out : Laid) : Type 0 where
    pub placed : List SegmentValue
    pub list : out.list ≡ l.list ++ placed
    pub all : AllLie ps l.list placed
    pub marks : Marks out.taken out.list

  pub all_lie : (ps : List PlanPart) (l out : Laid) → place_parts (ram g) l ps ≡ Ok out → out.fault ≡ None → Marks l.taken l.list → AllByRecursion IsPlaced out.list → Lain ps l out
  all_lie [] l out e z k placed =
      let same = none_more (ram g) l out e in
      record {
        placed = [];
        list = ap (λ (l : Laid). l.list) (sym same) ∙ sym (append-nil l.list);
        all = tt;
        marks = subst (λ (l : Laid). Marks l.taken l.list) same k;
      }
  all_lie (p ∷ ps) l out e z k placed =
      let a = step (ram g) l out p ps e z in
      let s = segment_at a.site a.bytes in
      let next = push (told_at p a.site l) a.site (Ok a.bytes) in
      let list : next.list ≡ l.list ++ s ∷ [] = ap (λ ss. ss ++ s ∷ []) (told_list p a.site l) in
      let here : IsOne s next.list = subst (IsOne s) (sym list) (one_last s l.list) in
      let more = grown (ram g) ps next out a.rest z in
      let its = Each-slice_get IsPlaced next.list here.0 s (Each-left IsPlaced next.list more.0 (subst (AllByRecursion IsPlaced) more.1 placed)) here.1 in
      let marks : Marks next.taken next.list = subst (Marks next.taken) (sym list) (subst (λ taken. Marks taken (l.list ++ s ∷ [])) (sym (told_taken p a.site l)) (marked l.taken l.list a.site a.bytes k its)) in
      let rest = all_lie ps next out a.rest z marks placed in
      record {
        placed = s ∷ rest.placed;
        list = rest.list ∙ ap (λ ss. ss ++ rest.placed) list ∙ append_assoc l.list (s ∷ []) rest.placed;
        all = ((l, lies l.taken l.list (rule_of p l) a.site a.bytes k a.placed), subst (λ before. AllLie ps before rest.placed) list rest.all);
        marks = rest.marks;
      }

  -- ---- parts that lie at the greatest address
  pub highest : (ps : List PlanPart) (ls : List Limits) (before ss : List SegmentValue) → AreHigh ps ls → AllLie ps before ss → LieHighest crash m before ls ss
  highest [] [] before [] h k = tt
  highest [] [] before (s ∷ ss) h k = absurd k
  highest [] (l ∷ ls) before ss h k = absurd h
  highest (p ∷ ps) [] before ss h k = absurd h
  highest (p ∷ ps) (l ∷ ls) before [] h k = absurd k
  highest (p ∷ ps) (l ∷ ls) before (s ∷ ss) h k =
      let its = h.0 k.0.0 in (
        subst (λ l. LiesFrom Greatest l before s) its.1 (subst (λ end. LiesFrom end (limits_by (rule_of p k.0.0)) before s) its.0 k.0.1),
        highest ps ls (before ++ s ∷ []) ss h.1 k.1,
      )

-- lists of them, one behind the other
pub highest_append : (crash : Bool) (m : MapValue) (before : List SegmentValue) (ls ks : List Limits) (ss ts : List SegmentValue) → LieHighest crash m before ls ss → LieHighest crash m (before ++ ss) ks ts → LieHighest crash m before (ls ++ ks) (ss ++ ts)
highest_append crash m before [] ks [] ts h k = subst (λ before. LieHighest crash m before ks ts) (append-nil before) k
highest_append crash m before [] ks (s ∷ ss) ts h k = absurd h
highest_append crash m before (l ∷ ls) ks [] ts h k = absurd h
highest_append crash m before (l ∷ ls) ks (s ∷ ss) ts h k =
    (h.0, highest_append crash m (before ++ s ∷ []) ls ks ss ts h.1 (subst (λ before. LieHighest crash m before ks ts) (sym (append_assoc before (s ∷ []) ss)) k))
