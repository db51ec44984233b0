-- Where the parts of a Multiboot kernel lie, of the addresses at which they fit.
use Rattle.std.proofs.Common.{◌≡◌, ◌∙◌, append_assoc, ℕ, zero, suc, ◌+◌, ◌-◌, ◌*◌, ◌/◌, ◌^◌, ◌<◌, ◌++◌, List, [], ◌∷◌, true, false, Some, Ok, refl, ⊎_elim, sym, ap, subst, arith}
use Rattle.std.specs.Prelude.{◌&&◌, map, max, min, nat_lt}
use Rattle.std.specs.List.{AllByRecursion, list_any, slice_get}
use Rattle.std.proofs.lemmas.Bool.{false≢true, or_cases, or_parts}
use Rattle.std.proofs.lemmas.Bool.Decides.{nat_tests}
use Rattle.kx_laws.proofs.Booleans.{and_parts, true_false}
use Rattle.kx_laws.proofs.Options.{some_same}
use Rattle.kx_pages.proofs.Lists.{Each-left}
use Rattle.memory_map.specs.Maps.{MapValue}
use Rattle.memory_map.specs.declared.row.Row.{Row}
use Rattle.segments.specs.Values.{SegmentValue, stop}
use Rattle.segments.specs.inner.Shape.{IsPlaced}
use Rattle.segments.proofs.Laws.{AreSegments-from_IsBare}
use Rattle.kexec_plan.specs.Ground.{Machine, ram}
use Rattle.kexec_plan.specs.Ground.{rows as rows_on}
use Rattle.kexec_plan.specs.Laying.{Information, Laid, Module, PlanPart}
use Rattle.kexec_plan.specs.Modules.{AskedModule}
use Rattle.kexec_plan.specs.Places.{is_met, taken_by}
use Rattle.kexec_plan.specs.Plan.{begin, plan}
use Rattle.kexec_plan.specs.Requests.{Asked, Plan}
use Rattle.kexec_plan.proofs.Bare.{planned_bare}
use Rattle.plan_laws.specs.Extremes.{IsMet, LieHighest, Limits, MayTake, MultibootLies, MultibootLiesAtTheEnds, purgatory_limits, up_to}
use Rattle.plan_laws.specs.Places.{IsIn}
use Rattle.plan_laws.proofs.Placing.{AreHigh, Lain, Marks, all_lie, grown, highest, highest_append}
use Rattle.plan_laws.proofs.Modules.{Laid_, multiboot_laid}
use Rattle.plan_laws.proofs.Tails.{Tail, in_map, of_map, tail_by}

-- ---- what is taken before any part is placed: the pages that the kernel's own segments meet
less : (a b : ℕ) → nat_lt a b ≡ true → a < b
less a b e = grind (arith, nat_tests)

is_less : (a b : ℕ) → a < b → nat_lt a b ≡ true
is_less a b h = grind (arith, nat_tests)

first_of : (s : SegmentValue) (q : ℕ) → is_met q s ≡ true → IsIn (max s.mem (4096 * q)) s × (max s.mem (4096 * q) / 4096 ≡ q)
first_of s q e =
    let parts = and_parts (nat_lt q (2 ^ 34)) _ e in
    let l = less (max s.mem (4096 * q)) (min (stop s) (4096 * q + 4096)) parts.1 in
    ((omega arith, omega (arith, l)), omega (arith, l))

meets : (s : SegmentValue) (q a : ℕ) → IsPlaced s → IsIn a s → a / 4096 ≡ q → is_met q s ≡ true
meets s q a k (low, high) e =
    let below = k.below in
    let small = is_less q (2 ^ 34) (omega (arith, below, high, e)) in
    let shared = is_less (max s.mem (4096 * q)) (min (stop s) (4096 * q + 4096)) (omega (arith, low, high, e)) in
    ap (λ b. b && nat_lt (max s.mem (4096 * q)) (min (stop s) (4096 * q + 4096))) small ∙ shared

met : (ss : List SegmentValue) (q : ℕ) → list_any (is_met q) ss ≡ true → IsMet ss q
met [] q e = absurd (false≢true e)
met (s ∷ ss) q e =
    ⊎_elim
    (λ h. let x = first_of s q h in (s, max s.mem (4096 * q), (0, refl), x.0, x.1))
    (λ h. let x = met ss q h in (x.0, x.1, (suc x.2.0, x.2.1), x.3, x.4))
    (or_cases (is_met q s) (list_any (is_met q) ss) e)

unmet : (ss : List SegmentValue) (q : ℕ) → AllByRecursion IsPlaced ss → list_any (is_met q) ss ≡ false → (s : SegmentValue) (i a : ℕ) → slice_get ss i ≡ Some s → IsIn a s → a / 4096 ≡ q → ⊥
unmet [] q k e s i a f h same = cc
unmet (x ∷ ss) q k e s zero a f h same =
    let is = some_same x s f in
    true_false (sym (meets x q a k.0 (subst (IsIn a) (sym is) h) same) ∙ (or_parts (is_met q x) (list_any (is_met q) ss) e).0)
unmet (x ∷ ss) q k e s (suc i) a f h same = unmet ss q k.1 (or_parts (is_met q x) (list_any (is_met q) ss) e).1 s i a f h same

given_marks : (ss : List SegmentValue) → AllByRecursion IsPlaced ss → Marks (taken_by ss) ss
unfolding taken_by
given_marks ss k = record { met = met ss; unmet = λ q e x. unmet ss q k e x.0 x.2.0 x.1 x.2.1 x.3 x.4 }

-- ---- its parts
abbrev parts_of : List AskedModule → List Row → List PlanPart
parts_of modules rows = map Module modules ++ Information rows ∷ []

abbrev limits_of : List AskedModule → List Limits
limits_of modules = map (λ module_. up_to (2 ^ 32 - 4097)) modules ++ (up_to (2 ^ 32 - 1) ∷ [])

are_high : (modules : List AskedModule) (rows : List Row) → AreHigh (parts_of modules rows) (limits_of modules)
are_high [] rows = (λ d. (refl, refl), tt)
are_high (m ∷ ms) rows = (λ d. (refl, refl), are_high ms rows)

-- what a normal kernel may take
module _ (r : Asked) (m : MapValue) (p : Plan) (normal : r.crash ≡ false) (e : plan r (Some m) ≡ Ok p) (l : Laid_ (Machine m) r p) where
  to : (q : ℕ) → ram (Machine m) q ≡ true → MayTake r.crash m q
  to q h = subst (λ c. MayTake c m q) (sym normal) (in_map m q h)

  from : (q : ℕ) → MayTake r.crash m q → ram (Machine m) q ≡ true
  from q h = of_map m q (subst (λ c. MayTake c m q) normal h)

  abbrev parts : List PlanPart
  parts = parts_of r.modules (rows_on (Machine m))

  abbrev first : Laid
  first = begin l.kernel.list l.kernel.entry r.command

  end : Tail r.crash m (Machine m) to from r p l.out (purgatory_limits r.crash r.kernel r.purgatory)
  end = tail_by r.crash m (Machine m) to from r p l.out l.kernel.above4g l.ends r.kernel (λ file. subst (λ c. up_to (2 ^ 31 - 1) ∷ [] ≡ purgatory_limits c r.kernel (Some file)) (sym normal) refl)

  placed : AllByRecursion IsPlaced l.out.list
  placed = Each-left IsPlaced l.out.list end.tail (subst (AllByRecursion IsPlaced) end.segments (AreSegments-from_IsBare p.segments (planned_bare r (Some m) p e)).placed)

  -- the kernel's own segments are the first of those that were laid
  given : AllByRecursion IsPlaced l.kernel.list
  given =
      let g = grown (ram (Machine m)) parts first l.out l.laid l.no_fault in
      Each-left IsPlaced l.kernel.list g.0 (subst (AllByRecursion IsPlaced) g.1 placed)

  lain : Lain r.crash m (Machine m) to from parts first l.out
  lain = all_lie r.crash m (Machine m) to from parts first l.out l.laid l.no_fault (given_marks l.kernel.list given) placed

  multiboot_lies : MultibootLies r m p
  multiboot_lies = record {
    entry = l.kernel.entry;
    given = l.kernel.list;
    others = lain.placed ++ end.tail;
    segments = end.segments ∙ ap (λ ss. ss ++ end.tail) lain.list ∙ append_assoc l.kernel.list lain.placed end.tail;
    kernel = l.loaded;
    highest = highest_append r.crash m l.kernel.list (limits_of r.modules) (purgatory_limits r.crash r.kernel r.purgatory) lain.placed end.tail
        (highest r.crash m (Machine m) to from parts (limits_of r.modules) l.kernel.list lain.placed (are_high r.modules (rows_on (Machine m))) lain.all)
        (subst (λ before. LieHighest r.crash m before (purgatory_limits r.crash r.kernel r.purgatory) end.tail) lain.list (end.lie lain.marks));
  }

pub multiboot_lies_at_the_ends : MultibootLiesAtTheEnds
multiboot_lies_at_the_ends r m p normal form e = multiboot_lies r m p normal e (multiboot_laid r (Some m) p normal form e)
