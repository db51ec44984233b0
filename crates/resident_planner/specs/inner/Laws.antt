-- What is claimed of lists that use resident pages.
-- No clause of `kexec` reaches what stands here: it serves laws, and contracts inside the crates.
use Rattle.std.specs.Prelude.{◌++◌, ◌^◌, ◌<◌, ◌≡◌, ℕ, suc, ◌+◌, ◌≤◌, List, [], ◌∷◌, length, Option, Some, None, true, false, is_some, count_by, if◌then◌else◌, ◌==◌}
use Rattle.std.specs.List.{AllByRecursion}
use Rattle.kx_pages.specs.declared.item.Item.{Item}
use Rattle.kx_pages.specs.Lists.{Distinct, has, destinations}
use Rattle.kx_pages.specs.Bytes.{Mem, Wants}
use Rattle.list_checker.specs.Walk.{Accepted, IsAccepted, InOrder, pairs}
use Rattle.list_checker.specs.inner.Laws.{ListsWanted}
use Rattle.page_memory.specs.Contents.{Contents, at}
use Rattle.segments.specs.Values.{SegmentValue}
use Rattle.segments.specs.inner.Rules.{IsBare}
use Rattle.resident_planner.specs.declared.fault.ResidentFault.{ResidentFault}
use Rattle.resident_planner.specs.declared.plan.Made.{Made}
use Rattle.resident_planner.specs.Made.{IsMade}
use Rattle.resident_planner.specs.Refusals.{AreWantedPages, IsFault}
use Rattle.resident_planner.specs.Laid.{plan_items, plan_head, plan_memory}
use Rattle.resident_planner.specs.inner.Laid.{AreResident, AreUsable}
use Rattle.resident_planner.specs.Cycles.{is_at, resident_step, is_on_cycle, is_least, cycles, deviating}
use Rattle.resident_planner.specs.inner.Cycles.{Goes}
use Rattle.resident_planner.specs.Plan.{is_fresh, source, source_step, rank, Planned}
use Rattle.resident_planner.specs.inner.Plan.{AreFresh}

-- pairs in order, whose destinations are exactly the wanted pages, deviate at least once a cycle
abbrev pub CyclesDeviate : Type 0
CyclesDeviate =
    (r : ℕ → Option ℕ) (D : List ℕ) (qs : List (ℕ × ℕ)) → Distinct D → InOrder qs
    → ((p : ℕ) → has p (destinations qs) ≡ has p D)
    → cycles r D ≤ deviating r qs

-- each list that is accepted, in whatever memory, has a pair a cycle that does not use its
-- destination's resident page
abbrev pub AcceptedDeviates : Type 0
AcceptedDeviates =
    (r : ℕ → Option ℕ) (D : List ℕ) (M : Mem) (W : Wants) (head control : ℕ) (swap : Option ℕ)
    (is : List Item) → Distinct D → ListsWanted W D → IsAccepted M W head control swap is
    → cycles r D ≤ deviating r (pairs is)

-- the rank of a wanted page is 0 where its source is the page itself or no wanted page, and else
-- one more than its source's
abbrev pub RankFalls : Type 0
RankFalls =
    (r : ℕ → Option ℕ) (D : List ℕ) (d : ℕ) → has d D ≡ true →
    (source_step r D d ≡ None → rank r D d ≡ 0)
    × ((q : ℕ) → source_step r D d ≡ Some q → rank r D d ≡ suc (rank r D q))

-- the planned pairs are in order, and as many of them deviate as there are cycles
abbrev pub PlanStands : Type 0
PlanStands =
    (r : ℕ → Option ℕ) (D fresh : List ℕ) (qs : List (ℕ × ℕ)) → Distinct D → AreFresh r D fresh
    → Planned r D fresh qs → InOrder qs × (deviating r qs ≡ cycles r D)

-- a page is on a cycle exactly where its resident page is another page and any number of steps
-- leads back: the bound on the number of steps leaves nothing out
abbrev pub CyclesOfAnyLength : Type 0
CyclesOfAnyLength =
    (r : ℕ → Option ℕ) (D : List ℕ) (d : ℕ) →
    (is_on_cycle r D d ≡ true
    → (is_at (r d) d ≡ false) × ((k : ℕ) × Goes (resident_step r D) (suc k) d d))
    × (is_at (r d) d ≡ false → (k : ℕ) → Goes (resident_step r D) (suc k) d d
    → is_on_cycle r D d ≡ true)

-- how many pages of the pool are given out: one for each wanted page without a resident page, and
-- one a cycle
abbrev pub FreshNeeded : Type 0
FreshNeeded =
    (r : ℕ → Option ℕ) (D : List ℕ)
    → count_by (is_fresh r D) D + count_by (λ d. is_some (r d)) D ≡ length D + cycles r D

-- with so many, each wanted page has a source
abbrev pub FreshSuffices : Type 0
FreshSuffices =
    (r : ℕ → Option ℕ) (D fresh : List ℕ) → count_by (is_fresh r D) D ≤ length fresh
    → (d : ℕ) → has d D ≡ true → (p : ℕ) × (source r D fresh d ≡ Some p)

-- one list of pairs at most is planned
abbrev pub OnePlan : Type 0
OnePlan =
    (r : ℕ → Option ℕ) (D fresh : List ℕ) (qs rs : List (ℕ × ℕ))
    → Planned r D fresh qs → Planned r D fresh rs → qs ≡ rs

-- with so many pages of the pool, there is one
abbrev pub PlanExists : Type 0
PlanExists =
    (r : ℕ → Option ℕ) (D fresh : List ℕ) → count_by (is_fresh r D) D ≤ length fresh
    → (qs : List (ℕ × ℕ)) × Planned r D fresh qs

-- a row: page 2 is to have what page 3 holds, and page 3 what page 2 holds
abbrev pub exchanged : ℕ → Option ℕ
exchanged p = if p == 2 then Some 3 else if p == 3 then Some 2 else None

abbrev pub ExchangedPages : Type 0
ExchangedPages =
    (cycles exchanged (2 ∷ 3 ∷ []) ≡ 1)
    × Planned exchanged (2 ∷ 3 ∷ []) (18 ∷ []) ((3, 2) ∷ (2, 18) ∷ [])

-- the list of a plan is accepted in its memory, which is the old one outside the link pages and the
-- sources from the pool
abbrev pub PlanAccepted : Type 0
PlanAccepted =
    (M : Mem) (W : Wants) (r : ℕ → Option ℕ) (D : List ℕ) (control : ℕ) (ls fresh : List ℕ)
    (qs : List (ℕ × ℕ)) → Distinct D → AllByRecursion (λ d. d < 2 ^ 34) D → ListsWanted W D
    → AreResident M W r D → AreUsable r D control ls fresh → Planned r D fresh qs
    → Accepted (plan_memory M W r D ls fresh qs) W (plan_head ls) control (plan_items ls qs)
    × (pairs (plan_items ls qs) ≡ qs)
    × ((p : ℕ) → has p (ls ++ fresh) ≡ false → plan_memory M W r D ls fresh qs p ≡ M p)

-- the least page of a cycle, in words of steps alone
abbrev pub LeastOfAnyLength : Type 0
LeastOfAnyLength =
    (r : ℕ → Option ℕ) (D : List ℕ) (d : ℕ) →
    (is_least r D d ≡ true
    → (is_at (r d) d ≡ false) × ((k : ℕ) × Goes (resident_step r D) (suc k) d d)
    × ((m q : ℕ) → Goes (resident_step r D) m d q → d ≤ q))
    × (is_at (r d) d ≡ false → (k : ℕ) → Goes (resident_step r D) (suc k) d d
    → ((m q : ℕ) → Goes (resident_step r D) m d q → d ≤ q) → is_least r D d ≡ true)

-- each cycle has exactly one least page: so `cycles` is the number of cycles
abbrev pub OneLeast : Type 0
OneLeast =
    (r : ℕ → Option ℕ) (D : List ℕ) (d : ℕ) → is_on_cycle r D d ≡ true →
    (e m : ℕ) × Goes (resident_step r D) m d e × (is_least r D e ≡ true)
    × ((f n : ℕ) → Goes (resident_step r D) n d f → is_least r D f ≡ true → f ≡ e)

-- the wanted pages have one list in rising order
abbrev pub OneWantedList : Type 0
OneWantedList =
    (S : List SegmentValue) (D E : List ℕ) → AreWantedPages S D → AreWantedPages S E → D ≡ E

-- where no fault holds of a memory, segments, a pool and pairs, there is a list: so a list is made exactly where none is
-- refused, want of memory aside
abbrev pub ListExists : Type 0
ListExists =
    (m : Contents) (S : List SegmentValue) (pool : List ℕ) (rs : List (ℕ × ℕ)) → IsBare S
    → Distinct pool → AllByRecursion (λ p. p < 2 ^ 34) pool → AllByRecursion (λ q. q.1 < 2 ^ 34) rs
    → ((e : ResidentFault) → IsFault (at m) S pool rs e → ⊥)
    → (made : Made) × IsMade (at m) S pool rs made
