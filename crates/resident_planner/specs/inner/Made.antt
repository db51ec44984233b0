-- What the planner makes (this project's own).
-- No clause of `kexec` reaches what stands here: it serves laws, and contracts inside the crates.
use Rattle.std.specs.Prelude.{◌≡◌, ℕ, ◌^◌, ◌<◌, ◌≤◌, ◌++◌, ◌∷◌, List, [], length, map, Option, None, All, count_by}
use Rattle.std.specs.List.{AllByRecursion}
use Rattle.kx_pages.specs.Bytes.{Mem}
use Rattle.kx_pages.specs.Items.{code}
use Rattle.segments.specs.Values.{SegmentValue, want, is_destination}
use Rattle.list_checker.specs.Checked.{as_pair}
use Rattle.resident_planner.specs.declared.link_pages.LinkPage.{LinkPage}
use Rattle.resident_planner.specs.declared.plan.Plan.{Plan}
use Rattle.resident_planner.specs.Cycles.{cycles}
use Rattle.resident_planner.specs.Plan.{Planned, is_fresh}
use Rattle.resident_planner.specs.Laid.{given_sources, pair_items, plan_head}
use Rattle.resident_planner.specs.Refusals.{AreWantedPages, resident_of, pairs_refusal, usable, link_count}
use Rattle.resident_planner.specs.inner.LinkPages.{laid_page, word_pages}

-- the link pages of the planned pairs
pub record AreLinked (r : ℕ → Option ℕ) (D fresh links : List ℕ) (pages : List LinkPage)
    : Type 0 where
  pub planned_pairs : List (ℕ × ℕ)
  pub planned : Planned r D fresh planned_pairs
  pub are : map laid_page pages ≡ word_pages links (map code (pair_items planned_pairs))

-- the plan over the pages that it takes: the control page, the link pages, and the fresh pages
pub record IsPlanOf (r : ℕ → Option ℕ) (D : List ℕ) (p : Plan) : Type 0 where
  pub links : List ℕ
  pub fresh : List ℕ
  pub planned_pairs : List (ℕ × ℕ)
  pub taken_are : p.taken.items ≡ p.control ∷ links ++ fresh
  pub links_are : length links ≡ link_count (length D)
  pub fresh_are : length fresh ≡ count_by (is_fresh r D) D
  pub planned : Planned r D fresh planned_pairs
  pub head_is : p.head ≡ plan_head links
  pub link_pages_are : map laid_page p.link_pages.items
      ≡ word_pages links (map code (pair_items planned_pairs))
  pub short : All (λ s. length s.bytes.items ≤ 4096) p.link_pages.items
  pub given_are : map as_pair p.given.items ≡ given_sources r D fresh
  pub cycles_are : p.cycles ≡ cycles r D

-- no pair is refused, and the plan takes the first usable pages
pub record IsPlanned (M : Mem) (S : List SegmentValue) (pool : List ℕ) (rs : List (ℕ × ℕ))
    (p : Plan) : Type 0 where
  pub wanted_pages : List ℕ
  pub are : AreWantedPages S wanted_pages
  pub low : AllByRecursion (λ d. d < 2 ^ 34) wanted_pages
  pub fine : pairs_refusal M (want S) [] rs ≡ None
  pub sources_low : AllByRecursion (λ q. q.1 < 2 ^ 34) rs
  pub rest : List ℕ
  pub first : usable (is_destination S) rs pool ≡ p.taken.items ++ rest
  pub plan : IsPlanOf (resident_of rs) wanted_pages p
