-- A planned load passes the test of its own purgatory.
use Rattle.std.proofs.Common.{◌≡◌, ℕ, ◌++◌, List, [], ◌∷◌, Option, Some, None, Ok, subst, ⊎_elim, arith}
use Rattle.kx_laws.specs.Results.{◌>>=◌}
use Rattle.kx_laws.proofs.Results.{bind_ok, ok_same}
use Rattle.kx_pages.specs.declared.image.Start.{Start}
use Rattle.segments.specs.Values.{SegmentValue}
use Rattle.kexec_plan.specs.Ground.{Ground}
use Rattle.memory_map.specs.Maps.{MapValue}
use Rattle.purgatory_link.specs.declared.region_test.RegionTest.TheVariants as answers
use Rattle.purgatory_link.specs.RegionTest.{test}
use Rattle.purgatory_link.specs.inner.Tie.{HasWanted}
use Rattle.kexec_plan.specs.declared.places.Site.{Site}
use Rattle.kexec_plan.specs.Requests.{Asked, Plan}
use Rattle.kexec_plan.specs.Parts.{segment_at}
use Rattle.kexec_plan.specs.Rules.{test_segments}
use Rattle.kexec_plan.specs.Purgatory.{PurgatoryValue, Linkage, linked_at}
use Rattle.kexec_plan.specs.Plan.{plan}
use Rattle.kexec_plan.specs.Finish.{plain_plan, armed_plan, finish, HasTableApart}
use Rattle.kexec_plan.proofs.Bare.{armed_as, plain_as, tested_bare}
use Rattle.kexec_plan.proofs.Linkages.{IsLinkage, linkage_is}
use Rattle.kexec_plan.proofs.Puts.{armed_passes}
use Rattle.kexec_plan.proofs.Ways.{plan_ends}

abbrev Passes : (ℕ → List ℕ) → Plan → Type 0
Passes M p = HasTableApart p → HasWanted M p.segments → test M p.regions p.digest ≡ answers.Same

armed_plan_passes : (g : Ground) (ss : List SegmentValue) (start : Start) (l : Linkage) (s : Site) (p : Plan) (M : ℕ → List ℕ) → IsLinkage s l → armed_plan g ss start l s ≡ Ok p → Passes M p
unfolding armed_plan
armed_plan_passes g ss start l s p M is h =
    let a = bind_ok (test_segments g (ss ++ segment_at s l.bytes ∷ [])) (λ _. Ok (armed_as ss start l s)) p h in
    subst (Passes M) (ok_same (armed_as ss start l s) p a.2)
    (λ apart wanted. armed_passes l start ss s M is.base is.symbols (tested_bare g (ss ++ segment_at s l.bytes ∷ []) a.0 a.1) apart wanted)

linked_plan_passes : (g : Ground) (ss : List SegmentValue) (start : Start) (o : PurgatoryValue) (s : Site) (p : Plan) (M : ℕ → List ℕ) → (linked_at o s >>= λ l. armed_plan g ss start l s) ≡ Ok p → Passes M p
linked_plan_passes g ss start o s p M h =
    let a = bind_ok (linked_at o s) (λ l. armed_plan g ss start l s) p h in
    armed_plan_passes g ss start a.0 s p M (linkage_is o s a.0 a.1) a.2

-- without a purgatory both addresses are 0, so the table and the digest are not apart
plain_plan_passes : (g : Ground) (ss : List SegmentValue) (start : Start) (p : Plan) (M : ℕ → List ℕ) → plain_plan g ss start ≡ Ok p → Passes M p
unfolding plain_plan
plain_plan_passes g ss start p M h =
    let a = bind_ok (test_segments g ss) (λ segments. Ok (plain_as segments start)) p h in
    subst (Passes M) (ok_same (plain_as a.0 start) p a.2)
    (λ apart wanted. absurd (⊎_elim (λ l. omega (arith, l)) (λ l. omega (arith, l)) apart))

finished_passes : (M : ℕ → List ℕ) (g : Ground) (ss : List SegmentValue) (start : Start) (o : Option PurgatoryValue) (s : Option Site) (p : Plan) → finish g ss start o s ≡ Ok p → Passes M p
unfolding finish
finished_passes M g ss start (Some o) (Some s) p h = linked_plan_passes g ss start o s p M h
finished_passes M g ss start (Some o) None p h = plain_plan_passes g ss start p M h
finished_passes M g ss start None s p h = plain_plan_passes g ss start p M h

-- memory that has what is wanted of each page of a plan's segments passes the test of the plan's purgatory
pub same_where_planned : (r : Asked) (m : Option MapValue) (p : Plan) (M : ℕ → List ℕ) → plan r m ≡ Ok p → HasTableApart p → HasWanted M p.segments → test M p.regions p.digest ≡ answers.Same
same_where_planned r m p M h apart wanted = plan_ends (Passes M) (finished_passes M) r m p h apart wanted
