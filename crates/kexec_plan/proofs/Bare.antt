-- The segments of a plan break no rule.
use Rattle.std.proofs.Common.{◌≡◌, ℕ, ◌-◌, ◌++◌, List, [], ◌∷◌, length, Option, Some, None, Ok, refl, subst, ◌∙◌, arith}
use Rattle.kx_laws.specs.Results.{◌>>=◌}
use Rattle.kx_laws.proofs.Results.{bind_ok, ok_same}
use Rattle.kx_fields.specs.Fields.{with_bytes}
use Rattle.kx_pages.specs.declared.image.Start.{Start}
use Rattle.segments.specs.Values.{SegmentValue}
use Rattle.segments.specs.inner.Rules.{IsBare}
use Rattle.segments.specs.declared.fault.SegFault.{SegFault}
use Rattle.segments.specs.declared.fault.Kind.TheVariants.{Normal, Crash}
use Rattle.kexec_plan.specs.Ground.{Ground, Unknown, Machine, Reserved}
use Rattle.segments.proofs.Laws.{AreSegments-from_IsBare, IsBare-from_refusal}
use Rattle.memory_map.specs.Maps.{MapValue}
use Rattle.purgatory_link.specs.Regions.{digest, others, region_table}
use Rattle.purgatory_link.proofs.Placing.{length-digest, length-table}
use Rattle.purgatory_link.proofs.Tying.{few_others}
use Rattle.kexec_plan.specs.declared.places.Site.{Site}
use Rattle.kexec_plan.specs.Requests.{Asked, Plan}
use Rattle.kexec_plan.specs.Parts.{segment_at, start_at}
use Rattle.kexec_plan.specs.Rules.{first_refusal, unless_refused, test_segments}
use Rattle.kexec_plan.specs.Purgatory.{Linkage, PurgatoryValue, arm, linked_at}
use Rattle.kexec_plan.specs.inner.Purgatory.{HasSymbols}
use Rattle.kexec_plan.specs.Plan.{plan}
use Rattle.kexec_plan.specs.Finish.{plain_plan, armed_segment, armed_plan, finish}
use Rattle.kexec_plan.proofs.Linkages.{IsLinkage, linkage_is}
use Rattle.kexec_plan.proofs.Puts.{bare_set, get_last, length-put, length-with_registers, set_last, with_registers}
use Rattle.kexec_plan.proofs.Ways.{plan_ends}

-- ---- segments that passed the rules
not_refused : (ss segments : List SegmentValue) (o : Option SegFault) → unless_refused ss o ≡ Ok segments → o ≡ None
not_refused ss segments None h = refl
not_refused ss segments (Some fault) h = cc

bare_by : (g : Ground) (ss : List SegmentValue) → first_refusal g ss ≡ None → IsBare ss
unfolding first_refusal
bare_by Unknown ss h = h
bare_by (Machine map) ss h = IsBare-from_refusal _ Normal ss h
bare_by (Reserved map area) ss h = IsBare-from_refusal _ (Crash area) ss h

pub tested_bare : (g : Ground) (ss segments : List SegmentValue) → test_segments g ss ≡ Ok segments → IsBare ss
unfolding test_segments
tested_bare g ss segments h = bare_by g ss (not_refused ss segments (first_refusal g ss) h)

tested_same : (ss segments : List SegmentValue) (o : Option SegFault) → unless_refused ss o ≡ Ok segments → ss ≡ segments
tested_same ss segments None h = ok_same ss segments h
tested_same ss segments (Some fault) h = cc

tested_are : (g : Ground) (ss segments : List SegmentValue) → test_segments g ss ≡ Ok segments → ss ≡ segments
unfolding test_segments
tested_are g ss segments h = tested_same ss segments (first_refusal g ss) h

-- ---- the two ends of plans
abbrev pub armed_as : List SegmentValue → Start → Linkage → Site → Plan
armed_as ss start l s = record {
  segments = ss ++ armed_segment l start ss s ∷ [];
  start = start_at l.symbols.start;
  regions = l.symbols.regions;
  digest = l.symbols.digest;
}

abbrev pub plain_as : List SegmentValue → Start → Plan
plain_as segments start = record { segments = segments; start = start; regions = 0; digest = 0 }

-- the purgatory has as many bytes as it had before it got its table and its digest
length-armed : (l : Linkage) (start : Start) (table sum : List ℕ) → HasSymbols l.base (length l.bytes) l.symbols → length table ≡ 256 → length sum ≡ 32 → length (arm l start table sum) ≡ length l.bytes
unfolding arm
length-armed l start table sum h wide long =
    let first = length-with_registers l start h in
    let second = length-put l.base l.symbols.regions 256 table (with_registers l start) (omega (arith, wide)) h.regions_from (omega (arith, first, h.regions_to)) in
    length-put l.base l.symbols.digest 32 sum (with_bytes (l.symbols.regions - l.base) table (with_registers l start)) (omega (arith, long)) h.digest_from (omega (arith, second, first, h.digest_to))
    ∙ second ∙ first

armed_bare : (l : Linkage) (start : Start) (ss : List SegmentValue) (s : Site) → HasSymbols l.base (length l.bytes) l.symbols → IsBare (ss ++ segment_at s l.bytes ∷ []) → IsBare (ss ++ armed_segment l start ss s ∷ [])
armed_bare l start ss s h bare =
    let list = ss ++ segment_at s l.bytes ∷ [] in
    let table = region_table (others list (length ss)) in
    let sum = digest list (length ss) in
    let wide = length-table (others list (length ss)) (few_others list (length ss) (AreSegments-from_IsBare list bare).few) in
    subst IsBare (set_last ss (segment_at s l.bytes) (armed_segment l start ss s))
    (bare_set list (length ss) (segment_at s l.bytes) (arm l start table sum) bare (get_last ss (segment_at s l.bytes)) (length-armed l start table sum h wide (length-digest list (length ss))))

armed_plan_bare : (g : Ground) (ss : List SegmentValue) (start : Start) (l : Linkage) (s : Site) (p : Plan) → IsLinkage s l → armed_plan g ss start l s ≡ Ok p → IsBare p.segments
unfolding armed_plan
armed_plan_bare g ss start l s p is h =
    let a = bind_ok (test_segments g (ss ++ segment_at s l.bytes ∷ [])) (λ _. Ok (armed_as ss start l s)) p h in
    subst (λ (p : Plan). IsBare p.segments) (ok_same (armed_as ss start l s) p a.2)
    (armed_bare l start ss s is.symbols (tested_bare g (ss ++ segment_at s l.bytes ∷ []) a.0 a.1))

linked_plan_bare : (g : Ground) (ss : List SegmentValue) (start : Start) (o : PurgatoryValue) (s : Site) (p : Plan) → (linked_at o s >>= λ l. armed_plan g ss start l s) ≡ Ok p → IsBare p.segments
linked_plan_bare g ss start o s p h =
    let a = bind_ok (linked_at o s) (λ l. armed_plan g ss start l s) p h in
    armed_plan_bare g ss start a.0 s p (linkage_is o s a.0 a.1) a.2

plain_plan_bare : (g : Ground) (ss : List SegmentValue) (start : Start) (p : Plan) → plain_plan g ss start ≡ Ok p → IsBare p.segments
unfolding plain_plan
plain_plan_bare g ss start p h =
    let a = bind_ok (test_segments g ss) (λ segments. Ok (plain_as segments start)) p h in
    subst (λ (p : Plan). IsBare p.segments) (ok_same (plain_as a.0 start) p a.2)
    (subst IsBare (tested_are g ss a.0 a.1) (tested_bare g ss a.0 a.1))

finished_bare : (g : Ground) (ss : List SegmentValue) (start : Start) (o : Option PurgatoryValue) (s : Option Site) (p : Plan) → finish g ss start o s ≡ Ok p → IsBare p.segments
unfolding finish
finished_bare g ss start (Some o) (Some s) p h = linked_plan_bare g ss start o s p h
finished_bare g ss start (Some o) None p h = plain_plan_bare g ss start p h
finished_bare g ss start None s p h = plain_plan_bare g ss start p h

pub planned_bare : (r : Asked) (m : Option MapValue) (p : Plan) → plan r m ≡ Ok p → IsBare p.segments
planned_bare r m p h = plan_ends (λ (p : Plan). IsBare p.segments) finished_bare r m p h
