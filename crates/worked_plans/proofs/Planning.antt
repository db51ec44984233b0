-- The steps of a plan, one after another.
use Rattle.std.proofs.Common.{◌≡◌, ℕ, Bool, List, [], ◌∷◌, ◌++◌, Option, Some, None, Result, Ok, Err, refl, ap, ◌∙◌}
use Rattle.std.specs.Prelude.{option_map}
use Rattle.kx_laws.specs.Results.{◌>>=◌, unless}
use Rattle.segments.specs.Values.{SegmentValue}
use Rattle.plan_faults.specs.declared.fault.PlanFault.{PlanFault}
use Rattle.kexec_plan.specs.Requests.{Plan}
use Rattle.kexec_plan.specs.Ground.{Ground, ram, most}
use Rattle.kexec_plan.specs.Laying.{Laid, PlanPart, rule_of, tell, bytes_of, push, place_part, place_parts}
use Rattle.kexec_plan.specs.Parts.{segment_at, start_at}
use Rattle.kexec_plan.specs.Places.{place, place_some, taking}
use Rattle.kexec_plan.specs.Purgatory.{PurgatoryValue, Linkage, linked_at, purgatory_rule}
use Rattle.kexec_plan.specs.Rules.{test_segments}
use Rattle.kexec_plan.specs.Finish.{plain_plan, armed_plan, armed_segment, finish}
use Rattle.kexec_plan.proofs.Bare.{plain_as, armed_as}

-- what is laid with a part at its place
abbrev pub laid_with : Laid → PlanPart → ℕ → ℕ → Laid
laid_with l p at size =
    push (tell p (record { at = at; size = size }) (record l { taken = taking l.taken (record { at = at; size = size }) })) (record { at = at; size = size })
    (bytes_of p (record { at = at; size = size }) (tell p (record { at = at; size = size }) (record l { taken = taking l.taken (record { at = at; size = size }) })))

part_placed : (pages : ℕ → Bool) (l : Laid) (p : PlanPart) (at size : ℕ) → place pages l.taken (rule_of p l) ≡ Ok (record { at = at; size = size }) → place_part pages l p ≡ Ok (laid_with l p at size)
unfolding place_part
part_placed pages l p at size e = ap (λ r. r >>= λ s. Ok (push (tell p s (record l { taken = taking l.taken s })) s (bytes_of p s (tell p s (record l { taken = taking l.taken s }))))) e

part_refused : (pages : ℕ → Bool) (l : Laid) (p : PlanPart) (fault : PlanFault) → place pages l.taken (rule_of p l) ≡ Err fault → place_part pages l p ≡ Err fault
unfolding place_part
part_refused pages l p fault e = ap (λ r. r >>= λ s. Ok (push (tell p s (record l { taken = taking l.taken s })) s (bytes_of p s (tell p s (record l { taken = taking l.taken s }))))) e

-- one part more, and those behind it
pub parts_on : (pages : ℕ → Bool) (l : Laid) (p : PlanPart) (ps : List PlanPart) (at size : ℕ) → place pages l.taken (rule_of p l) ≡ Ok (record { at = at; size = size }) → place_parts pages l (p ∷ ps) ≡ place_parts pages (laid_with l p at size) ps
unfolding place_parts
parts_on pages l p ps at size e = ap (λ (r : Result Laid PlanFault). r >>= λ l. place_parts pages l ps) (part_placed pages l p at size e)

pub parts_refused : (pages : ℕ → Bool) (l : Laid) (p : PlanPart) (ps : List PlanPart) (fault : PlanFault) → place pages l.taken (rule_of p l) ≡ Err fault → place_parts pages l (p ∷ ps) ≡ Err fault
unfolding place_parts
parts_refused pages l p ps fault e = ap (λ (r : Result Laid PlanFault). r >>= λ l. place_parts pages l ps) (part_refused pages l p fault e)

pub parts_done : (pages : ℕ → Bool) (l : Laid) → place_parts pages l [] ≡ Ok l
unfolding place_parts
parts_done pages l = refl

-- ---- behind the parts: the purgatory's place, the first reason why a part has no bytes, and the end
abbrev pub ending : Ground → Bool → Option PurgatoryValue → Laid → Result Plan PlanFault
ending g above4g v laid =
    place_some (ram g) laid.taken (option_map (purgatory_rule (most g above4g)) v)
    >>= λ site. unless laid.fault >>= λ _. finish g laid.list laid.start v site

-- without a purgatory
pub plain_ending : (g : Ground) (above4g : Bool) (l : Laid) (kept : List SegmentValue) → l.fault ≡ None → test_segments g l.list ≡ Ok kept → ending g above4g None l ≡ Ok (record { segments = kept; start = l.start; regions = 0; digest = 0 })
unfolding place_some finish plain_plan
plain_ending g above4g l kept none e =
    ap (λ (o : Option PlanFault). unless o >>= λ _. plain_plan g l.list l.start) none
    ∙ ap (λ (r : Result (List SegmentValue) PlanFault). r >>= λ segments. Ok (plain_as segments l.start)) e

-- with a purgatory at its place
pub armed_ending : (g : Ground) (above4g : Bool) (v : PurgatoryValue) (l : Laid) (at size : ℕ) (k : Linkage) (kept : List SegmentValue) → place (ram g) l.taken (purgatory_rule (most g above4g) v) ≡ Ok (record { at = at; size = size }) → l.fault ≡ None → linked_at v (record { at = at; size = size }) ≡ Ok k → test_segments g (l.list ++ segment_at (record { at = at; size = size }) k.bytes ∷ []) ≡ Ok kept
    → ending g above4g (Some v) l ≡ Ok (record { segments = l.list ++ armed_segment k l.start l.list (record { at = at; size = size }) ∷ []; start = start_at k.symbols.start; regions = k.symbols.regions; digest = k.symbols.digest })
unfolding place_some finish armed_plan
armed_ending g above4g v l at size k kept e none f t =
    ap (λ r. (r >>= λ s. Ok (Some s)) >>= λ site. unless l.fault >>= λ _. finish g l.list l.start (Some v) site) e
    ∙ ap (λ (o : Option PlanFault). unless o >>= λ _. finish g l.list l.start (Some v) (Some (record { at = at; size = size }))) none
    ∙ ap (λ (r : Result Linkage PlanFault). r >>= λ k. armed_plan g l.list l.start k (record { at = at; size = size })) f
    ∙ ap (λ (r : Result (List SegmentValue) PlanFault). r >>= λ _. Ok (armed_as l.list l.start k (record { at = at; size = size }))) t

-- ---- the refusals behind the parts: no place for the purgatory, no bytes for a part, no link, a rule of segments
pub purgatory_nowhere : (g : Ground) (above4g : Bool) (v : PurgatoryValue) (l : Laid) (fault : PlanFault) → place (ram g) l.taken (purgatory_rule (most g above4g) v) ≡ Err fault → ending g above4g (Some v) l ≡ Err fault
unfolding place_some
purgatory_nowhere g above4g v l fault e = ap (λ r. (r >>= λ s. Ok (Some s)) >>= λ site. unless l.fault >>= λ _. finish g l.list l.start (Some v) site) e

pub bytes_refused : (g : Ground) (above4g : Bool) (l : Laid) (fault : PlanFault) → l.fault ≡ Some fault → ending g above4g None l ≡ Err fault
unfolding place_some
bytes_refused g above4g l fault e = ap (λ (o : Option PlanFault). unless o >>= λ _. finish g l.list l.start None None) e

pub bytes_refused_first : (g : Ground) (above4g : Bool) (v : PurgatoryValue) (l : Laid) (at size : ℕ) (fault : PlanFault) → place (ram g) l.taken (purgatory_rule (most g above4g) v) ≡ Ok (record { at = at; size = size }) → l.fault ≡ Some fault → ending g above4g (Some v) l ≡ Err fault
unfolding place_some
bytes_refused_first g above4g v l at size fault e f =
    ap (λ r. (r >>= λ s. Ok (Some s)) >>= λ site. unless l.fault >>= λ _. finish g l.list l.start (Some v) site) e
    ∙ ap (λ (o : Option PlanFault). unless o >>= λ _. finish g l.list l.start (Some v) (Some (record { at = at; size = size }))) f

pub link_refused : (g : Ground) (above4g : Bool) (v : PurgatoryValue) (l : Laid) (at size : ℕ) (fault : PlanFault) → place (ram g) l.taken (purgatory_rule (most g above4g) v) ≡ Ok (record { at = at; size = size }) → l.fault ≡ None → linked_at v (record { at = at; size = size }) ≡ Err fault → ending g above4g (Some v) l ≡ Err fault
unfolding place_some finish
link_refused g above4g v l at size fault e none f =
    ap (λ r. (r >>= λ s. Ok (Some s)) >>= λ site. unless l.fault >>= λ _. finish g l.list l.start (Some v) site) e
    ∙ ap (λ (o : Option PlanFault). unless o >>= λ _. finish g l.list l.start (Some v) (Some (record { at = at; size = size }))) none
    ∙ ap (λ (r : Result Linkage PlanFault). r >>= λ k. armed_plan g l.list l.start k (record { at = at; size = size })) f

pub segments_refused : (g : Ground) (above4g : Bool) (l : Laid) (fault : PlanFault) → l.fault ≡ None → test_segments g l.list ≡ Err fault → ending g above4g None l ≡ Err fault
unfolding place_some finish plain_plan
segments_refused g above4g l fault none e =
    ap (λ (o : Option PlanFault). unless o >>= λ _. plain_plan g l.list l.start) none
    ∙ ap (λ (r : Result (List SegmentValue) PlanFault). r >>= λ segments. Ok (plain_as segments l.start)) e
