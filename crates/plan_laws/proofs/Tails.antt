-- The end of a plan, behind the parts that were placed: no segment more, or the purgatory, at the greatest address.
use Rattle.std.proofs.Common.{◌≡◌, ◌∙◌, append-nil, ℕ, ◌++◌, List, [], ◌∷◌, Bool, true, false, Option, Some, None, Ok, refl, sym, ap, subst}
use Rattle.std.specs.Prelude.{option_map}
use Rattle.memory_map.specs.Maps.{MapValue}
use Rattle.segments.specs.Values.{SegmentValue}
use Rattle.kexec_plan.specs.Finish.{armed_segment, finish}
use Rattle.kexec_plan.specs.Ground.{Ground, Machine, most, ram}
use Rattle.kexec_plan.specs.Laying.{Laid}
use Rattle.kexec_plan.specs.Places.{place_some}
use Rattle.kexec_plan.specs.Purgatory.{purgatory_rule}
use Rattle.kexec_plan.specs.Requests.{Asked, Plan}
use Rattle.plan_laws.specs.Extremes.{LieHighest, Limits, MayTake, purgatory_limits, up_to}
use Rattle.plan_laws.proofs.Placing.{Marks, lies}
use Rattle.plan_laws.proofs.HandedOn.{ends_armed, purgatory_of, site_of}
use Rattle.plan_laws.proofs.Planning.{Ends, ends_plain, no_purgatory}

-- ---- the pages that may be taken for a normal kernel
pub in_map : (m : MapValue) (q : ℕ) → ram (Machine m) q ≡ true → MayTake false m q
unfolding ram
in_map m q e = e

pub of_map : (m : MapValue) (q : ℕ) → MayTake false m q → ram (Machine m) q ≡ true
unfolding ram
of_map m q e = e

module _ (crash : Bool) (m : MapValue) (g : Ground) (to : (q : ℕ) → ram g q ≡ true → MayTake crash m q) (from : (q : ℕ) → MayTake crash m q → ram g q ≡ true)
    (r : Asked) (p : Plan) (out : Laid) where
  pub record Tail (ls : List Limits) : Type 0 where
    pub tail : List SegmentValue
    pub segments : p.segments ≡ out.list ++ tail
    pub lie : Marks out.taken out.list → LieHighest crash m out.list ls tail

  pub tail_by : (above4g : Bool) → Ends g r p out above4g → (kernel : List ℕ) → ((file : List ℕ) → up_to (most g above4g) ∷ [] ≡ purgatory_limits crash kernel (Some file)) → Tail (purgatory_limits crash kernel r.purgatory)
  tail_by above4g ends kernel behind = by r.purgatory refl
    where
      by : (o : Option (List ℕ)) → r.purgatory ≡ o → Tail (purgatory_limits crash kernel o)
      by None none =
          let plain = ends_plain g out.list out.start ends.purgatory ends.site p (no_purgatory r.purgatory ends.purgatory none ends.purgatory_read) ends.finished in
          record {
            tail = [];
            segments = ap (λ (p : Plan). p.segments) (sym plain) ∙ sym (append-nil out.list);
            lie = λ k. tt;
          }
      by (Some file) some =
          let v = purgatory_of file r.purgatory ends.purgatory some ends.purgatory_read in
          let n = most g above4g in
          let site = site_of (ram g) out.taken n v.0 ends.site (subst (λ o. place_some (ram g) out.taken (option_map (purgatory_rule n) o) ≡ Ok ends.site) (sym v.1) ends.placed) in
          let x = ends_armed g out.list out.start v.0 site.0 p (subst (λ o. finish g out.list out.start (Some v.0) o ≡ Ok p) (sym site.1) (subst (λ o. finish g out.list out.start o ends.site ≡ Ok p) (sym v.1) ends.finished)) in
          let armed = armed_segment x.linkage out.start out.list site.0 in
          record {
            tail = armed ∷ [];
            segments = ap (λ (p : Plan). p.segments) (sym x.is);
            lie = λ k. subst (λ ls. LieHighest crash m out.list ls (armed ∷ [])) (behind file) (lies crash m g to from out.taken out.list (purgatory_rule n v.0) site.0 armed.bytes k site.2, tt);
          }
