-- Every plan comes to one end: what holds of each plan that is finished holds of each plan.
use Rattle.std.proofs.Common.{◌≡◌, List, Option, Result, Ok, Err}
use Rattle.std.specs.Prelude.{option_map}
use Rattle.kx_laws.specs.Results.{◌>>=◌, unless}
use Rattle.kx_laws.proofs.Results.{bind_ok}
use Rattle.kx_pages.specs.declared.image.Start.{Start}
use Rattle.segments.specs.Values.{SegmentValue}
use Rattle.memory_map.specs.Maps.{MapValue}
use Rattle.plan_faults.specs.declared.fault.PlanFault.{PlanFault}
use Rattle.kexec_plan.specs.declared.places.Site.{Site}
use Rattle.plan_faults.specs.declared.fault.PlanFault.TheVariants as faults
use Rattle.kexec_plan.specs.declared.format.Format.{Format}
use Rattle.kexec_plan.specs.Requests.{Asked, Plan}
use Rattle.kexec_plan.specs.Formats.{ground_for, unused_part, format_of}
use Rattle.kexec_plan.specs.Ground.{Ground, ram, most}
use Rattle.kexec_plan.specs.Kernels.{read_kernel}
use Rattle.kexec_plan.specs.Laying.{place_parts}
use Rattle.kexec_plan.specs.Places.{place_some}
use Rattle.kexec_plan.specs.Purgatory.{PurgatoryValue, some_purgatory, purgatory_rule}
use Rattle.kexec_plan.specs.Plan.{begin, plan_as, plan}
use Rattle.kexec_plan.specs.Finish.{finish}

-- what holds of each plan that is finished on this g
module _ (g : Ground) (P : Plan → Type 0)
    (end : (ss : List SegmentValue) (start : Start) (o : Option PurgatoryValue) (s : Option Site) (p : Plan) → finish g ss start o s ≡ Ok p → P p) where
  abbrev Ends : Result Plan PlanFault → Type 0
  Ends r = (p : Plan) → r ≡ Ok p → P p

  -- a step before it
  next_ends : {A : Type 0} (r : Result A PlanFault) (f : A → Result Plan PlanFault) → ((x : A) → Ends (f x)) → Ends (r >>= f)
  next_ends (Ok x) f h = h x
  next_ends (Err e) f h = λ p i. cc

  pub as_ends : (r : Asked) (format : Format) → Ends (plan_as r g format)
  unfolding plan_as
  as_ends r format =
      next_ends (read_kernel g format r.kernel r.initrd r.modules r.notes) _
      (λ k. next_ends (some_purgatory r.purgatory) _
      (λ o. next_ends (place_parts (ram g) (begin k.list k.entry r.command) k.parts) _
      (λ l. next_ends (place_some (ram g) l.taken (option_map (purgatory_rule (most g k.above4g)) o)) _
      (λ s. next_ends (unless l.fault) _
      (λ u. end l.list l.start o s)))))

-- every plan is one that was finished
pub plan_ends : (P : Plan → Type 0)
    → ((g : Ground) (ss : List SegmentValue) (start : Start) (o : Option PurgatoryValue) (s : Option Site) (p : Plan) → finish g ss start o s ≡ Ok p → P p)
    → (r : Asked) (m : Option MapValue) (p : Plan) → plan r m ≡ Ok p → P p
unfolding plan
plan_ends P end r m p e =
    let f = bind_ok (format_of r) _ p e in
    let g = bind_ok (ground_for r m f.0) _ p f.2 in
    let u = bind_ok (unless (option_map faults.Unused (unused_part r f.0))) _ p g.2 in
    as_ends g.0 P (end g.0) r f.0 p u.2
