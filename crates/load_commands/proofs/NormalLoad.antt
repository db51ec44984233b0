-- The loads of kernels: what is promised of them, and why they are refused.
use Rattle.std.specs.Prelude.{unwrap_or}
use Rattle.std.proofs.Common.{◌≡◌, ◌∙◌, ℕ, ◌<◌, ◌≤◌, List, length, Result, Ok, Err, refl, sym, ap, subst, arith, inl, inr}
use Rattle.kx_laws.proofs.Results.{ok_same}
use Rattle.kx_pages.specs.Bytes.{Mem}
use Rattle.kx_pages.specs.declared.image.Image.{Image}
use Rattle.kx_pages.specs.declared.image.Mode.TheVariants as modes
use Rattle.kx_pages.specs.declared.image.Wish.{Wish}
use Rattle.kx_pages.specs.declared.image.Wish.TheVariants.{Plain, Kept}
use Rattle.kx_pages.specs.Modes.{swap_page}
use Rattle.page_memory.specs.Contents.{at}
use Rattle.kimage_list.specs.Laying.{image_of, mode_with}
use Rattle.kimage_list.specs.Load.{Loading}
use Rattle.load_states.specs.States.{Checked, Load, swap_of}
use Rattle.load_states.specs.Ready.{Told}
use Rattle.kexec_plan.specs.Requests.{Plan}
use Rattle.command_parts.specs.declared.reason.Reason.{Reason}
use Rattle.command_parts.specs.declared.reason.Reason.TheVariants as reasons
use Rattle.command_parts.specs.Outputs.{HasNoFile, IsFileOf, IsTooHeavy}
use Rattle.segments.specs.Values.{need, SegmentValue}
use Rattle.load_states.specs.inner.Runs.{IsSameLoad}
use Rattle.load_states.proofs.Ready.{list_ends}
use Rattle.kexec_plan.specs.Plan.{plan}
use Rattle.plan_faults.specs.declared.fault.PlanFault.{PlanFault}
use Rattle.load_commands.specs.Inputs.{LoadInputs}
use Rattle.load_commands.specs.Loading.{IsLoaded, RefusesLoad}
use Rattle.load_commands.specs.NormalLoad.{CanLoad, CannotLoad, NormalLoad}
use Rattle.load_commands.proofs.Drawn.{control_drawn, links_drawn, sources_drawn, swap_drawn}
use Rattle.load_commands.proofs.Ending.{loaded_bare}
use Rattle.kx_laws.proofs.Options.{some_same}
use Rattle.load_states.specs.Fillings.{IsSealed}
use Rattle.load_states.specs.Loads.{memory_of}
use Rattle.command_parts.proofs.Outputs.{file_none, has_file, heavy, one_weight}

-- a load of segments over a pool is one
pub sealed_alike : (M : Mem) (pool : List ℕ) (wish : Wish) (ss : List SegmentValue) (r s : Load) → IsSealed M pool wish ss r → IsSealed M pool wish ss s → IsSameLoad r s
sealed_alike M pool wish ss r s a b =
    let loading : b.loading ≡ a.loading = some_same b.loading a.loading (sym b.requests ∙ a.requests) in
    record {
      reads = λ p. b.memory p ∙ ap (λ l. memory_of M wish ss l p) loading ∙ sym (a.memory p);
      image = b.image ∙ ap (image_of wish) loading ∙ sym a.image;
      segments = b.segments ∙ sym a.segments;
    }

-- the mode of a load is the one that was asked for
mode_as_asked : (wish : Wish) (load : Load) (l : Loading) → load.image ≡ image_of wish l → load.image.mode ≡ mode_with wish (swap_of load)
mode_as_asked Plain load l e = ap (λ (i : Image). i.mode) e
mode_as_asked Kept load l e = ap (λ (i : Image). i.mode) e ∙ ap (λ (i : Image). modes.Kept (unwrap_or (swap_page i.mode) 0)) (sym e)

pub normal : (wish : Wish) (i : LoadInputs) (p : Plan) (c : Checked) → IsLoaded wish i p c.load → Told c.load c.words c.links c.pairs → NormalLoad wish i p c
normal wish i p c l told = record {
  planned = l.planned;
  enough = l.enough;
  segments = l.laid.segments;
  mode = mode_as_asked wish c.load l.laid.loading l.laid.image;
  only_pool_pages = l.laid.others;
  accepted = told;
  ends = list_ends c.load c.words c.links c.pairs (loaded_bare wish i p c.load l) told;
  control_is_drawn = control_drawn wish i p c l;
  swap_is_drawn = swap_drawn wish i p c l;
  list_is_drawn = links_drawn wish i p c l told;
  sources_are_drawn = sources_drawn wish i p c l told;
}

-- a request has one plan
pub no_fault : (p : Plan) (f : PlanFault) → ◌≡◌ {A = Result Plan PlanFault} (Ok p) (Err f) → ⊥
no_fault p f e = cc

pub one_plan : (i : LoadInputs) (p q : Plan) → plan i.request i.map ≡ Ok p → plan i.request i.map ≡ Ok q → p ≡ q
one_plan i p q a b = ok_same {F = PlanFault} p q (sym a ∙ b)

too_few : (pool need left n : ℕ) → need ≤ pool → left ≡ pool → n ≡ need → left < n → ⊥
too_few pool need left n enough a b less = omega arith

-- nothing refuses a load that can be made
loads_not : (wish : Wish) (i : LoadInputs) (leaves : Checked → Mem) (why : Reason) → CanLoad wish i leaves → RefusesLoad wish i why → ⊥
loads_not wish i leaves (reasons.NoPages left n) can (q, planned, few) =
    too_few (length i.usable) (need wish can.p.segments) left n can.enough few.0 (few.1 ∙ ap (λ (p : Plan). need wish p.segments) (one_plan i q can.p planned can.planned)) few.2
loads_not wish i leaves (reasons.Plan f) can h = no_fault can.p f (sym can.planned ∙ h)
loads_not wish i leaves other can h = h

loaded_as : (wish : Wish) (i : LoadInputs) (leaves : Checked → Mem) (p : Plan) (c : Checked) → (can : CanLoad wish i leaves) → IsLoaded wish i p c.load → IsLoaded wish i can.p c.load
loaded_as wish i leaves p c can l = subst (λ p. IsLoaded wish i p c.load) (one_plan i p can.p l.planned can.planned) l

pub can_not_both : (wish : Wish) (i : LoadInputs) (leaves : Checked → Mem) (why : Reason) → CanLoad wish i leaves → CannotLoad wish i leaves why → ⊥
can_not_both wish i leaves why can (inl r) = loads_not wish i leaves why can r
can_not_both wish i leaves why can (inr (p, c, l, f)) = heavy (leaves c) why (λ n h. can.light c n (loaded_as wish i leaves p c can l.0) l.1 h) f

-- a load that lacks pages is refused for nothing else
few_reason : (wish : Wish) (i : LoadInputs) (p : Plan) (pool n : ℕ) → plan i.request i.map ≡ Ok p → pool ≡ length i.usable → n ≡ need wish p.segments → (why : Reason) → RefusesLoad wish i why → why ≡ reasons.NoPages pool n
few_reason wish i p pool n planned same all (reasons.NoPages left m) (q, other, few) =
    rw (few.0 ∙ sym same, few.1 ∙ ap (λ (p : Plan). need wish p.segments) (one_plan i q p other planned) ∙ sym all) refl
few_reason wish i p pool n planned same all (reasons.Plan f) h = absurd (no_fault p f (sym planned ∙ h))
few_reason wish i p pool n planned same all other h = absurd h

pub same_fault : (f g : PlanFault) → ◌≡◌ {A = Result Plan PlanFault} (Err g) (Err f) → g ≡ f
same_fault f g e = cc

-- a load is refused for one reason
one_refusal : (wish : Wish) (i : LoadInputs) (why w : Reason) → RefusesLoad wish i why → RefusesLoad wish i w → w ≡ why
one_refusal wish i (reasons.NoPages left n) w (p, planned, few) r = few_reason wish i p left n planned few.0 few.1 w r
one_refusal wish i (reasons.Plan f) (reasons.Plan g) h r = ap reasons.Plan (same_fault f g (sym r ∙ h))
one_refusal wish i (reasons.Plan f) (reasons.NoPages left n) h (q, planned, few) = absurd (no_fault q f (sym planned ∙ h))
one_refusal wish i (reasons.Plan f) other h r = absurd r
one_refusal wish i other w h r = absurd h

-- and what is refused is not loaded
not_loaded : (wish : Wish) (i : LoadInputs) (why : Reason) (q : Plan) (load : Load) → RefusesLoad wish i why → IsLoaded wish i q load → ⊥
not_loaded wish i (reasons.NoPages left n) q load (p, planned, few) l =
    too_few (length i.usable) (need wish q.segments) left n l.enough few.0 (few.1 ∙ ap (λ (p : Plan). need wish p.segments) (one_plan i p q planned l.planned)) few.2
not_loaded wish i (reasons.Plan f) q load h l = no_fault q f (sym l.planned ∙ h)
not_loaded wish i other q load h l = h

pub can_load : (wish : Wish) (i : LoadInputs) (p : Plan) (c : Checked) (leaves : Checked → Mem) (bytes : List ℕ) → IsLoaded wish i p c.load → IsFileOf (leaves c) bytes
    → ((d : Checked) → IsSameLoad c.load d.load → Told d.load d.words d.links d.pairs → leaves d ≡ leaves c) → CanLoad wish i leaves
can_load wish i p c leaves bytes l f same = record {
  p = p;
  planned = l.planned;
  enough = l.enough;
  light = λ d n k t h.
      let one = same d (sealed_alike (at i.memory) i.usable wish p.segments c.load d.load l.laid k.laid) t in
      has_file (leaves c) bytes n f (subst (λ N. IsTooHeavy N n) one h);
}

-- Of a load that is refused, or whose memory has no file, nothing else comes. The loads of one request leave the same.
module _ (wish : Wish) (i : LoadInputs) (leaves : Checked → Mem)
    (same : (c d : Checked) → IsSameLoad c.load d.load → Told c.load c.words c.links c.pairs → Told d.load d.words d.links d.pairs → leaves d ≡ leaves c) where
  same_memory : (p q : Plan) (c d : Checked) → IsLoaded wish i p c.load → Told c.load c.words c.links c.pairs → IsLoaded wish i q d.load → Told d.load d.words d.links d.pairs → leaves d ≡ leaves c
  same_memory p q c d l t k u =
      let m = subst (λ p. IsLoaded wish i p d.load) (one_plan i q p k.planned l.planned) k in
      same c d (sealed_alike (at i.memory) i.usable wish p.segments c.load d.load l.laid m.laid) t u

  pub only_refusal : (why w : Reason) → CannotLoad wish i leaves why → CannotLoad wish i leaves w → w ≡ why
  only_refusal why w (inl r) (inl s) = one_refusal wish i why w r s
  only_refusal why w (inl r) (inr (q, d, k, g)) = absurd (not_loaded wish i why q d.load r k.0)
  only_refusal why w (inr (p, c, l, f)) (inl s) = absurd (not_loaded wish i w p c.load s l.0)
  only_refusal why w (inr (p, c, l, f)) (inr (q, d, k, g)) = one_weight (leaves c) why w f (subst (λ N. HasNoFile N w) (same_memory p q c d l.0 l.1 k.0 k.1) g)

  pub not_made : (why : Reason) (q : Plan) (d : Checked) (bytes : List ℕ) → CannotLoad wish i leaves why → IsLoaded wish i q d.load → Told d.load d.words d.links d.pairs → IsFileOf (leaves d) bytes → ⊥
  not_made why q d bytes (inl r) k u file = not_loaded wish i why q d.load r k
  not_made why q d bytes (inr (p, c, l, f)) k u file = file_none (leaves c) bytes why (subst (λ N. IsFileOf N bytes) (same_memory p q c d l.0 l.1 k u) file) f
