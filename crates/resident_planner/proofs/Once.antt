-- One list is made of what is asked, or it has one fault.
use Rattle.std.proofs.Common.{◌≡◌, ℕ, ◌≤◌, List, [], ◌++◌, length, Option, Some, None, refl, sym, ap, ◌∙◌, subst, take, drop, arith}
use Rattle.std.proofs.lemmas.List.{length-append}
use Rattle.kx_laws.proofs.Lists.{take_front, drop_front}
use Rattle.kimage_list.proofs.Lists.{heads_same}
use Rattle.kx_laws.proofs.Options.{some_same, none_some}
use Rattle.kx_pages.specs.Bytes.{Mem}
use Rattle.kx_pages.specs.declared.image.Mode.TheVariants.{Plain}
use Rattle.page_memory.specs.Contents.{at}
use Rattle.segments.specs.Values.{SegmentValue, want}
use Rattle.list_checker.specs.Walk.{pairs}
use Rattle.resident_planner.specs.declared.fault.ResidentFault.{ResidentFault}
use Rattle.resident_planner.specs.declared.fault.ResidentFault.TheVariants as faults
use Rattle.resident_planner.specs.declared.plan.Made.{Made}
use Rattle.resident_planner.specs.Cycles.{cycles, deviating}
use Rattle.resident_planner.specs.Plan.{Planned}
use Rattle.resident_planner.specs.Laid.{plan_head, plan_memory}
use Rattle.resident_planner.specs.Refusals.{AreTooFew, IsFault, resident_of, link_count, need_of, pairs_refusal}
use Rattle.resident_planner.specs.Made.{DeviatesAtLeast, IsMade}
use Rattle.resident_planner.proofs.Needs.{one_plan}
use Rattle.resident_planner.proofs.OneList.{accepted_copies, one_wanted_list}

-- equal lists with equally long fronts have equal fronts, and equal ends
fronts : (xs ys zs ws : List ℕ) → length xs ≡ length zs → xs ++ ys ≡ zs ++ ws → (xs ≡ zs) × (ys ≡ ws)
fronts xs ys zs ws l e = (
  sym (take_front xs ys (length zs) l) ∙ ap (take (length zs)) e ∙ take_front zs ws (length zs) refl,
  sym (drop_front xs ys (length zs) l) ∙ ap (drop (length zs)) e ∙ drop_front zs ws (length zs) refl,
)

module _ (M : Mem) (S : List SegmentValue) (pool : List ℕ) (rs : List (ℕ × ℕ)) where
  pub least_of : (m : Made) → IsMade M S pool rs m → DeviatesAtLeast S rs m.copied
  least_of m h N head control swap is a =
      subst (λ n. n ≤ deviating (resident_of rs) (pairs is)) (sym h.copied_is) (accepted_copies S h.wanted_pages rs h.are N head control swap is a)

  -- what is made reads alike, and has one image
  pub record IsSameMade (m n : Made) : Type 0 where
    pub memory : (p : ℕ) → at n.memory p ≡ at m.memory p
    pub image : n.image ≡ m.image
    pub copied : n.copied ≡ m.copied

  -- it takes the same pages, and has the same pairs
  record IsSamePlan (m n : Made) (h : IsMade M S pool rs m) (k : IsMade M S pool rs n) : Type 0 where
    wanted : k.wanted_pages ≡ h.wanted_pages
    control : n.image.control ≡ m.image.control
    links : k.links ≡ h.links
    fresh : k.fresh ≡ h.fresh

  same_plan : (m n : Made) (h : IsMade M S pool rs m) (k : IsMade M S pool rs n) → IsSamePlan m n h k
  same_plan m n h k =
      let D : k.wanted_pages ≡ h.wanted_pages = one_wanted_list S k.wanted_pages h.wanted_pages k.are h.are in
      let split = heads_same (k.links ++ (k.fresh ++ k.rest)) (h.links ++ (h.fresh ++ h.rest)) n.image.control m.image.control (sym k.first ∙ h.first) in
      let links = fronts k.links (k.fresh ++ k.rest) h.links (h.fresh ++ h.rest) (k.links_are ∙ ap (λ E. link_count (length E)) D ∙ sym h.links_are) split.1 in
      let size : length k.fresh ≡ length h.fresh = (let a = k.fresh_are in let b = h.fresh_are in let c = ap length D in let d = ap (cycles (resident_of rs)) D in omega (arith, a, b, c, d)) in
      record { wanted = D; control = split.0; links = links.0; fresh = (fronts k.fresh k.rest h.fresh h.rest size links.1).0 }

  same_pairs : (m n : Made) (h : IsMade M S pool rs m) (k : IsMade M S pool rs n) → IsSamePlan m n h k → k.planned_pairs ≡ h.planned_pairs
  same_pairs m n h k s =
      let r = resident_of rs in
      one_plan r h.wanted_pages h.fresh k.planned_pairs h.planned_pairs (subst (λ E. Planned r E h.fresh k.planned_pairs) s.wanted (subst (λ f. Planned r k.wanted_pages f k.planned_pairs) s.fresh k.planned)) h.planned

  same_memory : (m n : Made) (h : IsMade M S pool rs m) (k : IsMade M S pool rs n) → IsSamePlan m n h k → k.planned_pairs ≡ h.planned_pairs → (p : ℕ) → at n.memory p ≡ at m.memory p
  same_memory m n h k s qs p =
      let r = resident_of rs in
      k.memory_is p
      ∙ ap (λ E. plan_memory M (want S) r E k.links k.fresh k.planned_pairs p) s.wanted
      ∙ ap (λ ls. plan_memory M (want S) r h.wanted_pages ls k.fresh k.planned_pairs p) s.links
      ∙ ap (λ f. plan_memory M (want S) r h.wanted_pages h.links f k.planned_pairs p) s.fresh
      ∙ ap (λ qs. plan_memory M (want S) r h.wanted_pages h.links h.fresh qs p) qs
      ∙ sym (h.memory_is p)

  same_image : (m n : Made) (h : IsMade M S pool rs m) (k : IsMade M S pool rs n) → IsSamePlan m n h k → n.image ≡ m.image
  same_image m n h k s =
      k.image_is
      ∙ ap (λ ls. record { head = plan_head ls; mode = Plain; control = n.image.control }) s.links
      ∙ ap (λ c. record { head = plan_head h.links; mode = Plain; control = c }) s.control
      ∙ sym h.image_is

  pub one_made : (m n : Made) → IsMade M S pool rs m → IsMade M S pool rs n → IsSameMade m n
  one_made m n h k =
      let s = same_plan m n h k in
      record {
        memory = same_memory m n h k s (same_pairs m n h k s);
        image = same_image m n h k s;
        copied = k.copied_is ∙ ap (cycles (resident_of rs)) s.wanted ∙ sym h.copied_is;
      }

  -- no list is made where there is a fault
  pub made_has_none : (m : Made) (e : ResidentFault) → IsMade M S pool rs m → IsFault M S pool rs e → ⊥
  made_has_none m faults.Memory h f = f
  made_has_none m (faults.NoPages left need) h f =
      let t = f.1 in
      let D : t.wanted_pages ≡ h.wanted_pages = one_wanted_list S t.wanted_pages h.wanted_pages t.are h.are in
      let a = t.left_is ∙ ap length h.first in
      let b = t.need_is ∙ ap (λ E. need_of (length E) (length rs) (cycles (resident_of rs) E)) D in
      let c = length-append h.links (h.fresh ++ h.rest) in
      let d = length-append h.fresh h.rest in
      let l = h.links_are in
      let k = h.fresh_are in
      let less = t.fewer in
      omega (arith, a, b, c, d, l, k, less)
  made_has_none m (faults.NotWanted p) h f = none_some (pairs_refusal M (want S) [] rs) (faults.NotWanted p) h.fine f
  made_has_none m (faults.Repeats p) h f = none_some (pairs_refusal M (want S) [] rs) (faults.Repeats p) h.fine f
  made_has_none m (faults.Stale p) h f = none_some (pairs_refusal M (want S) [] rs) (faults.Stale p) h.fine f

  -- what a fault of the pairs is, or none
  abbrev told : ResidentFault → Option ResidentFault
  told faults.Memory = None
  told (faults.NoPages left need) = None
  told (faults.NotWanted p) = Some (faults.NotWanted p)
  told (faults.Repeats p) = Some (faults.Repeats p)
  told (faults.Stale p) = Some (faults.Stale p)

  refusal_told : (e : ResidentFault) → IsFault M S pool rs e → pairs_refusal M (want S) [] rs ≡ told e
  refusal_told faults.Memory f = absurd f
  refusal_told (faults.NoPages left need) f = f.0
  refusal_told (faults.NotWanted p) f = f
  refusal_told (faults.Repeats p) f = f
  refusal_told (faults.Stale p) f = f

  one_shortage : (a b c d : ℕ) → AreTooFew S pool rs a b → AreTooFew S pool rs c d → faults.NoPages c d ≡ faults.NoPages a b
  one_shortage a b c d t u =
      let D : u.wanted_pages ≡ t.wanted_pages = one_wanted_list S u.wanted_pages t.wanted_pages u.are t.are in
      ap (λ n. faults.NoPages n d) (u.left_is ∙ sym t.left_is)
      ∙ ap (faults.NoPages a) (u.need_is ∙ ap (λ E. need_of (length E) (length rs) (cycles (resident_of rs) E)) D ∙ sym t.need_is)

  same_told : (e f : ResidentFault) → ◌≡◌ {A = Option ResidentFault} (Some e) (told f) → f ≡ e
  same_told e faults.Memory h = absurd (none_some None e refl (sym h))
  same_told e (faults.NoPages left need) h = absurd (none_some None e refl (sym h))
  same_told e (faults.NotWanted p) h = sym (some_same e (faults.NotWanted p) h)
  same_told e (faults.Repeats p) h = sym (some_same e (faults.Repeats p) h)
  same_told e (faults.Stale p) h = sym (some_same e (faults.Stale p) h)

  -- and there is one fault
  pub one_fault : (e f : ResidentFault) → IsFault M S pool rs e → IsFault M S pool rs f → f ≡ e
  one_fault faults.Memory f h k = absurd h
  one_fault (faults.NoPages a b) faults.Memory h k = absurd k
  one_fault (faults.NoPages a b) (faults.NoPages c d) h k = one_shortage a b c d h.1 k.1
  one_fault (faults.NoPages a b) (faults.NotWanted p) h k = absurd (none_some (pairs_refusal M (want S) [] rs) (faults.NotWanted p) h.0 k)
  one_fault (faults.NoPages a b) (faults.Repeats p) h k = absurd (none_some (pairs_refusal M (want S) [] rs) (faults.Repeats p) h.0 k)
  one_fault (faults.NoPages a b) (faults.Stale p) h k = absurd (none_some (pairs_refusal M (want S) [] rs) (faults.Stale p) h.0 k)
  one_fault (faults.NotWanted p) f h k = same_told (faults.NotWanted p) f (sym h ∙ refusal_told f k)
  one_fault (faults.Repeats p) f h k = same_told (faults.Repeats p) f (sym h ∙ refusal_told f k)
  one_fault (faults.Stale p) f h k = same_told (faults.Stale p) f (sym h ∙ refusal_told f k)
