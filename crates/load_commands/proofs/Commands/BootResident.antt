-- What is proved of `boot-resident`.
use Rattle.std.proofs.Common.{◌≡◌, ◌∙◌, ℕ, List, [], ◌∷◌, length, None, Ok, Err, refl, sym, ap, subst, inl, inr}
use Rattle.kx_edge.specs.Edge.{Files}
use Rattle.kx_edge.specs.declared.edge.Shelf.{Ghosts as Shelf}
use Rattle.kx_edge.specs.declared.edge.Sink.{Ghosts as Sink}
use Rattle.kx_pages.specs.Modes.{swap_page}
use Rattle.kx_pages.specs.declared.image.Mode.TheVariants.{Plain}
use Rattle.page_memory.specs.Contents.{at}
use Rattle.segments.specs.inner.Rules.{IsBare}
use Rattle.segments.specs.Values.{want}
use Rattle.list_checker.specs.Walk.{IsAccepted, links, pairs}
use Rattle.load_states.specs.Ready.{Told}
use Rattle.load_states.specs.inner.Runs.{IsSameLoad}
use Rattle.load_states.specs.States.{Checked, Load}
use Rattle.load_states.proofs.Alike.{tells_alike}
use Rattle.load_states.proofs.Ready.{list_ends}
use Rattle.resident_planner.specs.Cycles.{deviating}
use Rattle.resident_planner.specs.Laid.{plan_items}
use Rattle.resident_planner.specs.Made.{IsMade}
use Rattle.resident_planner.specs.Refusals.{IsFault, resident_of}
use Rattle.resident_planner.specs.declared.plan.Made.{Made as ResidentList}
use Rattle.resident_planner.proofs.Once.{IsSameMade, least_of, made_has_none, one_fault, one_made}
use Rattle.file_commands.specs.Taking.{Refusal, by, too_long}
use Rattle.file_commands.specs.Answers.{MeetsTold, done}
use Rattle.file_commands.specs.inner.Order.{Stands}
use Rattle.file_commands.proofs.Meeting.{RefusesFor}
use Rattle.kexec_words.specs.Values.{BootResidentValue}
use Rattle.kexec_plan.specs.Requests.{Plan}
use Rattle.kexec_plan.proofs.Bare.{planned_bare}
use Rattle.command_parts.specs.declared.reason.Reason.{Reason}
use Rattle.command_parts.specs.declared.reason.Reason.TheVariants as reasons
use Rattle.load_commands.specs.BootResident.{BootsResident, CanBootResident, HasBootedResident, IsResident, RefusesResident, ResidentInputs, boot_resident_entry, boots_resident, load_with}
use Rattle.load_commands.specs.Inputs.{LoadInputs}
use Rattle.command_parts.specs.Outputs.{HasNoFile, IsFileOf, IsTooHeavy, Made}
use Rattle.command_parts.specs.Runs.{after_runs}
use Rattle.command_parts.proofs.Ending.{machine_leaves}
use Rattle.file_commands.proofs.Keeping.{Keeps, put_as, said_as}
use Rattle.command_parts.proofs.Leaving.{leaves_by}
use Rattle.command_parts.proofs.Outputs.{file_none, has_file, heavy, one_weight}
use Rattle.load_commands.proofs.NormalLoad.{no_fault, one_plan, same_fault}
use Rattle.command_parts.proofs.Alike.{same_left}

-- the segments of a planned kernel have one list by the pairs
module _ (i : LoadInputs) (rs : List (ℕ × ℕ)) where
  same_made : (p q : Plan) (m n : ResidentList) → IsResident i rs p m → IsResident i rs q n → (q ≡ p) × IsSameMade (at i.memory) p.segments i.usable rs m n
  same_made p q m n h k =
      let e = one_plan i q p k.planned h.planned in
      (e, one_made (at i.memory) p.segments i.usable rs m n h.made (subst (λ (q : Plan). IsMade (at i.memory) q.segments i.usable rs n) e k.made))

  same_load : (p q : Plan) (m n : ResidentList) (s t : Load) → IsResident i rs p m → IsResident i rs q n → s ≡ load_with p m → t ≡ load_with q n → IsSameLoad s t
  same_load p q m n s t h k s_is t_is =
      let same = same_made p q m n h k in
      record {
        reads = λ a. ap (λ (l : Load). at l.memory a) t_is ∙ same.1.memory a ∙ sym (ap (λ (l : Load). at l.memory a) s_is);
        image = ap (λ (l : Load). l.image) t_is ∙ same.1.image ∙ sym (ap (λ (l : Load). l.image) s_is);
        segments = ap (λ (l : Load). l.segments) t_is ∙ ap (λ (p : Plan). p.segments) same.0 ∙ sym (ap (λ (l : Load). l.segments) s_is);
      }

  -- what has a list is not refused one
  not_refused : (p : Plan) (m : ResidentList) (why : Reason) → IsResident i rs p m → RefusesResident i rs why → ⊥
  not_refused p m (reasons.Resident f) h (q, planned, g) =
      made_has_none (at i.memory) p.segments i.usable rs m f h.made (subst (λ (q : Plan). IsFault (at i.memory) q.segments i.usable rs f) (one_plan i q p planned h.planned) g)
  not_refused p m (reasons.Plan f) h g = no_fault p f (sym h.planned ∙ g)
  not_refused p m other h g = g

  one_refusal : (why w : Reason) → RefusesResident i rs why → RefusesResident i rs w → w ≡ why
  one_refusal (reasons.Resident f) (reasons.Resident g) (p, a, h) (q, b, k) =
      ap reasons.Resident (one_fault (at i.memory) p.segments i.usable rs f g h (subst (λ (q : Plan). IsFault (at i.memory) q.segments i.usable rs g) (one_plan i q p b a) k))
  one_refusal (reasons.Resident f) (reasons.Plan g) (p, a, h) k = absurd (no_fault p g (sym a ∙ k))
  one_refusal (reasons.Resident f) other h k = absurd k
  one_refusal (reasons.Plan f) (reasons.Plan g) h k = ap reasons.Plan (same_fault f g (sym k ∙ h))
  one_refusal (reasons.Plan f) (reasons.Resident g) h (q, b, k) = absurd (no_fault q f (sym b ∙ h))
  one_refusal (reasons.Plan f) other h k = absurd k
  one_refusal other w h k = absurd h

bare_of : (x : ResidentInputs) (p : Plan) (m : ResidentList) (c : Checked) → BootsResident x p m c → IsBare c.load.segments
bare_of x p m c (h, load, told) = subst IsBare (sym (ap (λ (l : Load). l.segments) load)) (planned_bare x.load.request x.load.map p h.planned)

mode_of : (x : ResidentInputs) (p : Plan) (m : ResidentList) (c : Checked) → BootsResident x p m c → c.load.image.mode ≡ Plain
mode_of x p m c (h, load, told) = ap (λ (l : Load). l.image.mode) load ∙ ap (λ i. i.mode) h.made.image_is

-- what is told of the list that was made
told_made : (x : ResidentInputs) (p : Plan) (m : ResidentList) → (h : IsResident x.load x.pairs p m)
    → Told (load_with p m) (length (plan_items h.made.links h.made.planned_pairs)) (length (links (plan_items h.made.links h.made.planned_pairs))) (pairs (plan_items h.made.links h.made.planned_pairs))
told_made x p m h =
    let items = plan_items h.made.links h.made.planned_pairs in
    record {
      items = items;
      accepted = subst (λ mode. IsAccepted (at m.memory) (want p.segments) m.image.head m.image.control (swap_page mode) items) (sym (ap (λ i. i.mode) h.made.image_is)) h.made.accepted;
      count = refl;
      link_pages = refl;
      same_pairs = refl;
    }

copies_of : (x : ResidentInputs) (p : Plan) (m : ResidentList) (c : Checked) → BootsResident x p m c → deviating (resident_of x.pairs) c.pairs ≡ m.copied
copies_of x p m c (h, load, told) =
    let items = plan_items h.made.links h.made.planned_pairs in
    let d : Checked = record { load = load_with p m; words = length items; links = length (links items); pairs = pairs items } in
    let alike = tells_alike c told d (same_load x.load x.pairs p p m m c.load d.load h h load refl) (told_made x p m h) in
    ap (deviating (resident_of x.pairs)) (sym alike.pairs ∙ h.made.pairs_are) ∙ h.made.deviate

module _ {S O : Type 0} (D : Shelf S) (E : Sink O) (held : Files) (s : S) (o : O) (s' : S) (o' : O) where
  booted : (b : BootResidentValue) → (m : MeetsTold D E (boot_resident_entry b).command held s o done s' o') → HasBootedResident D E s o s' o' b m.0
  booted b (x, goods, read, (p, m, c, l, text, whole, (bytes, outputs, file)), fault, out) =
      let bare = bare_of x p m c l in
      let mode = mode_of x p m c l in
      record {
        planned = p;
        list = m;
        resident = l.0;
        checked = c;
        of_list = l.1;
        accepted = l.2;
        copies = copies_of x p m c l;
        least = least_of (at x.load.memory) p.segments x.load.usable x.pairs m l.0.made;
        ends = list_ends c.load c.words c.links c.pairs bare l.2;
        runs = machine_leaves None c Plain mode tt bare l.2;
        leaves = leaves_by None c Plain mode tt l.2;
        output = bytes;
        is_memory = file;
        put = put_as D E s o s' o' goods.outputs ((b.out, bytes) ∷ []) outputs out.put;
        said = said_as D E s o s' o' goods.text _ text out.said;
      }

-- the lists of one kernel leave the same
same_after : (x : ResidentInputs) (p q : Plan) (m n : ResidentList) (c d : Checked) → BootsResident x p m c → BootsResident x q n d → after_runs None d ≡ after_runs None c
same_after x p q m n c d (h, load, told) (k, other, also) = same_left None c d (same_load x.load x.pairs p q m n c.load d.load h k load other) told also

resident_stands : (b : BootResidentValue) (x : ResidentInputs) → CanBootResident x → Stands (boot_resident_entry b).command x
resident_stands b x can = record { unrefused = none; whole = λ goods m. m.5 }
  where
    none : (a : Refusal Reason) → boots_resident b.out x (Err a) → ⊥
    none (by why) (inl r) = not_refused x.load x.pairs can.p can.m why can.resident r
    none (by why) (inr (p, m, c, l, f)) = heavy (after_runs None c) why (λ n h. can.light p m c n l h) f
    none (too_long name limit) m = m

can_boot : (b : BootResidentValue) (x : ResidentInputs) (goods : Made) → boots_resident b.out x (Ok goods) → CanBootResident x
can_boot b x goods (p, m, c, l, text, fault, (bytes, outputs, file)) = record {
  p = p;
  m = m;
  resident = l.0;
  light = λ q n d count k h. has_file (after_runs None c) bytes count file (subst (λ N. IsTooHeavy N count) (same_after x p q m n c d l k) h);
}

refused_boots : (b : BootResidentValue) (x : ResidentInputs) (a : Refusal Reason) → boots_resident b.out x (Err a) → RefusesFor (boot_resident_entry b).command x a
refused_boots b x (by why) (inl r) (Ok goods) (p, m, c, l, text, fault, file) = absurd (not_refused x.load x.pairs p m why l.0 r)
refused_boots b x (by why) (inr (p, m, c, l, f)) (Ok goods) (q, n, d, k, text, fault, (bytes, outputs, file)) =
    absurd (file_none (after_runs None c) bytes why (subst (λ N. IsFileOf N bytes) (same_after x p q m n c d l k) file) f)
refused_boots b x (by why) (inl r) (Err (by w)) (inl s) = ap (λ w. Err (by w)) (one_refusal x.load x.pairs why w r s)
refused_boots b x (by why) (inl r) (Err (by w)) (inr (q, n, d, k, g)) = absurd (not_refused x.load x.pairs q n why k.0 r)
refused_boots b x (by why) (inr (p, m, c, l, f)) (Err (by w)) (inl s) = absurd (not_refused x.load x.pairs p m w l.0 s)
refused_boots b x (by why) (inr (p, m, c, l, f)) (Err (by w)) (inr (q, n, d, k, g)) =
    ap (λ w. Err (by w)) (one_weight (after_runs None c) why w f (subst (λ N. HasNoFile N w) (same_after x p q m n c d l k) g))
refused_boots b x (by why) r (Err (too_long name limit)) m = absurd m
refused_boots b x (too_long name limit) r s m = absurd r

pub boot_resident_keeps : (b : BootResidentValue) → Keeps (boot_resident_entry b)
boot_resident_keeps b = record {
  did = λ D E held s o s' o'. booted D E held s o s' o' b;
  stands = resident_stands b;
  could = λ x goods m fault. can_boot b x goods m;
  refuses = refused_boots b;
}
