-- What is proved of `load-panic`.
use Rattle.std.proofs.Common.{◌≡◌, ◌∙◌, ℕ, List, [], ◌∷◌, true, Some, Ok, Err, sym, ap, subst, inl, inr}
use Rattle.std.specs.Prelude.{unwrap_or}
use Rattle.kx_laws.proofs.Results.{ok_same}
use Rattle.kx_edge.specs.Edge.{Files}
use Rattle.kx_edge.specs.declared.edge.Shelf.{Ghosts as Shelf}
use Rattle.kx_edge.specs.declared.edge.Sink.{Ghosts as Sink}
use Rattle.page_memory.specs.Contents.{at}
use Rattle.load_record.specs.File.{record_file}
use Rattle.load_states.specs.States.{CrashLoad}
use Rattle.file_commands.specs.Taking.{Refusal, by, too_long, reads}
use Rattle.file_commands.specs.Answers.{MeetsTold, done}
use Rattle.file_commands.specs.inner.Order.{Stands}
use Rattle.file_commands.proofs.Meeting.{RefusesFor}
use Rattle.file_commands.proofs.Steps.{reads_cases}
use Rattle.kexec_plan.specs.Requests.{Plan}
use Rattle.command_parts.specs.declared.reason.Reason.{Reason}
use Rattle.command_parts.specs.declared.reason.Reason.TheVariants as reasons
use Rattle.command_parts.specs.Outputs.{Made, IsTooHeavy, HasNoFile, IsFileOf}
use Rattle.kexec_words.specs.Values.{CrashInputsValue, LoadPanicValue}
use Rattle.plan_faults.specs.declared.fault.PlanFault.{PlanFault}
use Rattle.kexec_plan.proofs.Area.{in_area, outside_all}
use Rattle.load_commands.specs.CrashInputs.{CrashInputs, crash_inputs}
use Rattle.load_commands.specs.CrashLoading.{IsCrashLoaded}
use Rattle.load_commands.specs.Files.{map_file, some_notes}
use Rattle.command_parts.specs.Files.{memory_file}
use Rattle.load_commands.specs.Inputs.{kernel_files}
use Rattle.load_commands.specs.LoadPanic.{CanLoadPanic, HasLoadedPanic, PanicLoad, load_panic_entry, loads_panic, record_of_crash}
use Rattle.load_commands.specs.Loading.{HasNoPlan}
use Rattle.command_parts.proofs.Outputs.{file_none, has_file, heavy, one_weight}
use Rattle.load_commands.proofs.NormalLoad.{no_fault, same_fault}
use Rattle.command_parts.proofs.Told.{one_memory}
use Rattle.file_commands.proofs.Keeping.{Keeps, put_as, said_as}

panic : (i : CrashInputs) (p : Plan) (c : CrashLoad) → i.request.crash ≡ true → IsCrashLoaded i p c → PanicLoad i p c
panic i p c crash l =
    let a = in_area i.request i.map p crash l.planned in
    record {
      planned = l.planned;
      area = a.0;
      reserved = a.1;
      only_the_area = λ q outside. l.memory q ∙ ap (λ o. unwrap_or o (at i.memory q)) (outside_all a.0 p.segments q a.2 outside);
      arrives = λ q bytes e. l.memory q ∙ ap (λ o. unwrap_or o (at i.memory q)) e;
      only_its_pages = λ q e. l.memory q ∙ ap (λ o. unwrap_or o (at i.memory q)) e;
      head = l.head;
      segments = l.segments;
    }

-- what `load-panic` takes is the request of a crash kernel
crash_asked : (i : CrashInputsValue) (map : List ℕ) (held : Files) (x : CrashInputs) → reads (crash_inputs i map) held ≡ Ok x → x.request.crash ≡ true
crash_asked i map held x read =
    let m = reads_cases (memory_file i.memory) _ held x read in
    let r = reads_cases (map_file map) _ held x m.2 in
    let n = reads_cases (some_notes i.notes) _ held x r.2 in
    let f = reads_cases (kernel_files i.kernel i.initrd i.purgatory []) _ held x n.2 in
    ap (λ (x : CrashInputs). x.request.crash) (sym (ok_same {F = Refusal Reason} _ x f.2))

module _ {S O : Type 0} (D : Shelf S) (E : Sink O) (held : Files) (s : S) (o : O) (s' : S) (o' : O) where
  loaded_panic : (l : LoadPanicValue) → (m : MeetsTold D E (load_panic_entry l).command held s o done s' o') → HasLoadedPanic D E s o s' o' l m.0
  loaded_panic l (i, goods, read, n, fault, out) = record {
    planned = n.0;
    loaded = n.1;
    load = panic i n.0 n.1 (crash_asked l.inputs l.map held i read) n.2;
    output = n.5;
    is_memory = n.6;
    read_back = n.8;
    put = put_as D E s o s' o' goods.outputs ((l.out, n.5) ∷ (l.load_record, record_file (record_of_crash n.1 n.0)) ∷ []) n.7 out.put;
    said = said_as D E s o s' o' goods.text _ n.3 out.said;
  }

-- nothing refuses a crash load that can be made
panic_not : (i : CrashInputs) (why : Reason) → CanLoadPanic i → HasNoPlan i.request (Some i.map) why → ⊥
panic_not i (reasons.Plan f) can h = no_fault can.p f (sym can.planned ∙ h)
panic_not i other can h = h

panic_as : (i : CrashInputs) (p : Plan) (c : CrashLoad) → (can : CanLoadPanic i) → IsCrashLoaded i p c → IsCrashLoaded i can.p c
panic_as i p c can l = subst (λ p. IsCrashLoaded i p c) (ok_same {F = PlanFault} p can.p (sym l.planned ∙ can.planned)) l

load_panic_stands : (l : LoadPanicValue) (i : CrashInputs) → CanLoadPanic i → Stands (load_panic_entry l).command i
load_panic_stands l i can = record { unrefused = none; whole = λ goods m. m.4 }
  where
    none : (a : Refusal Reason) → loads_panic l.out l.load_record i (Err a) → ⊥
    none (by why) (inl r) = panic_not i why can r
    none (by why) (inr (p, c, k, f)) = heavy (at c.memory) why (λ n h. can.light c n (panic_as i p c can k) h) f
    none (too_long name limit) m = m

can_load_panic : (l : LoadPanicValue) (i : CrashInputs) (goods : Made) → loads_panic l.out l.load_record i (Ok goods) → CanLoadPanic i
can_load_panic k i goods (p, c, l, text, fault, bytes, file, outputs, back) = record {
  p = p;
  planned = l.planned;
  light = λ d n m h. has_file (at c.memory) bytes n file (subst (λ N. IsTooHeavy N n) (one_memory (at d.memory) (at c.memory) (λ q. m.memory q ∙ sym (l.memory q))) h);
}

-- a crash load without a plan is refused for it
panic_fault : (i : CrashInputs) (why w : Reason) → HasNoPlan i.request (Some i.map) why → HasNoPlan i.request (Some i.map) w → w ≡ why
panic_fault i (reasons.Plan f) (reasons.Plan g) h r = ap reasons.Plan (same_fault f g (sym r ∙ h))
panic_fault i (reasons.Plan f) other h r = absurd r
panic_fault i other w h r = absurd h

panic_none : (i : CrashInputs) (why : Reason) (p : Plan) (c : CrashLoad) → HasNoPlan i.request (Some i.map) why → IsCrashLoaded i p c → ⊥
panic_none i (reasons.Plan f) p c h l = no_fault p f (sym l.planned ∙ h)
panic_none i other p c h l = h

-- one request leaves one memory
panic_memory : (i : CrashInputs) (p q : Plan) (c d : CrashLoad) → IsCrashLoaded i p c → IsCrashLoaded i q d → at d.memory ≡ at c.memory
panic_memory i p q c d l k =
    let m = subst (λ p. IsCrashLoaded i p d) (ok_same {F = PlanFault} q p (sym k.planned ∙ l.planned)) k in
    one_memory (at d.memory) (at c.memory) (λ z. m.memory z ∙ sym (l.memory z))

refused_panic : (l : LoadPanicValue) (i : CrashInputs) (a : Refusal Reason) → loads_panic l.out l.load_record i (Err a) → RefusesFor (load_panic_entry l).command i a
refused_panic l i (by why) (inl r) (Ok goods) m = absurd (panic_none i why m.0 m.1 r m.2)
refused_panic l i (by why) (inl r) (Err (by w)) (inl s) = ap (λ w. Err (by w)) (panic_fault i why w r s)
refused_panic l i (by why) (inl r) (Err (by w)) (inr m) = absurd (panic_none i why m.0 m.1 r m.2)
refused_panic l i (by why) (inr (p, c, k, f)) (Ok goods) m =
    absurd (file_none (at c.memory) m.5 why (subst (λ N. IsFileOf N m.5) (panic_memory i p m.0 c m.1 k m.2) m.6) f)
refused_panic l i (by why) (inr (p, c, k, f)) (Err (by w)) (inl s) = absurd (panic_none i w p c s k)
refused_panic l i (by why) (inr (p, c, k, f)) (Err (by w)) (inr (q, d, h, g)) =
    ap (λ w. Err (by w)) (one_weight (at c.memory) why w f (subst (λ N. HasNoFile N w) (panic_memory i p q c d k h) g))
refused_panic l i (by why) r (Err (too_long name limit)) m = absurd m
refused_panic l i (too_long name limit) r s m = absurd r

pub load_panic_keeps : (l : LoadPanicValue) → Keeps (load_panic_entry l)
load_panic_keeps l = record {
  did = λ D E held s o s' o'. loaded_panic D E held s o s' o' l;
  stands = load_panic_stands l;
  could = λ i goods m fault. can_load_panic l i goods m;
  refuses = refused_panic l;
}
