-- Loads of a crash kernel of which all is so but one field.
use Rattle.std.proofs.Common.{◌≡◌, ◌≢◌, ◌∙◌, ℕ, List, [], true, false, Some, None, Result, Ok, Err, refl, sym, ap, arith}
use Rattle.kx_laws.proofs.Options.{none_some}
use Rattle.kx_pages.specs.Spans.{Run, in_span}
use Rattle.page_memory.specs.Contents.{Contents, at}
use Rattle.memory_map.specs.Maps.{reserved_area}
use Rattle.segments.specs.Values.{SegmentValue, want}
use Rattle.load_states.specs.States.{CrashLoad}
use Rattle.kexec_plan.specs.Plan.{plan}
use Rattle.kexec_plan.specs.Requests.{Plan}
use Rattle.plan_faults.specs.declared.fault.PlanFault.{PlanFault}
use Rattle.plan_faults.specs.declared.fault.PlanFault.TheVariants as plans
use Rattle.kexec_plan.proofs.Area.{in_area, outside_all}
use Rattle.load_commands.specs.CrashInputs.{CrashInputs}
use Rattle.worked_commands.specs.Inputs.{three_bytes}
use Rattle.worked_commands.specs.Loads.{few_plan}
use Rattle.worked_commands.specs.Memories.{abc_page, loaded, loaded_pages, memory_with, run_pages}
use Rattle.worked_commands.specs.Panics.{IsAsked, crash_load}
use Rattle.worked_commands.specs.Wrong.{PanicNeeds, no_segments, nothing_in_place, one_page_more, other_head}
use Rattle.worked_commands.proofs.Lists.{in_place}
use Rattle.worked_commands.proofs.Loads.{loaded_other}
use Rattle.worked_commands.proofs.Memories.{is_run, left_alone, no_page, nothing_at_2, other_page, same_page, wanted}
use Rattle.worked_commands.proofs.OneOutput.{not_zeros}

-- ---- what follows from a plan
pub area_follows : (i : CrashInputs) (p : Plan) (load : CrashLoad) → i.request.crash ≡ true → plan i.request (Some i.map) ≡ Ok p
    → ((q : ℕ) → want p.segments q ≡ None → at load.memory q ≡ at i.memory q)
    → (area : Run) × (reserved_area i.map ≡ Some area) × ((q : ℕ) → in_span area q ≡ false → at load.memory q ≡ at i.memory q)
area_follows i p load crash planned only =
    let a = in_area i.request i.map p crash planned in
    (a.0, a.1, λ q outside. only q (outside_all a.0 p.segments q a.2 outside))

-- ---- the kernel `abc` at page 2, in an area of three pages
abbrev area : Run
area = record { first = 2; count = 3 }

outside : (q : ℕ) → in_span area q ≡ false → q ≢ 2
outside q out e = let f : true ≡ false = ap (in_span area) (sym e) ∙ out in cc

outside_3 : (q : ℕ) → in_span area q ≡ false → q ≢ 3
outside_3 q out e = let f : true ≡ false = ap (in_span area) (sym e) ∙ out in cc

unwanted : (q : ℕ) → want three_bytes q ≡ None → q ≢ 2
unwanted q none e = none_some (want three_bytes 2) abc_page (ap (want three_bytes) (sym e) ∙ none) wanted

there : (q : ℕ) (bytes : List ℕ) → want three_bytes q ≡ Some bytes → at crash_load.memory q ≡ bytes
there q bytes w = in_place (at (memory_with run_pages)) (same_page (2, abc_page) loaded_pages) q bytes w

module _ (i : CrashInputs) (memory : i.memory ≡ loaded) where
  at_loaded : (q : ℕ) → at loaded q ≡ at i.memory q
  at_loaded q = ap (λ (m : Contents). at m q) (sym memory)

  alike : (q : ℕ) → q ≢ 2 → at crash_load.memory q ≡ at i.memory q
  alike q apart = is_run q ∙ left_alone (at loaded) q apart ∙ at_loaded q

  no_plan : plan i.request (Some i.map) ≡ Err plans.UnknownImage → plan i.request (Some i.map) ≡ Ok few_plan → ⊥
  no_plan e f = let h : ◌≡◌ {A = Result Plan PlanFault} (Err plans.UnknownImage) (Ok few_plan) = sym e ∙ f in cc

  pub without_planned : plan i.request (Some i.map) ≡ Err plans.UnknownImage → reserved_area i.map ≡ Some area → PanicNeeds 0 i crash_load
  without_planned e reserved = (
    (reserved, ((λ q out. alike q (outside q out)), (there, ((λ q none. alike q (unwanted q none)), (refl, (refl, tt)))))),
    λ h. no_plan e h.planned,
  )

no_segment : ◌≡◌ {A = List SegmentValue} [] three_bytes → ⊥
no_segment e = cc

module _ (i : CrashInputs) (a : IsAsked i) where
  pub without_arrives : PanicNeeds 3 i nothing_in_place
  without_arrives = (
    (a.planned, (a.reserved, ((λ q out. at_loaded i a.memory q), ((λ q none. at_loaded i a.memory q), (refl, (refl, tt)))))),
    λ h. not_zeros (sym nothing_at_2 ∙ h.arrives 2 abc_page wanted),
  )

  more : (q : ℕ) → q ≢ 3 → at one_page_more.memory q ≡ at crash_load.memory q
  more q apart = other_page (3, abc_page) run_pages q apart

  -- page 3 is not wanted
  three_wanted : (q : ℕ) (bytes : List ℕ) → want three_bytes q ≡ Some bytes → q ≢ 3
  three_wanted q bytes w e = none_some (want three_bytes 3) bytes refl (ap (want three_bytes) (sym e) ∙ w)

  pub without_only_its_pages : PanicNeeds 4 i one_page_more
  without_only_its_pages = (
    (
      a.planned,
      (
        a.reserved,
        (
          (λ q out. more q (outside_3 q out) ∙ alike i a.memory q (outside q out)),
          ((λ q bytes w. more q (three_wanted q bytes w) ∙ there q bytes w), (refl, (refl, tt))),
        ),
      ),
    ),
    λ h.
        let before : at i.memory 3 ≡ at (memory_with []) 3 = sym (at_loaded i a.memory 3) ∙ loaded_other 3 (λ e. omega (arith, e)) (λ e. omega (arith, e)) in
        not_zeros (sym (no_page 3) ∙ sym before ∙ sym (h.only_its_pages 3 refl) ∙ same_page (3, abc_page) run_pages),
  )

  pub without_head : PanicNeeds 5 i other_head
  without_head = (
    (a.planned, (a.reserved, ((λ q out. alike i a.memory q (outside q out)), (there, ((λ q none. alike i a.memory q (unwanted q none)), (refl, tt)))))),
    λ h. let e : 0x11002 ≡ 4 = h.head in omega (arith, e),
  )

  pub without_segments : PanicNeeds 6 i no_segments
  without_segments = (
    (a.planned, (a.reserved, ((λ q out. alike i a.memory q (outside q out)), (there, ((λ q none. alike i a.memory q (unwanted q none)), (refl, tt)))))),
    λ h. no_segment h.segments,
  )
