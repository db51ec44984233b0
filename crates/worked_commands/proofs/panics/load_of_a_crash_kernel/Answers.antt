-- Page 2 is the one page of the segments.
use Rattle.std.proofs.Common.{◌≡◌, ◌≢◌, ◌∙◌, ℕ, List, true, false, Option, Some, None, Result, Ok, Err, refl, sym, ap, arith}
use Rattle.std.specs.Prelude.{get_or}
use Rattle.kx_pages.specs.Bytes.{page_of}
use Rattle.page_memory.specs.Contents.{Contents, at, zero_page}
use Rattle.segments.specs.Values.{overlay, want}
use Rattle.kx_pages.specs.Spans.{in_span}
use Rattle.kexec_plan.specs.Plan.{plan}
use Rattle.kexec_plan.specs.Requests.{Plan}
use Rattle.plan_faults.specs.declared.fault.PlanFault.{PlanFault}
use Rattle.plan_faults.specs.declared.fault.PlanFault.TheVariants as plans
use Rattle.load_commands.specs.CrashInputs.{CrashInputs}
use Rattle.command_parts.proofs.Outputs.{has_file, file_as}
use Rattle.worked_commands.specs.Inputs.{three_bytes}
use Rattle.worked_commands.specs.Loads.{few_plan}
use Rattle.worked_commands.specs.Memories.{abc_page, loaded, loaded_pages, memory_with, run_file, run_pages}
use Rattle.worked_commands.specs.Panics.{crash_load}
use Rattle.worked_commands.proofs.Lists.{in_place}
use Rattle.worked_commands.proofs.Memories.{is_run, left_alone, nothing_at_2, run_is, same_page, wanted}
use Rattle.worked_commands.proofs.panics.load_of_a_crash_kernel.Goals as goal

-- page 2 lies in the area
outside : (q : ℕ) → in_span (record { first = 2; count = 3 }) q ≡ false → q ≢ 2
outside q out e = let f : true ≡ false = ap (in_span (record { first = 2; count = 3 })) (sym e) ∙ out in cc

unwanted : (q : ℕ) → want three_bytes q ≡ None → q ≢ 2
unwanted q none e = let f : ◌≡◌ {A = Option (List ℕ)} (Some abc_page) None = sym wanted ∙ ap (want three_bytes) (sym e) ∙ none in cc

none : (i : CrashInputs) (p : Plan) → plan i.request (Some i.map) ≡ Err plans.UnknownImage → plan i.request (Some i.map) ≡ Ok p → ⊥
none i p e f = let h : ◌≡◌ {A = Result Plan PlanFault} (Err plans.UnknownImage) (Ok p) = sym e ∙ f in cc

-- page 2 of the memory before the load is zeros
not_there : zero_page ≡ abc_page → ⊥
unfolding zero_page page_of
not_there e = let f : 0 ≡ 97 = ap (λ bytes. get_or bytes 0 0) e in omega (arith, f)

alike : (i : CrashInputs) (q : ℕ) → i.memory ≡ loaded → q ≢ 2 → at crash_load.memory q ≡ at i.memory q
alike i q m apart = is_run q ∙ left_alone (at loaded) q apart ∙ ap (λ (m : Contents). at m q) (sym m)

pub returns-clause-promised : goal.returns-clause-promised
returns-clause-promised c = λ i m e reserved. record {
  planned = e;
  area = record { first = 2; count = 3 };
  reserved = reserved;
  only_the_area = λ q out. alike i q m (outside q out);
  arrives = λ q bytes w. in_place (at (memory_with run_pages)) (same_page (2, abc_page) loaded_pages) q bytes w;
  only_its_pages = λ q none. alike i q m (unwanted q none);
  head = refl;
  segments = refl;
}

pub returns-clause-can : goal.returns-clause-can
returns-clause-can c = λ i m e. record {
  p = few_plan;
  planned = e;
  light = λ c n l h. has_file (at c.memory) run_file n (file_as (overlay (at loaded) (want three_bytes)) (at c.memory) run_file (λ q. ap (λ (m : Contents). overlay (at m) (want three_bytes) q) (sym m) ∙ sym (l.memory q)) run_is) h;
}

pub returns-clause-cannot : goal.returns-clause-cannot
returns-clause-cannot c = λ i e h. none i h.p e h.planned

pub returns-clause-other_head : goal.returns-clause-other_head
returns-clause-other_head c = λ i h. let e : 0x11002 ≡ 4 = h.head in omega (arith, e)

pub returns-clause-nothing_there : goal.returns-clause-nothing_there
returns-clause-nothing_there c = λ i h. not_there (sym nothing_at_2 ∙ h.arrives 2 abc_page wanted)
