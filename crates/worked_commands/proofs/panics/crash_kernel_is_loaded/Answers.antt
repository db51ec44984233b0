-- By the one plan and the one memory.
use Rattle.std.proofs.Common.{◌≡◌, ◌∙◌, ℕ, List, [], ◌∷◌, Some, Result, Ok, Err, refl, sym, ap, inl, inr}
use Rattle.std.specs.Prelude.{codes}
use Rattle.std.specs.Fmt.{digits}
use Rattle.kx_laws.proofs.Results.{ok_same}
use Rattle.page_memory.specs.Contents.{Contents, at}
use Rattle.segments.specs.Values.{overlay, want}
use Rattle.list_checker.specs.Crash.{AcceptedCrash}
use Rattle.load_states.specs.States.{CrashLoad}
use Rattle.kexec_plan.specs.Plan.{plan}
use Rattle.kexec_plan.specs.Requests.{Plan}
use Rattle.plan_faults.specs.declared.fault.PlanFault.{PlanFault}
use Rattle.plan_faults.specs.declared.fault.PlanFault.TheVariants as plans
use Rattle.file_commands.specs.Taking.{by}
use Rattle.load_commands.specs.CrashInputs.{CrashInputs}
use Rattle.load_commands.specs.CrashLoading.{IsCrashLoaded}
use Rattle.command_parts.specs.Outputs.{IsReadBack, IsFileOf, Made}
use Rattle.load_commands.specs.LoadPanic.{panic_text as text_of_panic, record_of_crash}
use Rattle.command_parts.proofs.Outputs.{file_as}
use Rattle.command_parts.specs.declared.reason.Reason.TheVariants as reasons
use Rattle.kx_fields.specs.Fields.{field, with_field, zeros}
use Rattle.load_record.specs.File.{read_head, read_segments, record_file, record_reading, record_text, segment_at, segment_text, tested_head, tested_segments}
use Rattle.load_record.specs.Head.{head_fault, head_text}
use Rattle.segments.specs.Rules.{bare_refusal, shape_refusal}
use Rattle.sha2.specs.Sha256.{compress, digest_bytes, first_words, hash_after, rounds, schedule, sha256}
use Rattle.worked_commands.specs.Inputs.{three_bytes}
use Rattle.worked_commands.specs.Loads.{few_plan}
use Rattle.worked_commands.specs.Memories.{abc_page, loaded, loaded_pages, memory_with, run_file, run_pages}
use Rattle.worked_commands.specs.Panics.{crash_file, crash_load, panic_goods, panic_makes, panic_text}
use Rattle.worked_commands.proofs.Lists.{in_place}
use Rattle.worked_commands.proofs.Memories.{is_run, one_file, run_is, run_pages_are, same_page}
use Rattle.worked_commands.proofs.panics.crash_kernel_is_loaded.Goals as goal

text_is : text_of_panic few_plan ≡ panic_text
unfolding digits
text_is = refl

bytes_are : record_file (record_of_crash crash_load few_plan) ≡ crash_file
unfolding record_text record_reading tested_head read_head segment_at segment_text read_segments tested_segments head_text head_fault bare_refusal shape_refusal field with_field zeros compress digest_bytes first_words hash_after rounds schedule sha256
bytes_are = refl

one_plan : (i : CrashInputs) (p : Plan) → plan i.request (Some i.map) ≡ Ok few_plan → plan i.request (Some i.map) ≡ Ok p → p ≡ few_plan
one_plan i p e f = ok_same {F = PlanFault} p few_plan (sym f ∙ e)

-- the memory of the load has the file of the run
one_memory : (i : CrashInputs) (load : CrashLoad) (bytes : List ℕ) → i.memory ≡ loaded → ((q : ℕ) → at load.memory q ≡ overlay (at i.memory) (want three_bytes) q) → IsFileOf (at load.memory) bytes → bytes ≡ run_file
one_memory i load bytes m reads file = one_file (overlay (at loaded) (want three_bytes)) bytes run_file (file_as (at load.memory) (overlay (at loaded) (want three_bytes)) bytes (λ q. reads q ∙ ap (λ (m : Contents). overlay (at m) (want three_bytes) q) m) file) run_is

record_is : (load : CrashLoad) (p : Plan) → p ≡ few_plan → load.head ≡ 4 → load.segments ≡ three_bytes → record_file (record_of_crash load p) ≡ crash_file
record_is load p e head segments = (λ i. record_file (record_of_crash (record { memory = load.memory; head = head i; segments = segments i }) (e i))) ∙ bytes_are

reads_back : IsReadBack (record_of_crash crash_load few_plan)
unfolding record_text record_reading tested_head read_head segment_at segment_text read_segments tested_segments head_text head_fault bare_refusal shape_refusal field with_field zeros compress digest_bytes first_words hash_after rounds schedule sha256
reads_back = refl

in_its_place : AcceptedCrash (at (memory_with run_pages)) (want three_bytes) 4
in_its_place = record { done = refl; there = in_place (at (memory_with run_pages)) (same_page (2, abc_page) loaded_pages) }

load : (i : CrashInputs) → i.memory ≡ loaded → plan i.request (Some i.map) ≡ Ok few_plan → IsCrashLoaded i few_plan crash_load
load i m e = record {
  planned = e;
  segments = refl;
  memory = λ q. is_run q ∙ ap (λ (m : Contents). overlay (at m) (want three_bytes) q) (sym m);
  head = refl;
  accepted = in_its_place;
}

alone : (i : CrashInputs) (goods : Made) → i.memory ≡ loaded → plan i.request (Some i.map) ≡ Ok few_plan → panic_makes i (Ok goods) → goods ≡ panic_goods
alone i goods m e (p, load, l, text, fault, bytes, file, outputs, back) =
    let one = one_plan i p e l.planned in
    let reads : (q : ℕ) → at load.memory q ≡ overlay (at i.memory) (want three_bytes) q = λ q. l.memory q ∙ ap (λ (p : Plan). overlay (at i.memory) (want p.segments) q) one in
    let memory : bytes ≡ run_file = one_memory i load bytes m reads file in
    let recorded : record_file (record_of_crash load p) ≡ crash_file = record_is load p one l.head (l.segments ∙ ap (λ (p : Plan). p.segments) one) in
    let said : goods.text ≡ panic_text = text ∙ ap text_of_panic one ∙ text_is in
    let put : goods.outputs ≡ (codes "o", run_file) ∷ (codes "r", crash_file) ∷ [] = outputs ∙ λ j. (codes "o", memory j) ∷ (codes "r", recorded j) ∷ [] in
    λ j. record { outputs = put j; text = said j; fault = fault j }

not_refused : (i : CrashInputs) → plan i.request (Some i.map) ≡ Ok few_plan → panic_makes i (Err (by (reasons.Plan plans.UnknownImage))) → ⊥
not_refused i e (inl f) = let h : ◌≡◌ {A = Result Plan PlanFault} (Ok few_plan) (Err plans.UnknownImage) = sym e ∙ f in cc
not_refused i e (inr (p, load, l, h)) = h

pub returns-clause-load : goal.returns-clause-load
returns-clause-load c = load

pub returns-clause-made : goal.returns-clause-made
returns-clause-made c = λ i m e. (few_plan, crash_load, load i m e, sym text_is, refl, run_file, run_pages_are, ap (λ bytes. (codes "o", run_file) ∷ (codes "r", bytes) ∷ []) (sym bytes_are), reads_back)

pub returns-clause-nothing_else : goal.returns-clause-nothing_else
returns-clause-nothing_else c = alone

pub returns-clause-not_refused : goal.returns-clause-not_refused
returns-clause-not_refused c = not_refused

pub returns-clause-never_too_long : goal.returns-clause-never_too_long
returns-clause-never_too_long c = λ i h. h
