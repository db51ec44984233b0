-- By the one plan and the one memory.
use Rattle.std.proofs.Common.{◌≡◌, ◌∙◌, ℕ, List, [], ◌∷◌, Option, Some, None, Ok, refl, sym, ap, subst}
use Rattle.std.specs.Prelude.{codes, unwrap_or}
use Rattle.std.specs.Fmt.{digits}
use Rattle.kx_laws.proofs.Results.{ok_same}
use Rattle.kx_edge.specs.Edge.{Said}
use Rattle.page_memory.specs.Contents.{Contents, at}
use Rattle.segments.specs.Values.{overlay, want}
use Rattle.load_states.specs.States.{CrashLoad}
use Rattle.kexec_plan.specs.Plan.{plan}
use Rattle.kexec_plan.specs.Requests.{Plan}
use Rattle.plan_faults.specs.declared.fault.PlanFault.{PlanFault}
use Rattle.file_commands.specs.Answers.{FilesPut}
use Rattle.file_commands.specs.Taking.{File}
use Rattle.load_commands.specs.CrashInputs.{CrashInputs}
use Rattle.load_commands.specs.LoadPanic.{PanicLoad, panic_text as text_of_panic, record_of_crash}
use Rattle.command_parts.specs.Outputs.{IsFileOf}
use Rattle.command_parts.proofs.Outputs.{file_as}
use Rattle.kx_fields.specs.Fields.{field, with_field, zeros}
use Rattle.load_record.specs.File.{read_head, read_segments, record_file, record_reading, record_text, segment_at, segment_text, tested_head, tested_segments}
use Rattle.load_record.specs.Head.{head_fault, head_text}
use Rattle.segments.specs.Rules.{bare_refusal, shape_refusal}
use Rattle.sha2.specs.Sha256.{compress, digest_bytes, first_words, hash_after, rounds, schedule, sha256}
use Rattle.worked_commands.specs.Inputs.{three_bytes}
use Rattle.worked_commands.specs.Loads.{few_plan}
use Rattle.worked_commands.specs.Memories.{loaded, run_file}
use Rattle.worked_commands.specs.Panics.{crash_file, crash_load, panic_text}
use Rattle.worked_commands.proofs.Memories.{one_file, run_is}
use Rattle.worked_commands.proofs.panics.crash_loads_that_were_done.Goals as goal

text_is : text_of_panic few_plan ≡ panic_text
unfolding digits
text_is = refl

bytes_are : record_file (record_of_crash crash_load few_plan) ≡ crash_file
unfolding record_text record_reading tested_head read_head segment_at segment_text read_segments tested_segments head_text head_fault bare_refusal shape_refusal field with_field zeros compress digest_bytes first_words hash_after rounds schedule sha256
bytes_are = refl

one_plan : (i : CrashInputs) (p : Plan) → plan i.request (Some i.map) ≡ Ok few_plan → plan i.request (Some i.map) ≡ Ok p → p ≡ few_plan
one_plan i p e f = ok_same {F = PlanFault} p few_plan (sym f ∙ e)

-- the memory of the load has the file of the run
one_memory : (i : CrashInputs) (load : CrashLoad) (bytes : List ℕ) → i.memory ≡ loaded → ((q : ℕ) → at load.memory q ≡ overlay (at i.memory) (want three_bytes) q) → IsFileOf (at load.memory) bytes → bytes ≡ run_file
one_memory i load bytes m reads file = one_file (overlay (at loaded) (want three_bytes)) bytes run_file (file_as (at load.memory) (overlay (at loaded) (want three_bytes)) bytes (λ q. reads q ∙ ap (λ (m : Contents). overlay (at m) (want three_bytes) q) m) file) run_is

record_is : (load : CrashLoad) (p : Plan) → p ≡ few_plan → load.head ≡ 4 → load.segments ≡ three_bytes → record_file (record_of_crash load p) ≡ crash_file
record_is load p e head segments = (λ i. record_file (record_of_crash (record { memory = load.memory; head = head i; segments = segments i }) (e i))) ∙ bytes_are

reads_of : (i : CrashInputs) (l : CrashLoad) → PanicLoad i few_plan l → i.memory ≡ loaded → (q : ℕ) → at l.memory q ≡ overlay (at i.memory) (want three_bytes) q
reads_of i l h m q = by_want (want three_bytes q) refl
  where
    by_want : (o : Option (List ℕ)) → want three_bytes q ≡ o → at l.memory q ≡ overlay (at i.memory) (want three_bytes) q
    by_want None e = h.only_its_pages q e ∙ ap (λ o. unwrap_or o (at i.memory q)) (sym e)
    by_want (Some bytes) e = h.arrives q bytes e ∙ ap (λ o. unwrap_or o (at i.memory q)) (sym e)

here : (i : CrashInputs) (p : Plan) (l : CrashLoad) → plan i.request (Some i.map) ≡ Ok few_plan → PanicLoad i p l → (p ≡ few_plan) × PanicLoad i few_plan l
here i p l e h = let one = one_plan i p e h.planned in (one, subst (λ p. PanicLoad i p l) one h)

pub returns-clause-crash : goal.returns-clause-crash
returns-clause-crash g c = λ i m e a o t p h.
    let k = here i h.planned h.loaded e h.load in
    let memory : h.output ≡ run_file = one_memory i h.loaded h.output m (reads_of i h.loaded k.1 m) h.is_memory in
    let recorded : record_file (record_of_crash h.loaded h.planned) ≡ crash_file = record_is h.loaded h.planned k.0 k.1.head k.1.segments in
    let outputs : ◌≡◌ {A = List File} ((codes "o", h.output) ∷ (codes "r", record_file (record_of_crash h.loaded h.planned)) ∷ []) ((codes "o", run_file) ∷ (codes "r", crash_file) ∷ []) = λ j. (codes "o", memory j) ∷ (codes "r", recorded j) ∷ [] in (
      subst (λ outputs. FilesPut (g.S.Shelf.files a) outputs (g.S.Shelf.files t)) outputs h.put,
      subst (λ text. Said (g.O.Sink.said o) text (g.O.Sink.said p)) (ap text_of_panic k.0 ∙ text_is) h.said,
    )

pub returns-clause-with_notes : goal.returns-clause-with_notes
returns-clause-with_notes g c = λ i m e a o t p h.
    let k = here i h.planned h.loaded e h.load in
    let memory : h.output ≡ run_file = one_memory i h.loaded h.output m (reads_of i h.loaded k.1 m) h.is_memory in
    let recorded : record_file (record_of_crash h.loaded h.planned) ≡ crash_file = record_is h.loaded h.planned k.0 k.1.head k.1.segments in
    let outputs : ◌≡◌ {A = List File} ((codes "o", h.output) ∷ (codes "r", record_file (record_of_crash h.loaded h.planned)) ∷ []) ((codes "o", run_file) ∷ (codes "r", crash_file) ∷ []) = λ j. (codes "o", memory j) ∷ (codes "r", recorded j) ∷ [] in (
      subst (λ outputs. FilesPut (g.S.Shelf.files a) outputs (g.S.Shelf.files t)) outputs h.put,
      subst (λ text. Said (g.O.Sink.said o) text (g.O.Sink.said p)) (ap text_of_panic k.0 ∙ text_is) h.said,
    )
