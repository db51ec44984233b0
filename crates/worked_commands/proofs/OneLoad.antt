-- What is made of the load of the examples.
use Rattle.std.specs.Fmt.{digits}
use Rattle.std.proofs.Common.{◌≡◌, ◌∙◌, ℕ, List, [], ◌++◌, None, false, Result, Ok, Err, refl, sym, ap, subst}
use Rattle.kx_pages.specs.declared.image.Wish.TheVariants.{Plain}
use Rattle.page_memory.specs.Contents.{at}
use Rattle.segments.specs.Values.{need, overlay, want}
use Rattle.load_record.specs.File.{record_file, record_text, segment_text}
use Rattle.load_record.specs.Head.{head_text}
use Rattle.kx_fields.specs.Fields.{field, with_field, zeros}
use Rattle.sha2.specs.Sha256.{compress, digest_bytes, first_words, hash_after, rounds, schedule, sha256}
use Rattle.load_states.specs.Fillings.{IsSealed}
use Rattle.load_states.specs.Ready.{Told}
use Rattle.load_states.specs.States.{Checked}
use Rattle.kexec_plan.specs.Plan.{plan}
use Rattle.kexec_plan.specs.Requests.{Plan}
use Rattle.plan_faults.specs.declared.fault.PlanFault.{PlanFault}
use Rattle.plan_faults.specs.declared.fault.PlanFault.TheVariants as plans
use Rattle.load_commands.specs.Load.{record_of_load}
use Rattle.command_parts.specs.Outputs.{IsFileOf}
use Rattle.command_parts.proofs.Outputs.{file_as}
use Rattle.command_parts.specs.Runs.{after_runs, list_text, run_text}
use Rattle.load_commands.specs.Startup.{planned_startup}
use Rattle.command_parts.specs.Texts.{ran_line}
use Rattle.worked_commands.specs.Inputs.{few_asked, three_bytes, three_bytes_file, three_bytes_record}
use Rattle.worked_commands.specs.Loads.{boot_text, few_plan, load_text, unknown_read}
use Rattle.worked_commands.specs.Memories.{loaded, loaded_file, run_file}
use Rattle.worked_commands.specs.Texts.{no_memory}
use Rattle.worked_commands.proofs.Loads.{as_checked, as_loaded, checked0, list_said, load0, no_plan, one_plan, plan_is, pool, sealed_by}
use Rattle.worked_commands.proofs.Memories.{loaded_is, one_file, run_is}

-- what is said of the list and of its run
pub boot_says : (c : Checked) (p : Plan) → plan few_asked None ≡ Ok p → IsSealed (at no_memory) pool Plain p.segments c.load → Told c.load c.words c.links c.pairs → run_text None c (planned_startup p) ≡ boot_text
unfolding digits
boot_says c p e s told =
    let sealed = sealed_by p c.load e s in
    let list : list_text c few_plan.start ≡ list_text checked0 few_plan.start = list_said c few_plan.start sealed told in
    let words = (as_checked c sealed told).words in
    let here : run_text None c (planned_startup few_plan) ≡ boot_text = λ i. (list i ++ ran_line (words i)) ++ [] in
    ap (λ (p : Plan). run_text None c (planned_startup p)) (one_plan p e) ∙ here

pub load_says : (c : Checked) (p : Plan) → plan few_asked None ≡ Ok p → IsSealed (at no_memory) pool Plain p.segments c.load → Told c.load c.words c.links c.pairs → list_text c p.start ≡ load_text
unfolding digits
load_says c p e s told = ap (λ (p : Plan). list_text c p.start) (one_plan p e) ∙ list_said c few_plan.start (sealed_by p c.load e s) told

-- the file of the memory that the run leaves, and of the one before it
pub boot_leaves : (c : Checked) (p : Plan) (bytes : List ℕ) → plan few_asked None ≡ Ok p → IsSealed (at no_memory) pool Plain p.segments c.load → Told c.load c.words c.links c.pairs → IsFileOf (after_runs None c) bytes → bytes ≡ run_file
boot_leaves c p bytes e s told file =
    one_file (overlay (at loaded) (want three_bytes)) bytes run_file (subst (λ N. IsFileOf N bytes) (as_checked c (sealed_by p c.load e s) told).plain file) run_is

pub load_leaves : (c : Checked) (p : Plan) (bytes : List ℕ) → plan few_asked None ≡ Ok p → IsSealed (at no_memory) pool Plain p.segments c.load → IsFileOf (at c.load.memory) bytes → bytes ≡ loaded_file
load_leaves c p bytes e s file = one_file (at loaded) bytes loaded_file (file_as (at c.load.memory) (at loaded) bytes (as_loaded c.load (sealed_by p c.load e s)).reads file) loaded_is

-- the record of the load
first_record : record_of_load load0 few_plan ≡ three_bytes_record
first_record = refl

record_bytes : record_file three_bytes_record ≡ three_bytes_file
unfolding record_text head_text segment_text field with_field zeros first_words schedule rounds compress hash_after digest_bytes sha256
record_bytes = refl

pub record_is : (c : Checked) (p : Plan) → plan few_asked None ≡ Ok p → IsSealed (at no_memory) pool Plain p.segments c.load → record_file (record_of_load c.load p) ≡ three_bytes_file
record_is c p e s =
    let k = as_loaded c.load (sealed_by p c.load e s) in
    let same : record_of_load c.load few_plan ≡ record_of_load load0 few_plan = λ i. record {
      crash = false;
      image = k.image i;
      start = few_plan.start;
      regions = 0;
      digest = 0;
      segments = k.segments i;
    } in
    ap (λ (p : Plan). record_file (record_of_load c.load p)) (one_plan p e) ∙ ap record_file same ∙ ap record_file first_record ∙ record_bytes

pub none : (p : Plan) → plan unknown_read.request None ≡ Ok p → ⊥
none p e = let f : ◌≡◌ {A = Result Plan PlanFault} (Err plans.UnknownImage) (Ok p) = sym no_plan ∙ e in cc

pub known : (f : PlanFault) → plan few_asked None ≡ Err f → ⊥
known f e = let g : ◌≡◌ {A = Result Plan PlanFault} (Ok few_plan) (Err f) = sym plan_is ∙ e in cc

-- the load of these segments takes three pages
pub takes : (p : Plan) → plan few_asked None ≡ Ok p → need Plain p.segments ≡ 3
takes p e = ap (λ (p : Plan). need Plain p.segments) (one_plan p e)
