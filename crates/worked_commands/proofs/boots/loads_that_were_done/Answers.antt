-- By what is read, and by the one load.
use Rattle.std.proofs.Common.{◌≡◌, ◌∙◌, List, [], ◌∷◌, None, false, refl, sym, subst}
use Rattle.std.specs.Prelude.{codes}
use Rattle.kx_laws.proofs.Results.{ok_same}
use Rattle.kx_edge.specs.Edge.{Said}
use Rattle.kx_edge.specs.declared.edge.Shelf.{Ghosts as Shelf}
use Rattle.kx_edge.specs.declared.edge.Sink.{Ghosts as Sink}
use Rattle.command_parts.specs.declared.reason.Reason.{Reason}
use Rattle.kx_pages.specs.declared.image.Wish.TheVariants.{Plain}
use Rattle.load_record.specs.File.{record_file, record_text, segment_text}
use Rattle.load_record.specs.Head.{head_text}
use Rattle.kx_fields.specs.Fields.{field, with_field, zeros}
use Rattle.sha2.specs.Sha256.{compress, digest_bytes, first_words, hash_after, rounds, schedule, sha256}
use Rattle.file_commands.specs.Answers.{FilesPut}
use Rattle.file_commands.specs.Taking.{File, Refusal}
use Rattle.load_commands.specs.Boot.{HasBooted}
use Rattle.load_commands.specs.ByRules.{HasBootedLaid, HasLoadedLaid}
use Rattle.load_commands.specs.Load.{HasLoaded, record_of_load}
use Rattle.load_commands.specs.NormalLoad.{IsLaid}
use Rattle.worked_commands.specs.Inputs.{each_file, few_read, three_bytes_file}
use Rattle.worked_commands.specs.Loads.{boot_text, few_plan, load_text}
use Rattle.worked_commands.specs.Memories.{loaded_file, run_file}
use Rattle.worked_commands.specs.Names.{boot_raw, load_raw}
use Rattle.worked_commands.proofs.CallFiles.{few_taken}
use Rattle.worked_commands.proofs.Loads.{plan_is}
use Rattle.worked_commands.proofs.Memories.{loaded_is, run_is}
use Rattle.worked_commands.proofs.LoadWitness.{checked1, load1, loaded1, sealed, told1}
use Rattle.load_record.specs.File.{read_head, read_segments, record_reading, segment_at, tested_head, tested_segments}
use Rattle.load_record.specs.Head.{head_fault}
use Rattle.segments.specs.Rules.{bare_refusal, shape_refusal}
use Rattle.command_parts.specs.Outputs.{IsReadBack}
use Rattle.worked_commands.proofs.OneLoad.{boot_leaves, boot_says, load_leaves, load_says, record_is}
use Rattle.load_commands.proofs.NormalLoad.{normal}
use Rattle.load_commands.proofs.Ending.{again_of, machine_of}
use Rattle.load_commands.proofs.Leaving.{leaves_of}
use Rattle.load_commands.proofs.Proving.{proves_itself}
use Rattle.worked_commands.proofs.boots.loads_that_were_done.Goals as goal

reads_back : IsReadBack (record_of_load load1 few_plan)
unfolding record_text record_reading tested_head read_head segment_at segment_text read_segments tested_segments head_text head_fault bare_refusal shape_refusal field with_field zeros compress digest_bytes first_words hash_after rounds schedule sha256
reads_back = refl

module _ {S O : Type 0} (D : Shelf S) (E : Sink O) (a : S) (o : O) (t : S) (p : O) where
  booted : HasBootedLaid D E each_file a o t p (boot_raw None) → FilesPut (D.files a) ((codes "o", run_file) ∷ []) (D.files t) × Said (E.said o) boot_text (E.said p)
  booted h = here (subst (λ i. (b : HasBooted D E a o t p (boot_raw None) i) × IsLaid Plain i b.planned b.checked) (ok_same {F = Refusal Reason} h.inputs _ (sym h.read ∙ few_taken)) (h.booted, h.laid))
    where
      here : (b : HasBooted D E a o t p (boot_raw None) few_read) × IsLaid Plain few_read b.planned b.checked → FilesPut (D.files a) ((codes "o", run_file) ∷ []) (D.files t) × Said (E.said o) boot_text (E.said p)
      here (b, laid) = (
        subst (λ bytes. FilesPut (D.files a) ((codes "o", bytes) ∷ []) (D.files t)) (boot_leaves b.checked b.planned b.output b.load.planned laid b.load.accepted b.is_memory) b.put,
        subst (λ text. Said (E.said o) text (E.said p)) (boot_says b.checked b.planned b.load.planned laid b.load.accepted) b.said,
      )

  loaded_by : HasLoadedLaid D E each_file a o t p (load_raw false) → FilesPut (D.files a) ((codes "o", loaded_file) ∷ (codes "r", three_bytes_file) ∷ []) (D.files t) × Said (E.said o) load_text (E.said p)
  loaded_by h = here (subst (λ i. (b : HasLoaded D E a o t p (load_raw false) i) × IsLaid Plain i b.planned b.checked) (ok_same {F = Refusal Reason} h.inputs _ (sym h.read ∙ few_taken)) (h.loaded, h.laid))
    where
      here : (b : HasLoaded D E a o t p (load_raw false) few_read) × IsLaid Plain few_read b.planned b.checked → FilesPut (D.files a) ((codes "o", loaded_file) ∷ (codes "r", three_bytes_file) ∷ []) (D.files t) × Said (E.said o) load_text (E.said p)
      here (b, laid) =
          let memory : b.output ≡ loaded_file = load_leaves b.checked b.planned b.output b.load.planned laid b.is_memory in
          let recorded = record_is b.checked b.planned b.load.planned laid in
          let outputs : ◌≡◌ {A = List File} ((codes "o", b.output) ∷ (codes "r", record_file (record_of_load b.checked.load b.planned)) ∷ []) ((codes "o", loaded_file) ∷ (codes "r", three_bytes_file) ∷ []) = λ i. (codes "o", memory i) ∷ (codes "r", recorded i) ∷ [] in (
            subst (λ outputs. FilesPut (D.files a) outputs (D.files t)) outputs b.put,
            subst (λ text. Said (E.said o) text (E.said p)) (load_says b.checked b.planned b.load.planned laid b.load.accepted) b.said,
          )

pub returns-clause-boot : goal.returns-clause-boot
returns-clause-boot g c = λ a o t p h. booted g.S.Shelf g.O.Sink a o t p h

pub returns-clause-load : goal.returns-clause-load
returns-clause-load g c = λ a o t p h. loaded_by g.S.Shelf g.O.Sink a o t p h

pub returns-clause-boot_by : goal.returns-clause-boot_by
returns-clause-boot_by g c = λ a o t p put say. record {
  inputs = few_read;
  read = few_taken;
  booted = record {
    planned = few_plan;
    checked = checked1;
    load = normal Plain few_read few_plan checked1 loaded1 told1;
    ends_again = again_of None few_read few_plan checked1 loaded1 told1;
    runs = machine_of None few_read few_plan checked1 loaded1 told1;
    leaves = leaves_of None few_read few_plan checked1 loaded1 told1;
    proves_itself = proves_itself None few_read few_plan checked1 loaded1 told1;
    output = run_file;
    is_memory = run_is;
    put = put;
    said = subst (λ text. Said (g.O.Sink.said o) text (g.O.Sink.said p)) (sym (boot_says checked1 few_plan plan_is sealed told1)) say;
  };
  laid = sealed;
}

pub returns-clause-load_by : goal.returns-clause-load_by
returns-clause-load_by g c = λ a o t p put say. record {
  inputs = few_read;
  read = few_taken;
  loaded = record {
    planned = few_plan;
    checked = checked1;
    load = normal Plain few_read few_plan checked1 loaded1 told1;
    output = loaded_file;
    is_memory = loaded_is;
    read_back = reads_back;
    put = subst (λ bytes. FilesPut (g.S.Shelf.files a) ((codes "o", loaded_file) ∷ (codes "r", bytes) ∷ []) (g.S.Shelf.files t)) (sym (record_is checked1 few_plan plan_is sealed)) put;
    said = subst (λ text. Said (g.O.Sink.said o) text (g.O.Sink.said p)) (sym (load_says checked1 few_plan plan_is sealed told1)) say;
  };
  laid = sealed;
}
