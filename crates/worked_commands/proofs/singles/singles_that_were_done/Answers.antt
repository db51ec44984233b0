-- By the one core, the one file of the record, and step after step.
use Rattle.std.proofs.Common.{◌≡◌, ◌∙◌, ℕ, List, [], ◌∷◌, Ok, refl, sym, ap, subst}
use Rattle.std.specs.Prelude.{codes}
use Rattle.std.specs.Fmt.{digits}
use Rattle.kx_laws.proofs.Results.{ok_same}
use Rattle.kx_edge.specs.Edge.{Said}
use Rattle.kx_pages.specs.declared.image.Mode.TheVariants.{Plain}
use Rattle.page_memory.specs.Contents.{Contents, at}
use Rattle.relocate_machine.specs.declared.step.Outcome.{Outcome}
use Rattle.relocate_machine.specs.declared.step.Outcome.TheVariants as outcomes
use Rattle.relocate_machine.specs.Machine.{State}
use Rattle.relocate_machine.specs.Run.{run_of}
use Rattle.vmcore_file.specs.File.{CoreValue, core_reading}
use Rattle.vmcore_file.specs.declared.fault.CoreFault.{CoreFault}
use Rattle.file_commands.specs.Answers.{FilesPut}
use Rattle.load_commands.specs.CoreFile.{core_line}
use Rattle.command_parts.specs.Outputs.{IsReadBack, IsFileOf}
use Rattle.list_commands.specs.Migrate.{segments_line}
use Rattle.list_commands.specs.Trace.{outcome_line}
use Rattle.kx_fields.specs.Fields.{field, with_field, zeros}
use Rattle.load_record.specs.File.{read_head, read_segments, record_file, record_reading, record_text, segment_at, segment_text, tested_head, tested_segments}
use Rattle.load_record.specs.Head.{head_fault, head_text}
use Rattle.segments.specs.Rules.{bare_refusal, shape_refusal}
use Rattle.sha2.specs.Sha256.{compress, digest_bytes, first_words, hash_after, rounds, schedule, sha256}
use Rattle.worked_commands.specs.Inputs.{three_bytes_file, three_bytes_record}
use Rattle.worked_commands.specs.Memories.{loaded, run_file}
use Rattle.worked_commands.specs.Singles.{one_output, trace_makes}
use Rattle.worked_commands.specs.Texts.{core_of_five}
use Rattle.worked_commands.proofs.Memories.{one_file, run_pages_are}
use Rattle.worked_commands.proofs.Stepping.{at_end, end_is, whole}
use Rattle.worked_commands.proofs.singles.singles_that_were_done.Goals as goal

line_is : core_line core_of_five ≡ codes "core loads 2 notes 344 bytes 5\n"
unfolding digits
line_is = refl

one_core : (m : Contents) (core : CoreValue) → core_reading (at m) 0x3000 ≡ Ok core_of_five → core_reading (at m) 0x3000 ≡ Ok core → core ≡ core_of_five
one_core m core e f = ok_same {F = CoreFault} core core_of_five (sym f ∙ e)

bytes_are : record_file three_bytes_record ≡ three_bytes_file
unfolding record_text record_reading tested_head read_head segment_at segment_text read_segments tested_segments head_text head_fault bare_refusal shape_refusal field with_field zeros compress digest_bytes first_words hash_after rounds schedule sha256
bytes_are = refl

reads_back : IsReadBack three_bytes_record
unfolding record_text record_reading tested_head read_head segment_at segment_text read_segments tested_segments head_text head_fault bare_refusal shape_refusal field with_field zeros compress digest_bytes first_words hash_after rounds schedule sha256
reads_back = refl

segments_is : segments_line 1 ≡ codes "record segments 1\n"
unfolding digits
segments_is = refl

done_line : outcome_line (outcomes.Done 4) ≡ codes "done 4\n"
unfolding digits
done_line = refl

running_line : outcome_line (outcomes.Running 2) ≡ codes "running 2\n"
unfolding digits
running_line = refl

off_line : outcome_line (outcomes.Off 0x4000_0000_0000 1) ≡ codes "off 400000000000 after 1\n"
unfolding digits
off_line = refl

-- the memory that a run leaves has this file
left : (m : Contents) (head limit : ℕ) (t : State) (how : Outcome) (bytes : List ℕ) → run_of m head Plain limit ≡ (t, how) → IsFileOf (at t.memory) bytes → IsFileOf (at (run_of m head Plain limit).0.memory) bytes
left m head limit t how bytes e file = subst (λ (r : State × Outcome). IsFileOf (at r.0.memory) bytes) (sym e) file

made : (m : Contents) (head limit : ℕ) (t : State) (how : Outcome) (bytes line : List ℕ) → run_of m head Plain limit ≡ (t, how) → IsFileOf (at t.memory) bytes → outcome_line how ≡ line → trace_makes head limit m (Ok (one_output bytes line))
made m head limit t how bytes line e file said = (sym said ∙ ap (λ (r : State × Outcome). outcome_line r.1) (sym e), refl, (bytes, refl, left m head limit t how bytes e file))

at_run : IsFileOf (at at_end.memory) run_file
at_run = subst (λ N. IsFileOf N run_file) (sym end_is) run_pages_are

pub returns-clause-core : goal.returns-clause-core
returns-clause-core g c = λ m e a o t p h. (
  subst (λ (core : CoreValue). FilesPut (g.S.Shelf.files a) ((codes "o", core.bytes) ∷ []) (g.S.Shelf.files t)) (one_core m h.made e h.is_core) h.put,
  subst (λ text. Said (g.O.Sink.said o) text (g.O.Sink.said p)) (ap core_line (one_core m h.made e h.is_core) ∙ line_is) h.said,
)

pub returns-clause-core_by : goal.returns-clause-core_by
returns-clause-core_by g c = λ m e a o t p put say. record { made = core_of_five; is_core = e; put = put; said = subst (λ text. Said (g.O.Sink.said o) text (g.O.Sink.said p)) (sym line_is) say }

pub returns-clause-migrate : goal.returns-clause-migrate
returns-clause-migrate g c = λ a o t p h. (
  subst (λ bytes. FilesPut (g.S.Shelf.files a) ((codes "o", bytes) ∷ []) (g.S.Shelf.files t)) bytes_are h.put,
  subst (λ text. Said (g.O.Sink.said o) text (g.O.Sink.said p)) segments_is h.said,
)

pub returns-clause-migrate_by : goal.returns-clause-migrate_by
returns-clause-migrate_by g c = λ a o t p put say. record {
  read_back = reads_back;
  put = subst (λ bytes. FilesPut (g.S.Shelf.files a) ((codes "o", bytes) ∷ []) (g.S.Shelf.files t)) (sym bytes_are) put;
  said = subst (λ text. Said (g.O.Sink.said o) text (g.O.Sink.said p)) (sym segments_is) say;
}

pub returns-clause-trace : goal.returns-clause-trace
returns-clause-trace g c = λ a o t p h. (
  subst (λ bytes. FilesPut (g.S.Shelf.files a) ((codes "o", bytes) ∷ []) (g.S.Shelf.files t)) (one_file (at (run_of loaded 0x11002 Plain 9).0.memory) h.output run_file h.is_memory (left loaded 0x11002 9 at_end (outcomes.Done 4) run_file whole at_run)) h.put,
  subst (λ text. Said (g.O.Sink.said o) text (g.O.Sink.said p)) (ap (λ (r : State × Outcome). outcome_line r.1) whole ∙ done_line) h.said,
)

pub returns-clause-trace_by : goal.returns-clause-trace_by
returns-clause-trace_by g c = λ a o t p put say. record {
  output = run_file;
  is_memory = left loaded 0x11002 9 at_end (outcomes.Done 4) run_file whole at_run;
  put = put;
  said = subst (λ text. Said (g.O.Sink.said o) text (g.O.Sink.said p)) (sym (ap (λ (r : State × Outcome). outcome_line r.1) whole ∙ done_line)) say;
}
