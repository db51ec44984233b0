-- By what is read, and by the one list.
use Rattle.std.proofs.Common.{◌≡◌, ◌∙◌, ℕ, List, [], ◌∷◌, ◌++◌, length, map, false, Option, Some, None, refl, sym, ap, subst}
use Rattle.std.specs.Prelude.{codes}
use Rattle.std.specs.Fmt.{digits}
use Rattle.kx_laws.proofs.Results.{ok_same}
use Rattle.kx_edge.specs.Edge.{Said}
use Rattle.kx_edge.specs.declared.edge.Shelf.{Ghosts as Shelf}
use Rattle.kx_edge.specs.declared.edge.Sink.{Ghosts as Sink}
use Rattle.std.specs.List.{flat_map}
use Rattle.kx_pages.specs.declared.image.Mode.TheVariants.{Plain}
use Rattle.segments.specs.Values.{overlay, want}
use Rattle.sha2.specs.Sha256.{compress, digest_bytes, first_words, hash_after, rounds, schedule, sha256}
use Rattle.hex.specs.Hex.{encode_with}
use Rattle.page_memory.specs.Contents.{at}
use Rattle.list_checker.specs.Walk.{links, pairs}
use Rattle.list_checker.specs.Reading.{IsWalk}
use Rattle.list_checker.specs.declared.fault.ListFault.{ListFault}
use Rattle.list_checker.proofs.Unique.{walk_same}
use Rattle.kx_pages.specs.Items.{code}
use Rattle.load_states.specs.Ready.{Told}
use Rattle.load_states.specs.States.{Checked, Load}
use Rattle.relocate_machine.specs.declared.step.Outcome.{Outcome}
use Rattle.relocate_machine.specs.Machine.{State}
use Rattle.relocate_machine.specs.Run.{run_of}
use Rattle.file_commands.specs.Answers.{FilesPut}
use Rattle.file_commands.specs.Taking.{File, Refusal}
use Rattle.kexec_words.specs.Values as words
use Rattle.kexec_main.specs.Call.{HasDone}
use Rattle.list_commands.specs.Check.{HasCheckedLoad}
use Rattle.list_commands.specs.Dump.{HasDumpedLoad, segment_line, walk_text, word_line}
use Rattle.list_commands.specs.Exec.{HasExecutedLoad, load_of}
use Rattle.list_commands.specs.Records.{list_files, load_by}
use Rattle.command_parts.specs.Outputs.{IsFileOf}
use Rattle.command_parts.specs.Runs.{after_runs, checked_with, run_text}
use Rattle.command_parts.specs.Texts.{accepted_line}
use Rattle.list_commands.specs.Trace.{HasTraced, outcome_line}
use Rattle.command_parts.specs.declared.reason.Reason.{Reason}
use Rattle.worked_commands.specs.Dumps.{list_text}
use Rattle.worked_commands.specs.Firsts.{loaded_files}
use Rattle.worked_commands.specs.Inputs.{three_bytes, three_bytes_record}
use Rattle.worked_commands.specs.Lists.{one_move}
use Rattle.worked_commands.specs.Loads.{boot_text}
use Rattle.worked_commands.specs.Memories.{loaded, run_file}
use Rattle.worked_commands.specs.Names.{exec_record, of_record, trace_memory}
use Rattle.worked_commands.proofs.Lists.{accepted, only_list, walk_is}
use Rattle.worked_commands.proofs.Memories.{has_list, loaded_source, one_file, run_is, run_pages_are}
use Rattle.worked_commands.proofs.Stepping.{end_is, whole}
use Rattle.worked_commands.proofs.FirstFiles.{load_read, memory_read}
use Rattle.worked_commands.proofs.firsts.load_is_used.Goals as goal

left : IsFileOf (at (run_of loaded 0x11002 Plain 9).0.memory) run_file
left = subst (λ (r : State × Outcome). IsFileOf (at r.0.memory) run_file) (sym whole) (subst (λ N. IsFileOf N run_file) (sym end_is) run_pages_are)

done_line : outcome_line (run_of loaded 0x11002 Plain 9).1 ≡ codes "done 4\n"
unfolding digits
done_line = ap (λ (r : State × Outcome). outcome_line r.1) whole

accepted_said : accepted_line (length one_move) (length (links one_move)) (length (pairs one_move)) ≡ codes "accepted words 4 links 1 pairs 1\n"
unfolding digits
accepted_said = refl

abbrev list : List ℕ
list = 0x11002 ∷ 0x2001 ∷ 0x12008 ∷ 4 ∷ []

one_walk : (ws : List ℕ) (fault : Option ListFault) → IsWalk (at loaded) 0x11002 ws fault → (ws ≡ list) × (fault ≡ None)
one_walk ws None (is, walk, once, e) = (sym e ∙ ap (map code) (walk_same (at loaded) 0x11002 is one_move walk (walk_is (at loaded) has_list)), refl)
one_walk ws (Some f) h = absurd (h.2 one_move (walk_is (at loaded) has_list) (tt, tt))

dump_said : walk_text list None ++ flat_map segment_line three_bytes ≡ list_text
unfolding digits segment_line word_line encode_with compress digest_bytes first_words hash_after rounds schedule sha256
dump_said = refl

dump_text : (ws : List ℕ) (fault : Option ListFault) → IsWalk (at loaded) 0x11002 ws fault → walk_text ws fault ++ flat_map segment_line three_bytes ≡ list_text
dump_text ws fault h = let k = one_walk ws fault h in (λ i. walk_text (k.0 i) (k.1 i) ++ flat_map segment_line three_bytes) ∙ dump_said

run_said : run_text None (checked_with (load_of (list_files loaded three_bytes_record)) 4 1 ((2, 0x12) ∷ [])) (list_files loaded three_bytes_record).startup ≡ boot_text
unfolding digits
run_said = refl

exec_text : (c : Checked) → c.load ≡ load_of (list_files loaded three_bytes_record) → Told c.load c.words c.links c.pairs → run_text None c (list_files loaded three_bytes_record).startup ≡ boot_text
exec_text c e told =
    let t = subst (λ s. Told s c.words c.links c.pairs) e told in
    let i = only_list (at loaded) has_list loaded_source t.items t.accepted in
    let w : c.words ≡ 4 = sym t.count ∙ ap length i in
    let l : c.links ≡ 1 = sym t.link_pages ∙ ap (λ is. length (links is)) i in
    let q : c.pairs ≡ (2, 0x12) ∷ [] = sym t.same_pairs ∙ ap pairs i in
    (λ j. run_text None (checked_with (e j) (w j) (l j) (q j)) (list_files loaded three_bytes_record).startup) ∙ run_said

exec_output : (c : Checked) (bytes : List ℕ) → c.load ≡ load_of (list_files loaded three_bytes_record) → IsFileOf (after_runs None c) bytes → bytes ≡ run_file
exec_output c bytes e file = one_file (overlay (at loaded) (want three_bytes)) bytes run_file (subst (λ N. IsFileOf N bytes) (ap (λ (s : Load). overlay (at s.memory) (want s.segments)) e) file) run_is

module _ {S O : Type 0} (D : Shelf S) (E : Sink O) (a : S) (o : O) (t : S) (p : O) where
  abbrev Gave : List File → List ℕ → Type 0
  Gave outputs text = FilesPut (D.files a) outputs (D.files t) × Said (E.said o) text (E.said p)

  check : HasDone D E loaded_files a o t p (words.check of_record) → Gave [] (codes "accepted words 4 links 1 pairs 1\n")
  check (x, read, h) =
      let k = subst (λ x. HasCheckedLoad D E a o t p x) (ok_same {F = Refusal Reason} x (load_by loaded three_bytes_record) (sym read ∙ load_read)) h in (
        k.put,
        subst (λ text. Said (E.said o) text (E.said p)) (ap (λ is. accepted_line (length is) (length (links is)) (length (pairs is))) (only_list (at loaded) has_list loaded_source k.items k.accepted) ∙ accepted_said) k.said,
      )

  dump : HasDone D E loaded_files a o t p (words.dump of_record) → Gave [] list_text
  dump (x, read, h) =
      let k = subst (λ x. HasDumpedLoad D E a o t p x) (ok_same {F = Refusal Reason} x (load_by loaded three_bytes_record) (sym read ∙ load_read)) h in
      (k.put, subst (λ text. Said (E.said o) text (E.said p)) (dump_text k.list k.fault k.walk) k.said)

  exec : HasDone D E loaded_files a o t p (words.exec (exec_record false)) → Gave ((codes "x", run_file) ∷ []) boot_text
  exec (x, read, h) =
      let k = subst (λ x. HasExecutedLoad D E a o t p (exec_record false) x) (ok_same {F = Refusal Reason} x (load_by loaded three_bytes_record) (sym read ∙ load_read)) h in (
        subst (λ bytes. FilesPut (D.files a) ((codes "x", bytes) ∷ []) (D.files t)) (exec_output k.checked k.output k.of_files k.is_memory) k.put,
        subst (λ text. Said (E.said o) text (E.said p)) (exec_text k.checked k.of_files k.accepted) k.said,
      )

  trace : HasDone D E loaded_files a o t p (words.trace (trace_memory None)) → Gave ((codes "o", run_file) ∷ []) (codes "done 4\n")
  trace (x, read, h) =
      let k = subst (λ m. HasTraced D E a o t p (trace_memory None) m) (ok_same {F = Refusal Reason} x loaded (sym read ∙ memory_read)) h in (
        subst (λ bytes. FilesPut (D.files a) ((codes "o", bytes) ∷ []) (D.files t)) (one_file (at (run_of loaded 0x11002 Plain 9).0.memory) k.output run_file k.is_memory left) k.put,
        subst (λ text. Said (E.said o) text (E.said p)) done_line k.said,
      )

pub returns-clause-check : goal.returns-clause-check
returns-clause-check g c = λ a o t p h. check g.S.Shelf g.O.Sink a o t p h

pub returns-clause-dump : goal.returns-clause-dump
returns-clause-dump g c = λ a o t p h. dump g.S.Shelf g.O.Sink a o t p h

pub returns-clause-exec : goal.returns-clause-exec
returns-clause-exec g c = λ a o t p h. exec g.S.Shelf g.O.Sink a o t p h

pub returns-clause-trace : goal.returns-clause-trace
returns-clause-trace g c = λ a o t p h. trace g.S.Shelf g.O.Sink a o t p h

pub returns-clause-check_by : goal.returns-clause-check_by
returns-clause-check_by g c = λ a o t p put say. (load_by loaded three_bytes_record, load_read, record { items = one_move; accepted = accepted (at loaded) has_list loaded_source; put = put; said = subst (λ text. Said (g.O.Sink.said o) text (g.O.Sink.said p)) (sym accepted_said) say })

pub returns-clause-trace_by : goal.returns-clause-trace_by
returns-clause-trace_by g c = λ a o t p put say. (
  loaded,
  memory_read,
  record { output = run_file; is_memory = left; put = put; said = subst (λ text. Said (g.O.Sink.said o) text (g.O.Sink.said p)) (sym done_line) say },
)
