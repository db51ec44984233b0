-- The one list is told, and its run leaves the one memory.
use Rattle.std.proofs.Common.{◌≡◌, ◌∙◌, ℕ, List, [], ◌∷◌, length, Option, Some, None, false, refl, sym, ap, subst}
use Rattle.std.specs.Prelude.{codes}
use Rattle.page_memory.specs.Contents.{at}
use Rattle.list_checker.specs.Walk.{links, pairs}
use Rattle.list_checker.specs.declared.fault.ListFault.{ListFault}
use Rattle.load_states.specs.Ready.{Told}
use Rattle.load_states.specs.States.{Load}
use Rattle.file_commands.specs.Taking.{File}
use Rattle.segments.specs.Values.{overlay, want}
use Rattle.list_commands.specs.Exec.{RunsFiles, executes_as, load_of}
use Rattle.list_commands.specs.Records.{list_files}
use Rattle.command_parts.specs.Outputs.{IsMemoryFile, IsTooHeavy, Made}
use Rattle.command_parts.specs.Runs.{checked_with, run_text}
use Rattle.command_parts.proofs.Outputs.{has_file}
use Rattle.worked_commands.specs.Execs.{ran_text, run_goods}
use Rattle.worked_commands.specs.Inputs.{three_bytes}
use Rattle.worked_commands.specs.Lists.{one_move, plain_record}
use Rattle.worked_commands.specs.Memories.{loaded, run_file}
use Rattle.worked_commands.proofs.Lists.{accepted, only_list}
use Rattle.worked_commands.proofs.Memories.{has_list, loaded_source, one_file, run_is}
use Rattle.std.specs.Fmt.{digits}
use Rattle.worked_commands.proofs.execs.plain_list_is_run.Goals as goal

told : Told (load_of (list_files loaded plain_record)) 4 1 ((2, 0x12) ∷ [])
told = record {
  items = one_move;
  accepted = accepted (at loaded) has_list loaded_source;
  count = refl;
  link_pages = refl;
  same_pairs = refl;
}

-- what is told of the list is this
text_is : (words links : ℕ) (qs : List (ℕ × ℕ)) → Told (load_of (list_files loaded plain_record)) words links qs → run_text None (checked_with (load_of (list_files loaded plain_record)) words links qs) (list_files loaded plain_record).startup ≡ ran_text
unfolding digits
text_is words ls qs t =
    let i = only_list (at loaded) has_list loaded_source t.items t.accepted in
    let w : words ≡ 4 = sym t.count ∙ ap length i in
    let l : ls ≡ 1 = sym t.link_pages ∙ ap (λ is. length (links is)) i in
    let q : qs ≡ (2, 0x12) ∷ [] = sym t.same_pairs ∙ ap pairs i in
    λ j. run_text None (checked_with (load_of (list_files loaded plain_record)) (w j) (l j) (q j)) (list_files loaded plain_record).startup

output_is : (outputs : List File) → IsMemoryFile outputs (codes "x") (overlay (at loaded) (want three_bytes)) → outputs ≡ (codes "x", run_file) ∷ []
output_is outputs (bytes, e, file) = e ∙ ap (λ bytes. (codes "x", bytes) ∷ []) (one_file (overlay (at loaded) (want three_bytes)) bytes run_file file run_is)

alone : (goods : Made) (f : Option ListFault) → goods.fault ≡ f → executes_as (list_files loaded plain_record) false (codes "x") goods f → goods ≡ run_goods
alone goods None e (words, ls, qs, t, text, fault, output) =
    let is = text ∙ text_is words ls qs t in
    let out = output_is goods.outputs output in
    λ j. record { outputs = out j; text = is j; fault = e j }
alone goods (Some f) e h = absurd (h.0.1 one_move (accepted (at loaded) has_list loaded_source))

runs : RunsFiles (list_files loaded plain_record) false (codes "x") run_goods
unfolding digits
runs = (4, 1, (2, 0x12) ∷ [], told, refl, refl, (run_file, refl, run_is))

pub returns-clause-made : goal.returns-clause-made
unfolding digits
returns-clause-made c = (refl, runs)

pub returns-clause-nothing_else : goal.returns-clause-nothing_else
unfolding digits
returns-clause-nothing_else c = λ goods h. alone goods goods.fault refl h.1

pub returns-clause-can : goal.returns-clause-can
unfolding digits
returns-clause-can c = record {
  items = one_move;
  accepted = accepted (at loaded) has_list loaded_source;
  kept = refl;
  light = λ c n of t h. has_file (overlay (at loaded) (want three_bytes)) run_file n run_is
      (subst (λ N. IsTooHeavy N n) (ap (λ (s : Load). overlay (at s.memory) (want s.segments)) of) h);
}
