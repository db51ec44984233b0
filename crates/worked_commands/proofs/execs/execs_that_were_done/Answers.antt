-- By the one list and the one file.
use Rattle.std.proofs.Common.{◌≡◌, ◌∙◌, ℕ, List, [], ◌∷◌, length, None, sym, ap, subst}
use Rattle.std.specs.Prelude.{codes}
use Rattle.kx_edge.specs.Edge.{Said}
use Rattle.page_memory.specs.Contents.{at}
use Rattle.list_checker.specs.Walk.{links, pairs}
use Rattle.load_states.specs.Ready.{Told}
use Rattle.load_states.specs.States.{Checked, Load}
use Rattle.file_commands.specs.Answers.{FilesPut}
use Rattle.segments.specs.Values.{overlay, want}
use Rattle.list_commands.specs.Exec.{load_of}
use Rattle.list_commands.specs.Records.{list_files}
use Rattle.command_parts.specs.Outputs.{IsFileOf}
use Rattle.command_parts.specs.Runs.{after_runs, checked_with, run_text}
use Rattle.worked_commands.specs.Execs.{ran_text}
use Rattle.worked_commands.specs.Inputs.{three_bytes}
use Rattle.worked_commands.specs.Lists.{plain_record}
use Rattle.worked_commands.specs.Memories.{loaded, run_file}
use Rattle.worked_commands.proofs.Lists.{only_list}
use Rattle.worked_commands.proofs.Memories.{has_list, loaded_source, one_file, run_is}
use Rattle.std.specs.Fmt.{digits}
use Rattle.worked_commands.proofs.execs.execs_that_were_done.Goals as goal

-- what is told of the list is this
text_is : (c : Checked) → c.load ≡ load_of (list_files loaded plain_record) → Told c.load c.words c.links c.pairs → run_text None c (list_files loaded plain_record).startup ≡ ran_text
unfolding digits
text_is c e told =
    let t = subst (λ s. Told s c.words c.links c.pairs) e told in
    let i = only_list (at loaded) has_list loaded_source t.items t.accepted in
    let w : c.words ≡ 4 = sym t.count ∙ ap length i in
    let l : c.links ≡ 1 = sym t.link_pages ∙ ap (λ is. length (links is)) i in
    let q : c.pairs ≡ (2, 0x12) ∷ [] = sym t.same_pairs ∙ ap pairs i in
    λ j. run_text None (checked_with (e j) (w j) (l j) (q j)) (list_files loaded plain_record).startup

output_is : (c : Checked) (bytes : List ℕ) → c.load ≡ load_of (list_files loaded plain_record) → IsFileOf (after_runs None c) bytes → bytes ≡ run_file
output_is c bytes e file = one_file (overlay (at loaded) (want three_bytes)) bytes run_file (subst (λ N. IsFileOf N bytes) (ap (λ (s : Load). overlay (at s.memory) (want s.segments)) e) file) run_is

pub returns-clause-list : goal.returns-clause-list
unfolding digits
returns-clause-list g c = λ a o t p h. (
  subst (λ bytes. FilesPut (g.S.Shelf.files a) ((codes "x", bytes) ∷ []) (g.S.Shelf.files t)) (output_is h.checked h.output h.of_files h.is_memory) h.put,
  subst (λ text. Said (g.O.Sink.said o) text (g.O.Sink.said p)) (text_is h.checked h.of_files h.accepted) h.said,
)

pub returns-clause-crash : goal.returns-clause-crash
unfolding digits
returns-clause-crash g c = λ m bytes file a o t p h. (
  subst (λ bytes. FilesPut (g.S.Shelf.files a) ((codes "x", bytes) ∷ []) (g.S.Shelf.files t)) (one_file (at m) h.output bytes h.is_memory file) h.put,
  h.said,
)
