-- RAM is said in one way, and then by computing.
use Rattle.std.proofs.Common.{◌≡◌, ◌∙◌, ℕ, List, [], ◌∷◌, Option, Some, None, refl, sym, ap, subst, arith}
use Rattle.std.specs.Prelude.{codes}
use Rattle.std.specs.Fmt.{digits}
use Rattle.std.proofs.lemmas.Bool.Decides.{nat_tests}
use Rattle.kx_pages.specs.Bytes.{page_of}
use Rattle.kx_pages.specs.Spans.{in_spans}
use Rattle.memory_map.specs.Maps.{is_ram}
use Rattle.segments.specs.Rules.{refusal, shape_refusal}
use Rattle.load_commands.specs.Drill.{AreRam, first_meeting, drill_text}
use Rattle.load_commands.specs.Replies.{reply_line}
use Rattle.worked_commands.specs.Events.{drill_of, reserved_ram, small_ram, small_runs}
use Rattle.kx_edge.specs.Edge.{Said}
use Rattle.kx_pages.specs.Spans.{Run}
use Rattle.kx_pages.proofs.Same.{same_spans}
use Rattle.command_parts.proofs.Outputs.{has_file}
use Rattle.file_commands.specs.Answers.{FilesPut}
use Rattle.page_memory.specs.Contents.{at}
use Rattle.worked_commands.specs.Events.{first_events, first_replies}
use Rattle.worked_commands.specs.Inputs.{no_pages_file}
use Rattle.worked_commands.specs.Texts.{no_memory}
use Rattle.worked_commands.proofs.Memories.{no_pages_are, one_file}
use Rattle.worked_commands.proofs.drills.events_that_were_done.Goals as goal

ram_at : (p : ℕ) → in_spans small_runs p ≡ is_ram small_ram p
ram_at p = grind (arith, nat_tests)

are_ram : AreRam small_ram small_runs
are_ram = record { apart = (omega arith, omega arith, omega arith, tt); pages = ram_at }

one_ram : (ram : List Run) → AreRam small_ram ram → ram ≡ small_runs
one_ram ram h = same_spans 0 0 ram small_runs h.apart are_ram.apart (λ q. h.pages q ∙ sym (ram_at q))

replies : drill_text (drill_of (0x10 ∷ 0x11 ∷ 0x12 ∷ 0x13 ∷ []) small_ram first_events) small_runs ≡ first_replies
unfolding page_of refusal shape_refusal reply_line digits
replies = refl

meets : first_meeting (drill_of (0x12 ∷ []) reserved_ram []) ≡ None → ⊥
meets e = let f : ◌≡◌ {A = Option ℕ} (Some 0x12) None = e in cc

pub returns-clause-replies : goal.returns-clause-replies
returns-clause-replies g c = λ a o t p h. subst (λ text. Said (g.O.Sink.said o) text (g.O.Sink.said p)) (ap (drill_text (drill_of (0x10 ∷ 0x11 ∷ 0x12 ∷ 0x13 ∷ []) small_ram first_events)) (one_ram h.ram h.are_ram) ∙ replies) h.said

pub returns-clause-no_events : goal.returns-clause-no_events
returns-clause-no_events g c = λ a o t p h. (subst (λ bytes. FilesPut (g.S.Shelf.files a) ((codes "o", bytes) ∷ []) (g.S.Shelf.files t)) (one_file (at no_memory) h.output no_pages_file h.is_memory no_pages_are) h.put, h.said)

pub returns-clause-meets_the_area : goal.returns-clause-meets_the_area
returns-clause-meets_the_area g c = λ a o t p h. meets h.apart

pub returns-clause-can : goal.returns-clause-can
returns-clause-can g c = record { ram = small_runs; are_ram = are_ram; apart = refl; light = λ n h. has_file (at no_memory) no_pages_file n no_pages_are h }

pub returns-clause-cannot : goal.returns-clause-cannot
returns-clause-cannot g c = λ h. meets h.apart
