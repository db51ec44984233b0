-- By computing; of RAM by comparing numbers.
use Rattle.std.proofs.Common.{◌≡◌, ℕ, true, false, refl, arith}
use Rattle.std.specs.Fmt.{digits}
use Rattle.std.proofs.lemmas.Bool.Decides.{nat_tests}
use Rattle.kx_pages.specs.Bytes.{page_of}
use Rattle.kx_pages.specs.Spans.{in_spans}
use Rattle.memory_map.specs.Maps.{is_ram}
use Rattle.segments.specs.Rules.{refusal, shape_refusal}
use Rattle.load_commands.specs.Replies.{reply_line}
use Rattle.worked_commands.specs.Events.{small_ram, small_runs}
use Rattle.worked_commands.proofs.drills.events_have_replies.Goals as goal

ram_at : (p : ℕ) → in_spans small_runs p ≡ is_ram small_ram p
ram_at p = grind (arith, nat_tests)

pub returns-clause-replies : goal.returns-clause-replies
unfolding page_of refusal shape_refusal reply_line digits
returns-clause-replies c = refl

pub returns-clause-no_events : goal.returns-clause-no_events
unfolding page_of refusal shape_refusal reply_line digits
returns-clause-no_events c = refl

pub returns-clause-memory : goal.returns-clause-memory
unfolding page_of refusal shape_refusal reply_line digits
returns-clause-memory c = refl

pub returns-clause-ram : goal.returns-clause-ram
returns-clause-ram c = record { apart = (omega arith, omega arith, omega arith, tt); pages = ram_at }

pub returns-clause-less_ram : goal.returns-clause-less_ram
returns-clause-less_ram c = λ h. let e : false ≡ true = h.pages 0xff in cc
