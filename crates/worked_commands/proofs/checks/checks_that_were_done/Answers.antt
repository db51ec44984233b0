-- By the one list.
use Rattle.std.proofs.Common.{length, refl, subst}
use Rattle.kx_edge.specs.Edge.{Said}
use Rattle.page_memory.specs.Contents.{at}
use Rattle.list_checker.specs.Walk.{links, pairs}
use Rattle.command_parts.specs.Texts.{accepted_line}
use Rattle.worked_commands.specs.Lists.{one_move}
use Rattle.worked_commands.proofs.Lists.{accepted, in_place, only_list}
use Rattle.std.specs.Fmt.{digits}
use Rattle.worked_commands.proofs.checks.checks_that_were_done.Goals as goal

pub returns-clause-list : goal.returns-clause-list
unfolding digits
returns-clause-list g c = λ m w source a o t p h. (
  h.put,
  subst (λ is. Said (g.O.Sink.said o) (accepted_line (length is) (length (links is)) (length (pairs is))) (g.O.Sink.said p)) (only_list (at m) w source h.items h.accepted) h.said,
)

pub returns-clause-list_by : goal.returns-clause-list_by
unfolding digits
returns-clause-list_by g c = λ m w source a o t p put said. record { items = one_move; accepted = accepted (at m) w source; put = put; said = said }

pub returns-clause-crash : goal.returns-clause-crash
unfolding digits
returns-clause-crash g c = λ m a o t p h. (h.put, h.said)

pub returns-clause-crash_by : goal.returns-clause-crash_by
unfolding digits
returns-clause-crash_by g c = λ m e a o t p put said. record { accepted = record { done = refl; there = in_place (at m) e }; put = put; said = said }
