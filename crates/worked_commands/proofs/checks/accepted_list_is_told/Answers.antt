-- The list is accepted, and no other one.
use Rattle.std.proofs.Common.{◌≡◌, ◌∙◌, length, Option, Some, None, refl, ap}
use Rattle.std.specs.Prelude.{codes}
use Rattle.page_memory.specs.Contents.{Contents, at}
use Rattle.list_checker.specs.Walk.{links, pairs}
use Rattle.list_checker.specs.declared.fault.ListFault.{ListFault}
use Rattle.list_commands.specs.Check.{checks_list_as}
use Rattle.list_commands.specs.Dump.{lines_of}
use Rattle.list_commands.specs.Records.{list_files}
use Rattle.command_parts.specs.Outputs.{Made}
use Rattle.command_parts.specs.Texts.{accepted_line}
use Rattle.worked_commands.specs.Lists.{HasList, HasSource, one_move, plain_record}
use Rattle.worked_commands.proofs.Lists.{accepted, only_list}
use Rattle.std.specs.Fmt.{digits}
use Rattle.worked_commands.proofs.checks.accepted_list_is_told.Goals as goal

alone : (m : Contents) (goods : Made) → HasList m → HasSource m (codes "abc") → (f : Option ListFault) → goods.fault ≡ f → checks_list_as (list_files m plain_record) goods f → goods ≡ lines_of (codes "accepted words 4 links 1 pairs 1\n")
unfolding digits
alone m goods w s None e line =
    let i = only_list (at m) w s line.items line.accepted in
    let text : goods.text ≡ codes "accepted words 4 links 1 pairs 1\n" = line.text ∙ ap (λ is. accepted_line (length is) (length (links is)) (length (pairs is))) i in
    λ j. record { outputs = line.outputs j; text = text j; fault = e j }
alone m goods w s (Some f) e h = absurd (h.0.1 one_move (accepted (at m) w s))

pub returns-clause-accepted : goal.returns-clause-accepted
unfolding digits
returns-clause-accepted c = λ m w s. (one_move, accepted (at m) w s)

pub returns-clause-told : goal.returns-clause-told
unfolding digits
returns-clause-told c = λ m w s. record { items = one_move; accepted = accepted (at m) w s; text = refl; outputs = refl }

pub returns-clause-nothing_else : goal.returns-clause-nothing_else
unfolding digits
returns-clause-nothing_else c = λ m goods w s h. alone m goods w s goods.fault refl h

pub returns-clause-not_refused : goal.returns-clause-not_refused
unfolding digits
returns-clause-not_refused c = λ m why h. h
