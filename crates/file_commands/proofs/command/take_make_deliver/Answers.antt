use Rattle.std.proofs.Common.{rules, ◌≡◌}
use Rattle.file_commands.specs.Answers.{command_of}
use Rattle.file_commands.specs.inner.Calls.{call_answer, make_answer, take_answer}
use Rattle.file_commands.proofs.Meeting.{meets_untaken, meets_unmade, meets_delivered}
use Rattle.file_commands.proofs.command.take_make_deliver.Goals as goal

pub returns-in_err-taken : goal.returns-in_err-taken
returns-in_err-taken g c =
    let e : call_answer c.from_residual.result ≡ take_answer c.in_err-taken.field-0.0 = search rules in
    meets_untaken g.S.Shelf g.O.Sink (command_of (g.C.Command.takes c.args.names) (g.C.Command.makes c.args.command)) _ _ g.C.Command.inputs _ _ c.in_err-taken.field-0.0 e c.in_err-taken.ensures

pub returns-in_err-goods : goal.returns-in_err-goods
returns-in_err-goods g c =
    let e : call_answer c.from_residual-in_err-goods.result ≡ make_answer c.in_err-goods.field-0.0 = search rules in
    meets_unmade g.S.Shelf g.O.Sink (command_of (g.C.Command.takes c.args.names) (g.C.Command.makes c.args.command)) _ _ (g.C.Command.inputs c.in_ok-taken.taken) _ _ _ e c.in_ok-taken.ensures c.in_err-goods.ensures

pub returns : goal.returns
returns g c =
    meets_delivered g.S.Shelf g.O.Sink (command_of (g.C.Command.takes c.args.names) (g.C.Command.makes c.args.command)) _ _ (g.C.Command.inputs c.in_ok-taken.taken) _ _ _ c.in_ok-goods.goods _ c.in_ok-taken.ensures c.in_ok-goods.ensures c.deliver.ensures
