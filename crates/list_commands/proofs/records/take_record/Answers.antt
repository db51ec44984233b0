use Rattle.std.proofs.Common.{rules, refl}
use Rattle.load_record.specs.declared.fault.RecFault.TheVariants.{Memory}
use Rattle.file_commands.proofs.Steps.{start, next, stopped}
use Rattle.command_parts.specs.declared.reason.InputFault.TheVariants.{Rec}
use Rattle.command_parts.proofs.Reading.{IsToldAs, read_as}
use Rattle.list_commands.proofs.records.take_record.Goals as goal

pub returns-in_err-front : goal.returns-in_err-front
returns-in_err-front g c = stopped g.S.Shelf _ _ _ _ _ (search rules) (start g.S.Shelf _ c.args.shelf.now) c.in_err-front.ensures.takes

pub returns : goal.returns
returns g c =
    let told : IsToldAs Rec c.from_file-read.result c.map_err.result = search rules in
    let taken = next g.S.Shelf _ _ (start g.S.Shelf _ c.args.shelf.now) c.in_ok-front.ensures.takes in
    read_as g.S.Shelf Rec Memory refl _ _ _ _ taken (rw c.deref.ensures.value at c.from_file-read.ensures.exact) told
