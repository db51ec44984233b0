use Rattle.std.proofs.Common.{rules, refl}
use Rattle.resident_planner.specs.declared.fault.PairsFault.TheVariants.{Memory}
use Rattle.file_commands.proofs.Steps.{start, next, stopped}
use Rattle.command_parts.specs.declared.reason.InputFault.TheVariants.{Pairs}
use Rattle.command_parts.proofs.Reading.{IsToldAs, read_as}
use Rattle.load_commands.proofs.files.take_pairs.Goals as goal

pub returns-in_err-bytes : goal.returns-in_err-bytes
returns-in_err-bytes g c = stopped g.S.Shelf _ _ _ _ _ (search rules) (start g.S.Shelf _ c.args.shelf.now) c.in_err-bytes.ensures.takes

pub returns : goal.returns
returns g c =
    let told : IsToldAs Pairs c.read_pairs.result c.map_err.result = search rules in
    let taken = next g.S.Shelf _ _ (start g.S.Shelf _ c.args.shelf.now) c.in_ok-bytes.ensures.takes in
    read_as g.S.Shelf Pairs Memory refl _ _ _ _ taken (rw c.deref.ensures.value at c.read_pairs.ensures) told
