use Rattle.std.proofs.Common.{rules, refl}
use Rattle.page_memory.specs.declared.fault.MemFault.TheVariants.{Memory}
use Rattle.file_commands.proofs.Steps.{start, next, stopped}
use Rattle.command_parts.specs.declared.reason.InputFault.TheVariants.{Mem}
use Rattle.command_parts.proofs.Reading.{IsToldAs, read_as}
use Rattle.command_parts.proofs.files.take_memory.Goals as goal

pub returns-in_err-bytes : goal.returns-in_err-bytes
returns-in_err-bytes g c = stopped g.S.Shelf _ _ _ _ _ (search rules) (start g.S.Shelf _ c.args.shelf.now) c.in_err-bytes.ensures.takes

pub returns : goal.returns
returns g c =
    let told : IsToldAs Mem c.from_file.result c.map_err.result = search rules in
    let taken = next g.S.Shelf _ _ (start g.S.Shelf _ c.args.shelf.now) c.in_ok-bytes.ensures.takes in
    read_as g.S.Shelf Mem Memory refl (λ m. m) _ _ _ taken c.from_file.ensures.exact told
