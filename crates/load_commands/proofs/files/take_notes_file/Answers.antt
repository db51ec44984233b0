use Rattle.std.proofs.Common.{rules, refl}
use Rattle.crash_headers.specs.declared.fault.NoteFault.TheVariants.{Memory}
use Rattle.file_commands.proofs.Steps.{start, next, stopped}
use Rattle.command_parts.specs.declared.reason.InputFault.TheVariants.{Notes}
use Rattle.command_parts.proofs.Reading.{IsToldAs, read_as}
use Rattle.load_commands.proofs.files.take_notes_file.Goals as goal

pub returns-in_err-bytes : goal.returns-in_err-bytes
returns-in_err-bytes g c = stopped g.S.Shelf _ _ _ _ _ (search rules) (start g.S.Shelf _ c.args.shelf.now) c.in_err-bytes.ensures.takes

pub returns : goal.returns
returns g c =
    let told : IsToldAs Notes c.read_notes.result c.map_err.result = search rules in
    let taken = next g.S.Shelf _ _ (start g.S.Shelf _ c.args.shelf.now) c.in_ok-bytes.ensures.takes in
    read_as g.S.Shelf Notes Memory refl _ _ _ _ taken (rw c.deref.ensures.value at c.read_notes.ensures) told
