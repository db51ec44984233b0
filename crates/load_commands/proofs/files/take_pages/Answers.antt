use Rattle.std.proofs.Common.{rules, refl}
use Rattle.page_pool.specs.declared.fault.PoolFault.TheVariants.{Memory}
use Rattle.file_commands.proofs.Steps.{start, next, stopped}
use Rattle.command_parts.specs.declared.reason.InputFault.TheVariants.{Pool}
use Rattle.command_parts.proofs.Reading.{IsToldAs, read_as}
use Rattle.load_commands.proofs.files.take_pages.Goals as goal

pub returns-in_err-bytes-clause-takes : goal.returns-in_err-bytes-clause-takes
returns-in_err-bytes-clause-takes g c = stopped g.S.Shelf _ _ _ _ _ (search rules) (start g.S.Shelf _ c.args.shelf.now) c.in_err-bytes.ensures.takes

pub returns-clause-takes : goal.returns-clause-takes
returns-clause-takes g c =
    let told : IsToldAs Pool c.read.result c.map_err.result = search rules in
    let taken = next g.S.Shelf _ _ (start g.S.Shelf _ c.args.shelf.now) c.in_ok-bytes.ensures.takes in
    read_as g.S.Shelf Pool Memory refl _ _ _ _ taken (rw c.deref.ensures.value at c.read.ensures.exact) told
