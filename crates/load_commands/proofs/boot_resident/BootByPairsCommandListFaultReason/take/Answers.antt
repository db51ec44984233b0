use Rattle.std.proofs.Common.{rules}
use Rattle.file_commands.proofs.Steps.{start, next, stopped, finished}
use Rattle.load_commands.proofs.boot_resident.BootByPairsCommandListFaultReason.take.Goals as goal

pub returns-in_err-load : goal.returns-in_err-load
returns-in_err-load g c =
    stopped g.S.Shelf _ _ _ _ _ (search rules) (start g.S.Shelf _ c.args.shelf.now) c.in_err-load.ensures

pub returns-in_err-pairs : goal.returns-in_err-pairs
returns-in_err-pairs g c =
    stopped g.S.Shelf _ _ _ _ _ (search rules) (next g.S.Shelf _ _ (start g.S.Shelf _ c.args.shelf.now) c.in_ok-load.ensures) c.in_err-pairs.ensures

pub returns : goal.returns
returns g c =
    finished g.S.Shelf (next g.S.Shelf _ _ (next g.S.Shelf _ _ (start g.S.Shelf _ c.args.shelf.now) c.in_ok-load.ensures) c.in_ok-pairs.ensures)
