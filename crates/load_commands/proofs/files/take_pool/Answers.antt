use Rattle.std.proofs.Common.{rules}
use Rattle.file_commands.proofs.Steps.{start, next, stopped, finished}
use Rattle.load_commands.proofs.files.take_pool.Goals as goal

pub returns-in_err-pool-clause-takes : goal.returns-in_err-pool-clause-takes
returns-in_err-pool-clause-takes g c =
    stopped g.S.Shelf _ _ _ _ _ (search rules) (start g.S.Shelf _ c.args.shelf.now) c.in_err-pool.ensures.takes

pub returns-clause-takes : goal.returns-clause-takes
returns-clause-takes g c =
    rw c.with_limit.ensures.usable (finished g.S.Shelf (next g.S.Shelf _ _ (start g.S.Shelf _ c.args.shelf.now) c.in_ok-pool.ensures.takes))
