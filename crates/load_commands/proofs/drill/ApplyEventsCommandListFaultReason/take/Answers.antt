use Rattle.std.proofs.Common.{rules}
use Rattle.file_commands.proofs.Steps.{start, next, stopped, finished}
use Rattle.load_commands.proofs.drill.ApplyEventsCommandListFaultReason.take.Goals as goal

pub returns-in_err-memory : goal.returns-in_err-memory
returns-in_err-memory g c =
    stopped g.S.Shelf _ _ _ _ _ (search rules) (start g.S.Shelf _ c.args.shelf.now) c.in_err-memory.ensures

pub returns-in_err-pool : goal.returns-in_err-pool
returns-in_err-pool g c =
    let memory = next g.S.Shelf _ _ (start g.S.Shelf _ c.args.shelf.now) c.in_ok-memory.ensures in
    stopped g.S.Shelf _ _ _ _ _ (search rules) memory c.in_err-pool.ensures.takes

pub returns-in_err-map : goal.returns-in_err-map
returns-in_err-map g c =
    let memory = next g.S.Shelf _ _ (start g.S.Shelf _ c.args.shelf.now) c.in_ok-memory.ensures in
    let pool = next g.S.Shelf _ _ memory c.in_ok-pool.ensures.takes in
    stopped g.S.Shelf _ _ _ _ _ (search rules) pool c.in_err-map.ensures

pub returns-in_err-events : goal.returns-in_err-events
returns-in_err-events g c =
    let memory = next g.S.Shelf _ _ (start g.S.Shelf _ c.args.shelf.now) c.in_ok-memory.ensures in
    let pool = next g.S.Shelf _ _ memory c.in_ok-pool.ensures.takes in
    let map = next g.S.Shelf _ _ pool c.in_ok-map.ensures in
    stopped g.S.Shelf _ _ _ _ _ (search rules) map c.in_err-events.ensures.takes

pub returns : goal.returns
returns g c =
    let memory = next g.S.Shelf _ _ (start g.S.Shelf _ c.args.shelf.now) c.in_ok-memory.ensures in
    let pool = next g.S.Shelf _ _ memory c.in_ok-pool.ensures.takes in
    let map = next g.S.Shelf _ _ pool c.in_ok-map.ensures in
    finished g.S.Shelf (next g.S.Shelf _ _ map c.in_ok-events.ensures.takes)
