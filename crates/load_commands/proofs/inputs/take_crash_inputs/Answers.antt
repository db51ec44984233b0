use Rattle.std.proofs.Common.{rules}
use Rattle.file_commands.proofs.Steps.{start, next, stopped, finished}
use Rattle.load_commands.proofs.inputs.take_crash_inputs.Goals as goal

pub returns-in_err-memory : goal.returns-in_err-memory
returns-in_err-memory g c =
    stopped g.S.Shelf _ _ _ _ _ (search rules) (start g.S.Shelf _ c.args.shelf.now) c.in_err-memory.ensures

pub returns-in_err-map : goal.returns-in_err-map
returns-in_err-map g c =
    let memory = next g.S.Shelf _ _ (start g.S.Shelf _ c.args.shelf.now) c.in_ok-memory.ensures in
    stopped g.S.Shelf _ _ _ _ _ (search rules) memory c.in_err-map.ensures

pub returns-in_err-notes : goal.returns-in_err-notes
returns-in_err-notes g c =
    let memory = next g.S.Shelf _ _ (start g.S.Shelf _ c.args.shelf.now) c.in_ok-memory.ensures in
    let map = next g.S.Shelf _ _ memory c.in_ok-map.ensures in
    stopped g.S.Shelf _ _ _ _ _ (search rules) map c.in_err-notes.ensures

pub returns-in_err-files : goal.returns-in_err-files
returns-in_err-files g c =
    let none = c.new-modules.ensures.items in
    let memory = next g.S.Shelf _ _ (start g.S.Shelf _ c.args.shelf.now) c.in_ok-memory.ensures in
    let map = next g.S.Shelf _ _ memory c.in_ok-map.ensures in
    let notes = next g.S.Shelf _ _ map c.in_ok-notes.ensures in
    stopped g.S.Shelf _ _ _ _ _ (search rules) notes (rw none at c.in_err-files.ensures.takes)

pub returns : goal.returns
returns g c =
    let none = c.new-modules.ensures.items in
    let memory = next g.S.Shelf _ _ (start g.S.Shelf _ c.args.shelf.now) c.in_ok-memory.ensures in
    let map = next g.S.Shelf _ _ memory c.in_ok-map.ensures in
    let notes = next g.S.Shelf _ _ map c.in_ok-notes.ensures in
    let files = next g.S.Shelf _ _ notes (rw none at c.in_ok-files.ensures.takes) in
    rw c.crash_request.ensures (finished g.S.Shelf files)
