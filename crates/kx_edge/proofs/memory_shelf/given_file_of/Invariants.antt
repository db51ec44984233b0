use Rattle.std.proofs.Common.{◌≡◌, drop}
use Rattle.std.specs.FinMap.{get}
use Rattle.kx_edge.specs.inner.Rooms.{given_files}
use Rattle.kx_edge.proofs.memory_shelf.given_file_of.Given as goal

abbrev pub invariant-loop-file : goal.invariant-loop-file
invariant-loop-file l = get (given_files l.given) l.name ≡ get (given_files (drop l.file-index l.given)) l.name
