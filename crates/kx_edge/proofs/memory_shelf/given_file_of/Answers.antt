use Rattle.std.proofs.Common.{ap, sym, ◌∙◌, arith}
use Rattle.std.proofs.Math.ListN.{drop_of_length-le}
use Rattle.std.specs.Ordering.{nat_cmp}
use Rattle.std.specs.Cmp.Lexicographic.{slice_cmp}
use Rattle.std.specs.FinMap.{get, get-empty}
use Rattle.std.proofs.Common.{Some}
use Rattle.kx_edge.specs.inner.Rooms.{given_files}
use Rattle.kx_edge.proofs.Names.{same_name, other_name}
use Rattle.kx_edge.proofs.Slots.{given_step, given_here}
use Rattle.kx_edge.proofs.memory_shelf.given_file_of.Goals as goal

pub returns-then-eq : goal.returns-then-eq
returns-then-eq c =
    ap Some c.deref.ensures.value
    ∙ sym (c.loop-file.invariant ∙ given_here c.args.given.now c.loop-file.file-index c.file-item.result c.args.name.now (omega arith) c.file-item.is (same_name _ _ _ _ c.as_str.ensures.value c.eq.ensures c.if-eq.true))

pub loop-file-preserved : goal.loop-file-preserved
loop-file-preserved c =
    c.loop-file.invariant ∙ given_step c.args.given.now c.loop-file.file-index c.file-item.result c.args.name.now (omega arith) c.file-item.is (other_name _ _ _ _ c.as_str.ensures.value c.eq.ensures c.if-eq.false)

pub returns : goal.returns
returns c = sym (c.loop-file.invariant ∙ ap (λ l. get (given_files l) c.args.name.now) (drop_of_length-le c.args.given.now {i = c.loop-file.file-index} (omega arith)) ∙ get-empty (slice_cmp nat_cmp) c.args.name.now)
