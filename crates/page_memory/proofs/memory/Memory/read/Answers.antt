use Rattle.std.proofs.Common.{arith}
use Rattle.page_memory.specs.inner.Frames.{pages_in}
use Rattle.page_memory.proofs.Spelled.{read_spelled}
use Rattle.page_memory.proofs.memory.Memory.read.Goals as goal

pub returns-clause-found : goal.returns-clause-found
returns-clause-found c =
    let spelled = read_spelled c.args.bytes.now (pages_in c.args.bytes.now c.in_ok-table.table.places) (λ i. omega (arith, c.type_inv.bytes i)) c.in_ok-table.ensures.exact in
    rw c.in_ok-frames.ensures spelled
