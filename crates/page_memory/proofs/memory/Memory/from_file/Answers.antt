use Rattle.page_memory.specs.inner.Frames.{pages_in}
use Rattle.page_memory.proofs.Spelled.{read_spelled}
use Rattle.page_memory.proofs.memory.Memory.from_file.Goals as goal

pub returns-clause-found : goal.returns-clause-found
returns-clause-found c =
    let bytes = c.args.bytes.items in
    let spelled = rw c.deref.ensures.value at c.in_ok-table.ensures.exact in
    let table = rw c.deref.ensures.value at c.in_ok-table.ensures.table in
    read_spelled bytes (pages_in bytes c.in_ok-table.table.places) table.bytes spelled
