use Rattle.std.proofs.Common.{refl, get_or}
use Rattle.page_memory.specs.File.{is_all_zeros}
use Rattle.page_memory.proofs.Zeros.{zeros_step}
use Rattle.page_memory.proofs.file.has_no_bit.Goals as goal

pub loop-b-preserved : goal.loop-b-preserved
loop-b-preserved c =
    zeros_step c.loop-b.bits c.loop-b.b-index (get_or c.args.bytes.now c.loop-b.b-index 0) c.args.bytes.now (is_all_zeros c.args.bytes.now) c.loop-b-test.true refl c.loop-b.invariant
