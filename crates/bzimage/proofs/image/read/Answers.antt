use Rattle.std.proofs.Common.{sym, inl}
use Rattle.bzimage.proofs.Reading.{fails, reads, sound}
use Rattle.bzimage.proofs.image.read.Goals as goal

pub returns-in-Err-clause-exact : goal.returns-in-Err-clause-exact
returns-in-Err-clause-exact c = inl (fails c.args.bytes.now c.in-Err.fault (sym c.in-Err.ensures.value))

pub returns-clause-exact : goal.returns-clause-exact
returns-clause-exact c =
    reads c.args.bytes.now c.in_ok-header.header.items c.in-Ok.setup c.kernel.result (sym c.in-Ok.ensures.value) (rw c.end.ensures at c.in_ok-header.ensures.items) c.kernel.ensures.value

pub returns-clause-sound : goal.returns-clause-sound
returns-clause-sound c =
    sound c.args.bytes.now c.in_ok-header.header.items c.in-Ok.setup c.kernel.result c.in-Ok.ensures.tested (rw c.end.ensures at c.in_ok-header.ensures.items) c.kernel.ensures.value c.kernel.ensures.numbers
