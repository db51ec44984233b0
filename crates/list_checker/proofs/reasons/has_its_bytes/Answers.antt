use Rattle.segments.specs.Values.{want}
use Rattle.page_memory.specs.Contents.{at}
use Rattle.list_checker.proofs.Wanted.{wanted_test}
use Rattle.list_checker.proofs.reasons.has_its_bytes.Goals as goal

pub returns-in-Some : goal.returns-in-Some
returns-in-Some c = wanted_test c.equals.result (want c.args.segments.now c.args.d) c.in-Some.bytes.now (at c.args.memory.now c.args.p) c.in-Some.ensures.filled c.equals.ensures
