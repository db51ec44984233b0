use Rattle.std.proofs.Common.{sym}
use Rattle.bzimage.proofs.Reading.{no_fault_is_tested}
use Rattle.bzimage.proofs.setup_header.SetupHeader.tested_header.Goals as goal

pub returns-in-Ok-test-clause-tested : goal.returns-in-Ok-test-clause-tested
returns-in-Ok-test-clause-tested c = no_fault_is_tested _ c.in-Ok.setup (sym c.in-Ok-test.ensures)
