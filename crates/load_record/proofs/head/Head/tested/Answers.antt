use Rattle.std.proofs.Common.{arith}
use Rattle.load_record.proofs.Reading.{tested_ok, tested_err, untested_err}
use Rattle.load_record.proofs.head.Head.tested.Goals as goal

pub returns-in-Ok-test-clause-value : goal.returns-in-Ok-test-clause-value
returns-in-Ok-test-clause-value c = tested_ok c.args.bytes.now c.in-Ok.head c.in-Ok.ensures c.in-Ok-test.ensures

pub returns-in-Err-test-clause-value : goal.returns-in-Err-test-clause-value
returns-in-Err-test-clause-value c = tested_err c.args.bytes.now c.in-Ok.head c.in-Err-test.fault c.in-Ok.ensures c.in-Err-test.ensures

pub returns-in-Err-clause-value : goal.returns-in-Err-clause-value
returns-in-Err-clause-value c = untested_err c.args.bytes.now c.in-Err.fault c.in-Err.ensures

pub returns-in-Ok-test-clause-bytes : goal.returns-in-Ok-test-clause-bytes
returns-in-Ok-test-clause-bytes c = λ i. omega (arith, c.type_inv.bytes i)

pub returns-in-Err-test-clause-bytes : goal.returns-in-Err-test-clause-bytes
returns-in-Err-test-clause-bytes c = λ i. omega (arith, c.type_inv.bytes i)

pub returns-in-Err-clause-bytes : goal.returns-in-Err-clause-bytes
returns-in-Err-clause-bytes c = λ i. omega (arith, c.type_inv.bytes i)
