use Rattle.std.proofs.Common.{sym, subst}
use Rattle.kx_laws.specs.inner.Results.{Gives}
use Rattle.load_record.specs.declared.fault.RecFault.TheVariants.{Memory}
use Rattle.load_record.specs.File.{Record}
use Rattle.load_record.proofs.Heads.{good_head, head_found}
use Rattle.load_record.proofs.Reading.{head_fails, segments_fail, reading_ruled, given_found, given_writable}
use Rattle.load_record.proofs.load.LoadRecord.read.Goals as goal

pub returns-in-Err-clause-exact : goal.returns-in-Err-clause-exact
returns-in-Err-clause-exact c = head_fails c.args.bytes.now c.in-Err.fault c.in-Err.ensures.value

pub read_segments-requires-clause-whole : goal.read_segments-requires-clause-whole
read_segments-requires-clause-whole c = (head_found c.args.bytes.now c.in-Ok.head (sym c.in-Ok.ensures.value)).long

pub read_segments-requires-clause-few : goal.read_segments-requires-clause-few
read_segments-requires-clause-few c = (good_head c.in-Ok.head (head_found c.args.bytes.now c.in-Ok.head (sym c.in-Ok.ensures.value)).good).few

pub returns-in-Err-read_segments-clause-exact : goal.returns-in-Err-read_segments-clause-exact
returns-in-Err-read_segments-clause-exact c = segments_fail c.args.bytes.now c.in-Ok.head c.in-Err-read_segments.fault c.in-Ok.ensures.value (rw c.of.ensures at c.in-Err-read_segments.ensures)

pub record_with-requires : goal.record_with-requires
record_with-requires c = (head_found c.args.bytes.now c.in-Ok.head (sym c.in-Ok.ensures.value)).good

pub returns-clause-exact : goal.returns-clause-exact
returns-clause-exact c =
    subst (λ d. Gives Memory (λ (r : Record). r) c.record_with.result d) (sym (reading_ruled c.args.bytes.now c.in-Ok.head c.in-Ok-read_segments.list.items c.in-Ok.ensures.value (rw c.of.ensures at c.in-Ok-read_segments.ensures))) c.record_with.ensures.exact

pub returns-clause-found : goal.returns-clause-found
returns-clause-found c = given_found c.args.bytes.now c.record_with.result c.tested.ensures.bytes (returns-clause-exact c)

pub returns-clause-writable : goal.returns-clause-writable
returns-clause-writable c = given_writable c.args.bytes.now c.record_with.result c.tested.ensures.bytes (returns-clause-exact c)
