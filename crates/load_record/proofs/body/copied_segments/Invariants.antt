use Rattle.std.proofs.Common.{◌≡◌, ◌-◌, ◌≤◌, length}
use Rattle.load_record.specs.File.{read_segments}
use Rattle.load_record.specs.inner.File.{made_digests, keep_segments}
use Rattle.load_record.proofs.Walking.{onto}
use Rattle.load_record.proofs.body.copied_segments.Given as goal

abbrev pub invariant-loop-number : goal.invariant-loop-number
invariant-loop-number l = record {
  within : length l.rest ≤ length l.bytes;
  same : onto l.version l.number l.list.items l.wrong (read_segments l.version l.total (l.count - l.number) l.rest) ≡ keep_segments l.version l.total l.first l.fn.before (l.count - l.first) l.bytes;
  digests : l.digests.items ≡ made_digests l.version l.list.items;
}
