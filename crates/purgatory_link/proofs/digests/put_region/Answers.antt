use Rattle.std.proofs.Common.{◌+◌, ◌*◌, ap, ◌∙◌}
use Rattle.kx_fields.specs.Fields.{with_field}
use Rattle.segments.specs.Values.{SegmentValue}
use Rattle.purgatory_link.proofs.Digesting.{region_more}
use Rattle.purgatory_link.proofs.digests.put_region.Goals as goal

pub returns : goal.returns
returns c = λ ss long t.
    region_more ss c.args.segment.now c.args.k c.args.table.now c.put_u64.new.self c.put_u64-2.new.self long c.requires t
    (c.put_u64.ensures.exact ∙ ap (λ (p : SegmentValue). with_field (16 * c.args.k) 8 p.mem c.args.table.now) c.segment.view_is)
    (c.put_u64-2.ensures.exact ∙ ap (λ (p : SegmentValue). with_field (16 * c.args.k + 8) 8 p.memsz c.put_u64.new.self) c.segment.view_is)
