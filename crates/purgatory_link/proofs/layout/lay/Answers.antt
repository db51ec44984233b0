use Rattle.std.proofs.Common.{◌≤◌, length, arith}
use Rattle.purgatory_link.specs.Layout.{lay, end}
use Rattle.purgatory_link.proofs.Laying.{end_fits, laid_more, laid_last, laid_long, pages_hold, filled_by}
use Rattle.purgatory_link.proofs.layout.lay.Goals as goal

pub put_section-requires-clause-small : goal.put_section-requires-clause-small
put_section-requires-clause-small c =
    end_fits (length c.loop-section.out.items) 16777216 c.args.sections.now c.loop-section.section-index _ c.loop-section-test.true c.loop-section.invariant.ends c.requires.small

pub loop-section-preserved : goal.loop-section-preserved
loop-section-preserved c =
    laid_more c.args.file.now c.loop-section.out.items c.put_section.new.out.items c.args.sections.now c.loop-section.section-index _ c.loop-section-test.true c.in_ok-put_section.ensures.bytes c.in_ok-put_section.ensures.end c.loop-section.invariant

pub returns-clause-bytes : goal.returns-clause-bytes
returns-clause-bytes c =
    let is = laid_last c.args.file.now c.loop-section.out.items c.args.sections.now c.loop-section.section-index c.loop-section-test.false c.loop-section.invariant in
    let long = laid_long c.args.file.now c.loop-section.out.items c.args.sections.now c.loop-section.section-index c.loop-section-test.false c.loop-section.invariant in
    let fits : length c.loop-section.out.items ≤ c.args.size = omega (arith, long, c.requires.size, pages_hold (end 0 c.args.sections.now)) in
    filled_by c.args.size c.loop-section.out.len c.loop-section.out.items (lay c.args.file.now 0 c.args.sections.now) c.resize.new.self.items (omega (arith, c.loop-section.out.ok.0)) fits is c.in_ok-resize.ensures.items
