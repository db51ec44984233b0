use Rattle.std.proofs.Common.{◌++◌, ap, ◌∙◌, subst, arith}
use Rattle.memory_map.specs.inner.Rows.{IsBelow}
use Rattle.elf_headers.specs.ProgramHeader.{row_text}
use Rattle.elf_headers.specs.inner.ProgramHeader.{IsRowReadBack}
use Rattle.crash_headers.specs.ProgramHeader.{load_row}
use Rattle.crash_headers.proofs.Rows.{no_row, each_at, row_more, rows_all, back_more, back_all}
use Rattle.crash_headers.proofs.headers.put_loads.Goals as goal

pub load_row-requires : goal.load_row-requires
load_row-requires c = each_at IsBelow c.args.ranges.now c.loop-range.range-index no_row c.requires c.loop-range-test.true

pub loop-range-preserved : goal.loop-range-preserved
loop-range-preserved c = record {
  text = row_more load_row c.args.ranges.now c.loop-range.range-index _ c.args.out.now.items c.loop-range.out.items c.put_row.new.out.items c.loop-range-test.true (c.in_ok-put_row.ensures.text ∙ ap (λ h. c.loop-range.out.items ++ row_text h) c.load_row.ensures) c.loop-range.invariant.text;
  back = back_more load_row c.args.ranges.now c.loop-range.range-index _ c.loop-range-test.true (subst IsRowReadBack c.load_row.ensures c.put_row.ensures.back) c.loop-range.invariant.back;
}

pub returns-clause-text : goal.returns-clause-text
returns-clause-text c = rows_all load_row c.args.ranges.now c.loop-range.range-index c.args.out.now.items c.loop-range.out.items (omega arith) c.loop-range.invariant.text

pub returns-clause-back : goal.returns-clause-back
returns-clause-back c = back_all load_row c.args.ranges.now c.loop-range.range-index (omega arith) c.loop-range.invariant.back
