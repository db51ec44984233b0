use Rattle.std.proofs.Common.{arith}
use Rattle.page_pool.proofs.Adding.{few_added}
use Rattle.page_pool.proofs.file.add_line.Goals as goal

pub returns-clause-few : goal.returns-clause-few
returns-clause-few c = few_added c.args.pages.now.items c.add_range.new.pages.items _ _ c.in_ok-add_range.ensures (omega (arith, c.len.ensures, c.if-len-count-gt-POOL_PAGE_LIMIT.false))
