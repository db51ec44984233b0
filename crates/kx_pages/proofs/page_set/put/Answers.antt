use Rattle.std.proofs.Common.{arith}
use Rattle.kx_pages.proofs.Sets.{put_past, put_here}
use Rattle.kx_pages.proofs.page_set.put.Goals as goal

pub returns-in_ok-push-in-Some : goal.returns-in_ok-push-in-Some
returns-in_ok-push-in-Some c = λ xs.
    put_past c.args.made.now.items _ c.args.rest c.in-Some.r c.args.s xs c.in-Some.is c.in_ok-push-in-Some.ensures.items (omega arith)

pub returns-in_ok-push-in-Some-3 : goal.returns-in_ok-push-in-Some-3
returns-in_ok-push-in-Some-3 c = λ xs.
    put_here c.args.made.now.items _ _ c.args.rest c.in-Some.r c.args.s xs c.in-Some.is c.in_ok-push-in-Some-2.ensures.items c.in_ok-push-in-Some-3.ensures.items (omega arith) (omega arith)
