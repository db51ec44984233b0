-- By the loads of the kernel `abc`.
use Rattle.worked_commands.proofs.DrawnLoads.{live_swap}
use Rattle.worked_commands.proofs.drawn.swap_through_a_live_page_is_no_load.Goals as goal

pub returns : goal.returns
returns c = live_swap
