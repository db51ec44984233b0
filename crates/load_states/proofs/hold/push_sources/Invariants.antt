use Rattle.std.proofs.Common.{◌≡◌, ◌++◌, take}
use Rattle.std.specs.Prelude.{map}
use Rattle.kx_pages.specs.Lists.{sources}
use Rattle.list_checker.specs.Checked.{as_pair}
use Rattle.load_states.proofs.hold.push_sources.Given as goal

abbrev pub invariant-loop-pair : goal.invariant-loop-pair
invariant-loop-pair l = l.pages.items ≡ l.fn.pages.items ++ sources (map as_pair (take l.pair-index l.pairs))
