use Rattle.std.proofs.Common.{◌^◌}
use Rattle.std.specs.BTreeSet.{btree_set_len}
use Rattle.list_checker.proofs.Ending.{reach}
use Rattle.list_checker.proofs.Loop.{Reached}
use Rattle.list_checker.proofs.list.check.Given as goal

abbrev pub invariant-words : goal.invariant-words
invariant-words l = Reached l.memory l.segments l.image l.words l.place l.earlier l.w

abbrev pub decreases-words : goal.decreases-words
decreases-words l = reach (2 ^ 34) l.place (btree_set_len l.earlier.links)
