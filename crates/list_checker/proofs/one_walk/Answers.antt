use Rattle.list_checker.proofs.Unique.{walk_same}
use Rattle.list_checker.proofs.one_walk.Goals as goal

pub returns : goal.returns
returns c = walk_same
