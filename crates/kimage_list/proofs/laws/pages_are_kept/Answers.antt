use Rattle.kimage_list.proofs.Standings.{pages_kept}
use Rattle.kimage_list.proofs.laws.pages_are_kept.Goals as goal

pub returns : goal.returns
returns c = pages_kept
