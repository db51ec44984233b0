use Rattle.hole_search.proofs.Fitting.{same_hole}
use Rattle.hole_search.proofs.search.holes_speak_of_pages.Goals as goal

pub returns : goal.returns
returns c = same_hole
