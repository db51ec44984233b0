use Rattle.kimage_list.proofs.Parts.{first_pages}
use Rattle.kimage_list.proofs.laws.first_pages_are_not_wanted.Goals as goal

pub returns : goal.returns
returns c = first_pages
