use Rattle.kimage_list.proofs.Awaiting.{awaited_exactly}
use Rattle.kimage_list.proofs.laws.awaited_pages_have_no_entry.Goals as goal

pub returns : goal.returns
returns c = awaited_exactly
