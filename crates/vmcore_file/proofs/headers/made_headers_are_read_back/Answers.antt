use Rattle.memory_map.specs.Maps.{core_ranges}
use Rattle.vmcore_file.proofs.Made.{made_from, table_is}
use Rattle.vmcore_file.proofs.headers.made_headers_are_read_back.Goals as goal

pub returns : goal.returns
returns c = λ M a m h. table_is M h.notes (core_ranges m) a h.headers (made_from M a m h) h.there
