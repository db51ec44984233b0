use Rattle.std.proofs.Common.{◌≡◌, drop}
use Rattle.std.specs.Prelude.{◌==◌, ◌&&◌}
use Rattle.page_memory.specs.File.{is_all_zeros}
use Rattle.page_memory.proofs.file.has_no_bit.Given as goal

abbrev pub invariant-loop-b : goal.invariant-loop-b
invariant-loop-b l = ((l.bits == 0) && is_all_zeros (drop l.b-index l.bytes)) ≡ is_all_zeros l.fn.bytes
