use Rattle.std.proofs.Common.{◌≡◌, ◌++◌, map, take}
use Rattle.std.specs.List.{flat_map}
use Rattle.elf_headers.specs.ProgramHeader.{row_text}
use Rattle.elf_headers.specs.inner.ProgramHeader.{AreReadBack}
use Rattle.crash_headers.specs.ProgramHeader.{load_row}
use Rattle.crash_headers.proofs.headers.put_loads.Given as goal

abbrev pub invariant-loop-range : goal.invariant-loop-range
invariant-loop-range l = record {
  text : l.out.items ≡ l.fn.out.items ++ flat_map row_text (map load_row (take l.range-index l.ranges));
  back : AreReadBack (map load_row (take l.range-index l.ranges));
}
