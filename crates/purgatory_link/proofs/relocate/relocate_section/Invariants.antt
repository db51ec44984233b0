use Rattle.std.proofs.Common.{◌≡◌, ◌-◌, length, take}
use Rattle.elf_image.specs.Reloc.{entries_of}
use Rattle.purgatory_link.specs.inner.Progress.{ArePut}
use Rattle.purgatory_link.specs.inner.Taken.{room, IsRow}
use Rattle.purgatory_link.proofs.relocate.relocate_section.Given as goal

abbrev pub invariant-loop-entry : goal.invariant-loop-entry
invariant-loop-entry l = record {
  put : ArePut l.base l.object l.starts l.fn.buffer l.buffer (take l.entry (entries_of l.file l.section));
  row : IsRow l.buffer.taken;
  room_stays : room l.buffer.taken ≡ room l.fn.buffer.taken;
  long : length l.buffer.bytes.items ≡ length l.fn.buffer.bytes.items;
}

abbrev pub decreases-loop-entry : goal.decreases-loop-entry
decreases-loop-entry l = l.section.count - l.entry
