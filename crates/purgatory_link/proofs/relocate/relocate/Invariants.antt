use Rattle.std.proofs.Common.{◌≡◌, ◌≤◌, drop, length}
use Rattle.std.specs.List.{flat_map}
use Rattle.elf_image.specs.Reloc.{entries_of}
use Rattle.purgatory_link.specs.inner.Progress.{PutSo}
use Rattle.purgatory_link.specs.inner.Taken.{room}
use Rattle.purgatory_link.proofs.Relocating.{all_of}
use Rattle.purgatory_link.proofs.relocate.relocate.Given as goal

abbrev pub invariant-loop-section : goal.invariant-loop-section
invariant-loop-section l = record {
  so : PutSo l.base l.object l.starts l.buffer l.fn.bytes.items (all_of l.base l.object l.file l.starts) (flat_map (entries_of l.file) (drop l.section-index l.object.reloc_sections));
  enough : length l.fn.bytes.items ≤ room l.buffer.taken;
  long : length l.buffer.bytes.items ≡ length l.fn.bytes.items;
}
