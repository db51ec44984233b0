use Rattle.std.proofs.Common.{◌≡◌, ◌++◌, map, take}
use Rattle.std.specs.List.{flat_map}
use Rattle.elf_headers.specs.ProgramHeader.{row_text}
use Rattle.elf_headers.specs.inner.ProgramHeader.{AreReadBack}
use Rattle.crash_headers.specs.ProgramHeader.{note_row}
use Rattle.crash_headers.proofs.headers.put_notes.Given as goal

abbrev pub invariant-loop-note : goal.invariant-loop-note
invariant-loop-note l = record {
  text : l.out.items ≡ l.fn.out.items ++ flat_map row_text (map note_row (take l.note-index l.notes));
  back : AreReadBack (map note_row (take l.note-index l.notes));
}
