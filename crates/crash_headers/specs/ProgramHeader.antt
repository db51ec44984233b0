-- The program headers that a crash kernel gets (ELF gABI, chapter 5, "Program Header"; Linux,
-- Documentation/admin-guide/kdump). Their p_align is zero.
use Rattle.std.specs.Prelude.{◌+◌}
use Rattle.memory_map.specs.declared.row.Row.{Row}
use Rattle.elf_headers.specs.declared.program_header.ProgramHeader.{ProgramHeader}
use Rattle.elf_headers.specs.Numbers.{pt_load, pt_note}
use Rattle.crash_headers.specs.declared.note.Note.{Note}

-- the PT_NOTE of a note
abbrev pub note_row : Note → ProgramHeader
note_row n = record {
  kind = pt_note;
  flags = 0;
  offset = n.start;
  vaddr = 0;
  paddr = n.start;
  filesz = n.size;
  memsz = n.size;
  align = 0;
}

-- the PT_LOAD of a range: PF_R, PF_W and PF_X, mapped where x86-64 Linux maps all of memory
abbrev pub load_row : Row → ProgramHeader
load_row r = record {
  kind = pt_load;
  flags = 7;
  offset = r.start;
  vaddr = r.start + 0xffff888000000000;
  paddr = r.start;
  filesz = r.size;
  memsz = r.size;
  align = 0;
}
