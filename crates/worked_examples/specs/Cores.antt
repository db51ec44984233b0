-- Core files and the headers that they are written by (ELF gABI, chapters 4 and 5), byte for byte.
use Rattle.std.specs.Prelude.{ℕ, ◌+◌, ◌++◌, ◌==◌, List, [], ◌∷◌, codes, replicate, if◌then◌else◌}
use Rattle.byteorder.specs.Endian.{little_bytes}
use Rattle.kx_pages.specs.Bytes.{Mem, page_of}
use Rattle.memory_map.specs.declared.row.Row.{Row}
use Rattle.crash_headers.specs.declared.note.Note.{Note}
use Rattle.elf_headers.specs.declared.program_header.ProgramHeader.{ProgramHeader}

-- the load of so many bytes from an address on
abbrev pub load_of : ℕ → ℕ → ProgramHeader
load_of start size = record {
  kind = 1;
  flags = 7;
  offset = start;
  vaddr = start;
  paddr = start;
  filesz = size;
  memsz = size;
  align = 0;
}

-- e_ident, ET_CORE, EM_X86_64, version, no entry, program headers at 64, no section headers, and the sizes: so many program
-- headers of 56 bytes
abbrev pub core_file_header : ℕ → List ℕ
core_file_header count =
    0x7f ∷ codes "ELF" ++ (2 ∷ 1 ∷ 1 ∷ replicate 9 0
    ++ (little_bytes 2 4 ++ (little_bytes 2 62 ++ (little_bytes 4 1 ++ (replicate 8 0
    ++ (little_bytes 8 64 ++ (replicate 8 0 ++ (replicate 4 0
    ++ (little_bytes 2 64 ++ (little_bytes 2 56 ++ (little_bytes 2 count ++ replicate 6 0)))))))))))

-- PT_NOTE: the notes stand at this address of memory
abbrev pub note_header : (start size : ℕ) → List ℕ
note_header start size =
    little_bytes 4 4
    ++ (replicate 4 0 ++ (little_bytes 8 start ++ (replicate 8 0 ++ (little_bytes 8 start
    ++ (little_bytes 8 size ++ (little_bytes 8 size ++ replicate 8 0))))))

-- PT_LOAD of all rights: memory from this address on, mapped where x86-64 Linux maps all of memory, at this place
abbrev pub load_header : (offset start size : ℕ) → List ℕ
load_header offset start size =
    little_bytes 4 1
    ++ (little_bytes 4 7 ++ (little_bytes 8 offset
    ++ (little_bytes 8 (start + 0xffff_8880_0000_0000)
    ++ (little_bytes 8 start ++ (little_bytes 8 size ++ (little_bytes 8 size ++ replicate 8 0))))))

-- a note of 1 KiB, and a machine of 256 MiB without its reserved area
abbrev pub one_note : List Note
one_note = record { start = 0x20_0000; size = 0x400 } ∷ []

abbrev pub two_ranges : List Row
two_ranges =
    record { start = 0x10_0000; size = 0x3f0_0000; kind = 1 }
    ∷ record { start = 0x600_0000; size = 0xa00_0000; kind = 1 } ∷ []

-- a note of the name CORE: sizes of name and descriptor, type, and both, filled up to multiples of 4
abbrev pub core_note : List ℕ
core_note =
    little_bytes 4 5 ++ (little_bytes 4 4 ++ (little_bytes 4 1
    ++ (codes "CORE" ++ (replicate 4 0 ++ codes "abcd"))))

-- a memory: the note at page 100 and zeros behind it, the headers at page 101, and bytes at page 102. Its loads are the 24
-- bytes of the note and the first 6 of page 102.
abbrev pub dumped : Mem
dumped p =
    if p == 0x100 then page_of core_note
    else if p == 0x101
    then page_of
    (core_file_header 3
    ++ (note_header 0x10_0000 0x30
    ++ (load_header 0x10_0000 0x10_0000 24 ++ load_header 0x10_2000 0x10_2000 6)))
    else if p == 0x102 then page_of (codes "second") else replicate 4096 0

-- a PT_NOTE of a core file: the notes stand at this place of the file
abbrev pub note_row_at : (place size : ℕ) → List ℕ
note_row_at place size =
    little_bytes 4 4
    ++ (replicate 4 0 ++ (little_bytes 8 place ++ (replicate 16 0
    ++ (little_bytes 8 size ++ (little_bytes 8 size ++ replicate 8 0)))))

-- its core file: the headers, the note at the second page of the file, and the loads at the third and the fourth
abbrev pub core_file : List ℕ
core_file =
    core_file_header 3
    ++ (note_row_at 0x1000 24
    ++ (load_header 0x2000 0x10_0000 24 ++ (load_header 0x3000 0x10_2000 6
    ++ (replicate 3864 0 ++ (core_note ++ (replicate 4072 0
    ++ (core_note ++ (replicate 4072 0 ++ codes "second"))))))))
