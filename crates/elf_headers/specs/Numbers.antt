-- Numbers that stand for something in the headers of an ELF file (System V ABI, gABI, chapters 4 and 5; EM_386 and
-- EM_X86_64 are the machines of i386 and x86-64).
use Rattle.std.specs.Prelude.{ℕ}

-- ---- e_type, e_machine, e_phnum
abbrev pub et_rel : ℕ
et_rel = 1

abbrev pub et_exec : ℕ
et_exec = 2

abbrev pub et_core : ℕ
et_core = 4

abbrev pub em_386 : ℕ
em_386 = 3

abbrev pub em_x86_64 : ℕ
em_x86_64 = 62

-- this number of program headers stands for another, which does not fit its field
abbrev pub pn_xnum : ℕ
pn_xnum = 65535

-- ---- p_type
abbrev pub pt_load : ℕ
pt_load = 1

abbrev pub pt_note : ℕ
pt_note = 4
