-- Numbers that stand for something in the sections and symbols of an ELF file (System V ABI, gABI, chapter 4).
use Rattle.std.specs.Prelude.{ℕ}

-- ---- sh_type
abbrev pub sht_null : ℕ
sht_null = 0

abbrev pub sht_symtab : ℕ
sht_symtab = 2

abbrev pub sht_strtab : ℕ
sht_strtab = 3

abbrev pub sht_rela : ℕ
sht_rela = 4

abbrev pub sht_nobits : ℕ
sht_nobits = 8

abbrev pub sht_rel : ℕ
sht_rel = 9

-- ---- st_shndx
abbrev pub shn_undef : ℕ
shn_undef = 0

abbrev pub shn_abs : ℕ
shn_abs = 65521

abbrev pub shn_common : ℕ
shn_common = 65522
