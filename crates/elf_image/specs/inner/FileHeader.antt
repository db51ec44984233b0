-- The file header (ELF gABI, chapter 4, "ELF Header": Elf64_Ehdr and Elf32_Ehdr; the values of x86-64 and i386 from
-- their psABIs), and its tests. All numbers are little endian.
-- No clause of `kexec` reaches what stands here: it serves laws, and contracts inside the crates.
use Rattle.std.specs.Prelude.{ℕ, ◌+◌, ◌*◌, ◌≤◌}
use Rattle.elf_image.specs.declared.file_header.Header.{Header}
use Rattle.elf_image.specs.FileHeader.{entry_size}

-- the program headers lie in a file of n bytes
pub record HasTable (n : ℕ) (h : Header) : Type 0 where
  pub inside : h.file.phoff + entry_size h.wide * h.file.phnum ≤ n
