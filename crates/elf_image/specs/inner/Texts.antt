-- The printed text of a part of a file (this project's own).
-- No clause of `kexec` reaches what stands here: it serves laws, and contracts inside the crates.
use Rattle.std.specs.Prelude.{ℕ, ◌++◌, List, codes}
use Rattle.std.specs.Fmt.{decimal}
use Rattle.elf_image.specs.declared.fault.ElfPart.{ElfPart}
use Rattle.elf_image.specs.declared.fault.ElfPart.TheVariants as parts

abbrev pub part_text : ElfPart → List ℕ
part_text parts.Header = codes "its header"
part_text parts.ProgramTable = codes "its program headers"
part_text parts.SectionTable = codes "its section headers"
part_text (parts.Load i) = codes "PT_LOAD " ++ decimal i
part_text (parts.Section i) = codes "section " ++ decimal i
