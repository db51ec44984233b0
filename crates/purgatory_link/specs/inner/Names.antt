-- The names of linked symbols, whose texts stay in their string table (ELF gABI, "String Table").
-- No clause of `kexec` reaches what stands here: it serves laws, and contracts inside the crates.
use Rattle.std.specs.Prelude.{ℕ, List}
use Rattle.elf_image.specs.inner.Symbol.{text_at}
use Rattle.purgatory_link.specs.declared.names.Name.{Name}
use Rattle.purgatory_link.specs.Sym.{Named}

-- a name with the text that the string table has
abbrev pub with_text : List ℕ → Name → Named
with_text strings n =
    record { name = text_at strings n.name; address = n.address; size = n.size }
