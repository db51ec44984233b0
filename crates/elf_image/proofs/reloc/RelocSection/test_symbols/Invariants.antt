use Rattle.std.proofs.Common.{◌≡◌, ℕ, ◌<◌, false}
use Rattle.elf_image.specs.Reloc.{is_stray}
use Rattle.elf_image.proofs.reloc.RelocSection.test_symbols.Given as goal

abbrev pub invariant-loop-entry : goal.invariant-loop-entry
invariant-loop-entry l = (k : ℕ) → k < l.entry → is_stray l.file l.symbols l.self k ≡ false
