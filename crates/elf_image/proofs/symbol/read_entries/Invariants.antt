use Rattle.std.proofs.Common.{◌+◌, ◌*◌, map}
use Rattle.elf_image.specs.Gathered.{one}
use Rattle.elf_image.specs.Symbol.{symbol_in, entries_in}
use Rattle.elf_image.specs.inner.Symbol.{named}
use Rattle.elf_image.proofs.Gathering.{Left}
use Rattle.elf_image.proofs.symbol.read_entries.Given as goal

abbrev pub invariant-loop-k : goal.invariant-loop-k
invariant-loop-k l =
    Left (λ k. one (symbol_in l.file l.strings l.sections (l.header.offset + 24 * k) k)) l.k l.count (map (named l.strings) l.symbols.items) (entries_in l.file l.sections l.header l.strings)
