use Rattle.std.proofs.Common.{◌≡◌, ℕ, List, ◌++◌, take, map}
use Rattle.std.specs.List.{flat_map}
use Rattle.elf_image.specs.inner.Symbol.{named}
use Rattle.purgatory_link.specs.Symbols.{named_symbols}
use Rattle.purgatory_link.specs.inner.Names.{with_text}
use Rattle.purgatory_link.proofs.symbols.push_all.Given as goal

abbrev pub invariant-loop-symbol : goal.invariant-loop-symbol
invariant-loop-symbol l =
    (strings : List ℕ) → map (with_text strings) l.names.items ≡ map (with_text strings) l.fn.names.items ++ flat_map (named_symbols l.base l.starts) (map (named strings) (take l.symbol-index l.symbols))
