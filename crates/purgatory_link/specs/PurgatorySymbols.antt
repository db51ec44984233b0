-- The symbols that a purgatory must define (their names are those of Linux's own purgatory, arch/x86/purgatory).
use Rattle.std.specs.Prelude.{ℕ, List, codes, if◌then◌else◌}
use Rattle.std.specs.Str.{bytes_eq}
use Rattle.purgatory_link.specs.declared.purgatory_symbol.PurgatorySymbol.{PurgatorySymbol}
use Rattle.purgatory_link.specs.declared.purgatory_symbol.PurgatorySymbol.TheVariants as symbols

-- the one of this name
abbrev pub symbol_called : List ℕ → PurgatorySymbol
symbol_called name =
    if bytes_eq name (codes "entry64_regs") then symbols.Registers
    else if bytes_eq name (codes "purgatory_sha_regions") then symbols.Regions
    else if bytes_eq name (codes "purgatory_sha256_digest") then symbols.Digest
    else if bytes_eq name (codes "purgatory_start") then symbols.Start
    else symbols.Other
