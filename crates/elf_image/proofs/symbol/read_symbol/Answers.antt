use Rattle.std.proofs.Common.{inl}
use Rattle.elf_image.proofs.Named.{no_end_told, no_index_told, symbol_told}
use Rattle.elf_image.proofs.symbol.read_symbol.Goals as goal

pub returns-then-symbol-ended : goal.returns-then-symbol-ended
returns-then-symbol-ended c =
    inl (no_end_told c.args.file.now c.args.strings.now c.args.ended c.args.sections c.args.at c.args.k c.read-symbol.result c.read-symbol.ensures c.requires.ended c.if-symbol-ended.true)

pub returns-then-not-is_index : goal.returns-then-not-is_index
returns-then-not-is_index c =
    inl (no_index_told c.args.file.now c.args.strings.now c.args.ended c.args.sections c.args.at c.args.k c.read-symbol.result c.is_index.result c.read-symbol.ensures c.requires.ended c.if-symbol-ended.false c.is_index.ensures c.if-not-is_index.true)

pub returns : goal.returns
returns c =
    symbol_told c.args.file.now c.args.strings.now c.args.ended c.args.sections c.args.at c.args.k c.read-symbol.result c.is_index.result c.read-symbol.ensures c.requires.ended c.if-symbol-ended.false c.is_index.ensures c.if-not-is_index.false
