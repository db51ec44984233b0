use Rattle.std.proofs.Common.{sym, arith}
use Rattle.elf_image.specs.inner.Reloc.{has_symbol}
use Rattle.elf_image.proofs.Strays.{none_stray, first_stray, one_more, is_here, passed_over}
use Rattle.elf_image.proofs.reloc.RelocSection.test_symbols.Goals as goal

pub loop-entry-init : goal.loop-entry-init
loop-entry-init c = λ k below. passed_over c.args.file.now c.args.symbols c.args.self.now k (c.run-entry.ensures.runs (has_symbol c.args.file.now c.args.symbols) c.requires.runs k below)

pub returns-then-reloc-symbols : goal.returns-then-reloc-symbols
returns-then-reloc-symbols c =
    sym (first_stray c.args.file.now c.args.symbols c.args.self.now c.loop-entry.entry c.loop-entry-test.true c.loop-entry.invariant
    (is_here c.args.file.now c.args.symbols c.args.self.now c.loop-entry.entry c.reloc.result c.reloc.ensures c.if-reloc-symbols.true))

pub loop-entry-preserved : goal.loop-entry-preserved
loop-entry-preserved c =
    one_more c.args.file.now c.args.symbols c.args.self.now c.loop-entry.entry c.reloc.result c.loop-entry.invariant c.reloc.ensures c.if-reloc-symbols.false

pub returns : goal.returns
returns c = sym (none_stray c.args.file.now c.args.symbols c.args.self.now (λ k below. c.loop-entry.invariant k (omega (arith, below))))
