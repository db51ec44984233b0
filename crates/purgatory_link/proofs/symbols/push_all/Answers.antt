use Rattle.std.proofs.Common.{◌++◌, map, sym, ap, ◌∙◌, append-nil}
use Rattle.std.specs.List.{flat_map}
use Rattle.std.proofs.lemmas.List.{take_all}
use Rattle.elf_image.specs.declared.symbol.Symbol.{Symbol}
use Rattle.elf_image.specs.inner.Symbol.{named}
use Rattle.purgatory_link.specs.Symbols.{named_symbols}
use Rattle.purgatory_link.specs.inner.Names.{with_text}
use Rattle.purgatory_link.proofs.Pushed.{pushed_more}
use Rattle.purgatory_link.proofs.symbols.push_all.Goals as goal

pub loop-symbol-init : goal.loop-symbol-init
loop-symbol-init c = λ strings. sym (append-nil (map (with_text strings) c.args.names.now.items))

pub loop-symbol-preserved : goal.loop-symbol-preserved
loop-symbol-preserved c = λ strings.
    let d : Symbol = record { name = 0; section = 0; value = 0; size = 0 } in
    pushed_more (named_symbols c.args.base c.args.starts.now) strings c.args.symbols.now c.loop-symbol.symbol-index d (map (with_text strings) c.args.names.now.items) (map (with_text strings) c.loop-symbol.names.items) (map (with_text strings) c.push_defined.new.names.items)
    c.loop-symbol-test.true (c.loop-symbol.invariant strings) (c.in_ok-push_defined.ensures strings)

pub returns : goal.returns
returns c = λ strings.
    c.loop-symbol.invariant strings
    ∙ ap (λ l. map (with_text strings) c.args.names.now.items ++ flat_map (named_symbols c.args.base c.args.starts.now) (map (named strings) l)) (take_all c.loop-symbol.symbol-index c.args.symbols.now c.loop-symbol-test.false)
