use Rattle.std.proofs.Common.{◌≡◌, ℕ, List, [], ◌∷◌, ◌++◌, map, ap, ◌∙◌}
use Rattle.elf_image.specs.inner.Symbol.{text_at, named}
use Rattle.purgatory_link.specs.Symbols.{name_at, named_symbols}
use Rattle.purgatory_link.specs.inner.Names.{with_text}
use Rattle.purgatory_link.proofs.Pushed.{on_ok, named_here, not_named_here}
use Rattle.purgatory_link.proofs.symbols.push_defined.Goals as goal

pub returns-in-Some : goal.returns-in-Some
returns-in-Some c =
    let s = c.args.symbol.now in
    let old = c.args.names.now.items in
    let new = c.push_name.new.names.items in
    on_ok ((strings : List ℕ) → map (with_text strings) new ≡ map (with_text strings) old ++ name_at c.address.result (named strings s) ∷ [])
    ((strings : List ℕ) → map (with_text strings) new ≡ map (with_text strings) old ++ named_symbols c.args.base c.args.starts.now (named strings s))
    c.push_name.result
    (λ pushed strings. pushed strings ∙ ap (λ l. map (with_text strings) old ++ l) (named_here c.args.base c.args.starts.now (named strings s) c.in-Some.start c.address.result (c.in-Some.ensures (text_at strings s.name)) (c.address.ensures (text_at strings s.name))))
    c.push_name.ensures

pub returns-in-None : goal.returns-in-None
returns-in-None c = λ strings.
    not_named_here c.args.base c.args.starts.now (named strings c.args.symbol.now) (map (with_text strings) c.args.names.now.items) (c.in-None.ensures (text_at strings c.args.symbol.now.name))
