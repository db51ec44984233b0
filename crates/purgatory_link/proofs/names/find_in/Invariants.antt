use Rattle.std.proofs.Common.{◌≡◌, drop, map}
use Rattle.purgatory_link.specs.Set.{symbol_of}
use Rattle.purgatory_link.specs.inner.Names.{with_text}
use Rattle.purgatory_link.proofs.names.find_in.Given as goal

abbrev pub invariant-loop-entry : goal.invariant-loop-entry
invariant-loop-entry l = symbol_of (map (with_text l.strings) (drop l.entry-index l.list)) l.text ≡ symbol_of (map (with_text l.strings) l.list) l.text
