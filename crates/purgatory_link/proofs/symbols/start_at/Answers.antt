use Rattle.std.proofs.Common.{length, refl, sym, ap}
use Rattle.std.proofs.lemmas.Option.{slice_get_read, slice_get_past}
use Rattle.purgatory_link.specs.Symbols.{known_start}
use Rattle.purgatory_link.proofs.symbols.start_at.Goals as goal

pub returns-in-Some : goal.returns-in-Some
returns-in-Some c =
    let starts = c.args.starts.now in
    let is = c.in-Some.ensures.lookup in
    sym (ap known_start (slice_get_read starts (length starts) c.args.index c.in-Some.start.now refl is.3.0 is.1))

pub returns-in-None : goal.returns-in-None
returns-in-None c = sym (ap known_start (slice_get_past c.args.starts.now c.args.index c.in-None.ensures.lookup.3))
