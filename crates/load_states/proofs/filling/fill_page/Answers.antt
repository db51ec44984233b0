use Rattle.std.proofs.Common.{◌∙◌, sym, ap}
use Rattle.std.specs.Prelude.{is_some}
use Rattle.std.proofs.lemmas.Bool.{false≢true}
use Rattle.segments.proofs.Laws.{is_some-want}
use Rattle.load_states.proofs.FillSteps.{goes_to, page_awaited, page_filled}
use Rattle.load_states.proofs.filling.fill_page.Goals as goal

pub add_source-requires-clause-destination : goal.add_source-requires-clause-destination
add_source-requires-clause-destination c =
    let r = c.requires.ready in
    let ss = c.args.segments.now in
    let w = c.args.writer.now in
    (c.args.p, goes_to r.0 r.1 r.2 ss r.3 w r.4 c.args.p r.5, page_awaited r.0 r.1 r.2 ss r.3 w r.4 c.args.p c.requires.wanted r.6)

pub unreachable-requires : goal.unreachable-requires
unreachable-requires c = false≢true (ap is_some c.in-None.ensures.filled ∙ is_some-want c.args.segments.now c.args.p ∙ c.requires.wanted)

pub returns-clause-filled : goal.returns-clause-filled
returns-clause-filled c = λ M pool wish es k e.
    let ss = c.args.segments.now in
    let w = c.args.writer.now in
    page_filled M pool wish ss es w k c.args.p _ c.add_source.new.self (sym c.in-Some.ensures.filled) (c.add_source.ensures.stands k.load c.args.p (goes_to M pool wish ss es w k c.args.p e) k.stands)
