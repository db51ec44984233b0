use Rattle.memory_map.proofs.PageLemmas.{in_more, in_same}
use Rattle.memory_map.proofs.pages.push_some.Goals as goal

pub returns-in_ok-push-in-Some : goal.returns-in_ok-push-in-Some
returns-in_ok-push-in-Some c = λ p. in_more c.args.spans.now.items _ c.in-Some.s c.args.span p c.in_ok-push-in-Some.ensures.items c.in-Some.is

pub returns-in-None : goal.returns-in-None
returns-in-None c = λ p. in_same c.args.spans.now.items c.args.span p c.in-None.is
