use Rattle.std.proofs.Common.{◌||◌, refl, ap, ◌∙◌, Some}
use Rattle.kx_pages.specs.Spans.{in_spans}
use Rattle.memory_map.proofs.PageLemmas.{in_more}
use Rattle.memory_map.proofs.pages.push_met.Goals as goal

pub returns : goal.returns
returns c = λ p.
    in_more c.args.spans.now.items c.push.new.self.items c.meeting.result (Some c.meeting.result) p c.in_ok-push.ensures.items refl ∙ ap (λ b. in_spans c.args.spans.now.items p || b) (c.meeting.ensures.low c.requires.end p)
