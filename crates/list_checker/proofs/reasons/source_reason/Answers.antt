use Rattle.std.proofs.Common.{◌≡◌, ◌≤◌, ◌^◌, Some, None, refl, sym, ◌∙◌}
use Rattle.segments.specs.Values.{want}
use Rattle.list_checker.proofs.Wanted.{none_past, past_limit}
use Rattle.list_checker.proofs.reasons.source_reason.Goals as goal

pub returns-in-None-new : goal.returns-in-None-new
returns-in-None-new c = λ s h.
    let n : s.next ≡ Some c.in-Some.t = sym h.next ∙ sym c.next.ensures ∙ c.in-Some.is in
    let l : 2 ^ 34 ≤ c.in-Some.t = past_limit c.in-Some.t c.new.result c.in-None-new.is c.new.ensures.valid.1 in
    let w : want c.args.segments.now c.in-Some.t ≡ None = none_past c.args.segments.now c.past_the_pages.ensures.valid c.in-Some.t l in
    c.past_the_pages.ensures.value ∙ rw n (rw w refl)
