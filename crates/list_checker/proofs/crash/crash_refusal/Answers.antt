use Rattle.std.proofs.Common.{sym, ap, ◌∙◌}
use Rattle.std.specs.Option.{option_map}
use Rattle.page_memory.specs.Contents.{at}
use Rattle.segments.specs.Values.{want, pages}
use Rattle.list_checker.specs.declared.fault.Why.TheVariants.{Missing}
use Rattle.kx_pages.specs.Items.{decode}
use Rattle.list_checker.specs.Crash.{lacks}
use Rattle.list_checker.proofs.CrashLists.{first_reason, head_is_done, head_tells}
use Rattle.list_checker.proofs.crash.crash_refusal.Goals as goal

pub returns-in-Some-clause-value : goal.returns-in-Some-clause-value
returns-in-Some-clause-value c =
    let S = c.args.segments.now in
    sym (head_tells (at c.args.memory.now) (want S) (pages S) (decode c.args.head) c.in-Some.why (sym c.head_reason.ensures ∙ c.in-Some.is))

pub returns-in-Some-first_lacking-clause-value : goal.returns-in-Some-first_lacking-clause-value
returns-in-Some-first_lacking-clause-value c =
    let S = c.args.segments.now in
    let done = head_is_done (at c.args.memory.now) (want S) (decode c.args.head) (sym c.head_reason.ensures ∙ c.in-None.is) in
    rw done.1 (ap (option_map Missing) (sym c.in-Some-first_lacking.is ∙ c.first_lacking.ensures) ∙ first_reason (lacks (at c.args.memory.now) (want S)) (pages S))

pub returns-in-None-first_lacking-clause-value : goal.returns-in-None-first_lacking-clause-value
returns-in-None-first_lacking-clause-value c =
    let S = c.args.segments.now in
    let done = head_is_done (at c.args.memory.now) (want S) (decode c.args.head) (sym c.head_reason.ensures ∙ c.in-None.is) in
    rw done.1 (ap (option_map Missing) (sym c.in-None-first_lacking.is ∙ c.first_lacking.ensures) ∙ first_reason (lacks (at c.args.memory.now) (want S)) (pages S))
