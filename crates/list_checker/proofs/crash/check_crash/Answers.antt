use Rattle.std.proofs.Common.{sym, ◌∙◌}
use Rattle.page_memory.specs.Contents.{at}
use Rattle.segments.specs.Values.{want, pages}
use Rattle.list_checker.proofs.Wanted.{parts_listed}
use Rattle.list_checker.proofs.CrashLists.{crash_accepted, crash_refused}
use Rattle.list_checker.proofs.crash.check_crash.Goals as goal

pub returns-in-None-clause-accepted : goal.returns-in-None-clause-accepted
returns-in-None-clause-accepted c =
    let S = c.args.segments.now in
    crash_accepted (at c.args.memory.now) (want S) (pages S) c.args.head (parts_listed S c.crash_refusal.ensures.valid) (sym c.crash_refusal.ensures.value ∙ c.in-None.is)

pub returns-in-Some-clause-refused : goal.returns-in-Some-clause-refused
returns-in-Some-clause-refused c =
    let S = c.args.segments.now in
    crash_refused (at c.args.memory.now) (want S) (pages S) c.args.head c.in-Some.why (parts_listed S c.crash_refusal.ensures.valid) (sym c.crash_refusal.ensures.value ∙ c.in-Some.is)
