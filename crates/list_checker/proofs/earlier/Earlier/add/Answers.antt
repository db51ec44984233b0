use Rattle.std.proofs.lemmas.Result.{on_ok_weaker}
use Rattle.list_checker.proofs.earlier.Earlier.add.Goals as goal

pub returns-in-Source : goal.returns-in-Source
returns-in-Source c = on_ok_weaker c.add_source.result
    (λ f swap s h fits. rw c.in-Source.is (f swap s h (rw c.in-Source.is at fits)))
    c.add_source.ensures
