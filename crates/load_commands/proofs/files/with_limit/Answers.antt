use Rattle.std.proofs.Common.{◌∙◌, ◌^◌, ap}
use Rattle.load_commands.proofs.Pages.{usable_limited, usable_with}
use Rattle.load_commands.proofs.files.with_limit.Goals as goal

pub returns-in-Some-clause-usable : goal.returns-in-Some-clause-usable
returns-in-Some-clause-usable c =
    let pool = c.args.pool in
    rw c.in-Some.is (usable_limited pool c.below.result _ c.requires.undrawn (c.below.ensures ∙ ap (λ l. record pool { limit = l }) c.address.ensures.value))

pub returns-in-None-clause-usable : goal.returns-in-None-clause-usable
returns-in-None-clause-usable c =
    rw c.in-None.is (usable_with c.args.pool (2 ^ 46) c.requires.undrawn c.requires.limit)
