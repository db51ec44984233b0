use Rattle.std.proofs.Common.{ap, subst, ◌∙◌}
use Rattle.command_parts.specs.inner.Ran.{RunsLoaded, runs_in}
use Rattle.command_parts.proofs.Leaving.{runs_as_asked}
use Rattle.command_parts.proofs.running.run_loaded.Goals as goal

pub returns : goal.returns
returns c =
    let s = c.args.loaded in
    subst (λ runs. RunsLoaded runs s c.run_accepted.result)
    (ap (runs_in s.image.mode) c.unwrap_or.ensures ∙ runs_as_asked c.args.runs s.image.mode c.requires.mode)
    (c.run_accepted.ensures s c.in_ok-accepted.ensures)
