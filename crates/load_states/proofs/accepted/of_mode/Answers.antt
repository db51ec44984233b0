use Rattle.std.proofs.Common.{sym, ap, ◌∙◌}
use Rattle.load_states.proofs.Ready.{plain_ready, kept_ready}
use Rattle.load_states.proofs.accepted.of_mode.Goals as goal

pub invariant_of-result : goal.invariant_of-result
invariant_of-result c = plain_ready c.args.loaded c.args.accept c.requires.told c.requires.bare (ap (λ i. i.mode) (sym c.image.ensures) ∙ c.in-Plain.is) c.requires.held

pub invariant_of-result-in-Kept : goal.invariant_of-result-in-Kept
invariant_of-result-in-Kept c = kept_ready c.args.loaded c.args.accept c.in-Kept.swap c.requires.told c.requires.bare (ap (λ i. i.mode) (sym c.image.ensures) ∙ c.in-Kept.is) c.requires.held
