use Rattle.std.proofs.Common.{ap, ◌∙◌}
use Rattle.std.specs.Prelude.{min}
use Rattle.purgatory_link.proofs.Bits.{ends_rise, mask_bits}
use Rattle.purgatory_link.proofs.taken.mask.Goals as goal

pub overflow_sub-result : goal.overflow_sub-result
overflow_sub-result c =
    ends_rise c.args.first c.args.at c.args.wide c.min-low.result c.min-high.result
    (c.min-low.ensures ∙ ap (λ n. min n 64) c.saturating_sub.ensures)
    (c.min-high.ensures ∙ ap (λ n. min n 64) c.saturating_sub-2.ensures)

pub returns : goal.returns
returns c = λ i l.
    mask_bits c.args.first c.args.at c.args.wide c.min-low.result c.min-high.result i
    (c.min-low.ensures ∙ ap (λ n. min n 64) c.saturating_sub.ensures)
    (c.min-high.ensures ∙ ap (λ n. min n 64) c.saturating_sub-2.ensures)
    l
