use Rattle.std.proofs.Common.{min, ◌-◌, ◌^◌, ap, sym, ◌∙◌, arith}
use Rattle.std.specs.Option.{option_copied}
use Rattle.vmcore_file.proofs.Placing.{last_ends, none_ends}
use Rattle.vmcore_file.proofs.layout.loads_end.Goals as goal

pub returns-in-Some : goal.returns-in-Some
returns-in-Some c =
    c.saturating_add.ensures ∙ ap (λ n. min n (2 ^ 64 - 1)) (sym (last_ends c.args.begin c.args.loads.now c.in-Some.load.now (sym (ap option_copied c.in-Some.is) ∙ c.last.ensures.value)))

pub returns-in-None : goal.returns-in-None
returns-in-None c = omega (arith, none_ends c.args.begin c.args.loads.now (sym (ap option_copied c.in-None.is) ∙ c.last.ensures.value))
