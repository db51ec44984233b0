use Rattle.std.proofs.Common.{◌≡◌, length, rules, subst, ap}
use Rattle.kexec_plan.specs.inner.Purgatory.{HasSymbols}
use Rattle.kexec_plan.proofs.finishing.armed_bytes.Goals as goal

pub arm-requires-clause-symbols : goal.arm-requires-clause-symbols
arm-requires-clause-symbols c =
    let e : c.segment.result.now.bytes ≡ c.deref_mut.result.now = search rules in
    subst (λ n. HasSymbols c.args.base n c.args.symbols) (ap length e) (c.requires.symbols c.segment.result.now c.segment.ensures)
