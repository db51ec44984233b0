use Rattle.std.proofs.Common.{refl, sym}
use Rattle.kexec_plan.specs.Purgatory.{symbols_of}
use Rattle.kexec_plan.proofs.Handing.{handed_on}
use Rattle.kexec_plan.proofs.symbols.Symbols.find.Goals as goal

pub returns-in_err-digest-clause-exact : goal.returns-in_err-digest-clause-exact
unfolding symbols_of
returns-in_err-digest-clause-exact c =
    rw (handed_on _ _ c.from_residual-in_err-digest.ensures.1, sym c.in_ok-regs.ensures.exact, sym c.in_ok-regions.ensures.exact, sym c.in_err-digest.ensures.exact) refl

pub returns-in_err-start-clause-exact : goal.returns-in_err-start-clause-exact
unfolding symbols_of
returns-in_err-start-clause-exact c =
    rw (handed_on _ _ c.from_residual-in_err-start.ensures.1, sym c.in_ok-regs.ensures.exact, sym c.in_ok-regions.ensures.exact, sym c.in_ok-digest.ensures.exact, sym c.in_err-start.ensures) refl

pub returns-clause-exact : goal.returns-clause-exact
unfolding symbols_of
returns-clause-exact c =
    rw (sym c.in_ok-regs.ensures.exact, sym c.in_ok-regions.ensures.exact, sym c.in_ok-digest.ensures.exact, sym c.in_ok-start.ensures) refl
