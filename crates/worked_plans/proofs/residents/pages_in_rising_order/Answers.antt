-- Page 3 is missing.
use Rattle.std.proofs.Common.{sym}
use Rattle.kx_laws.proofs.Booleans.{true_false}
use Rattle.worked_plans.proofs.residents.pages_in_rising_order.Goals as goal

pub returns-clause-too_few : goal.returns-clause-too_few
returns-clause-too_few c = λ h. true_false (sym (h.whole 3))
