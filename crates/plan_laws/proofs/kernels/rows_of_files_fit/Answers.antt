use Rattle.plan_laws.proofs.Every.{rows_of_files_fit}
use Rattle.plan_laws.proofs.kernels.rows_of_files_fit.Goals as goal

pub returns : goal.returns
returns c = rows_of_files_fit
