-- The plan of a request, or its first refusal, in the order of the steps (this project's own).
-- No clause of `kexec` reaches what stands here: it serves laws, and contracts inside the crates.
use Rattle.std.specs.Prelude.{ℕ, List, Option, option_map, Result}
use Rattle.kx_laws.specs.Results.{◌>>=◌, unless}
use Rattle.plan_faults.specs.declared.fault.PlanFault.{PlanFault}
use Rattle.kexec_plan.specs.Requests.{Plan}
use Rattle.kexec_plan.specs.Ground.{Ground, ram, most}
use Rattle.kexec_plan.specs.Kernels.{Kernel}
use Rattle.kexec_plan.specs.Purgatory.{PurgatoryValue, purgatory_rule}
use Rattle.kexec_plan.specs.Places.{place_some}
use Rattle.kexec_plan.specs.Laying.{place_parts}
use Rattle.kexec_plan.specs.Finish.{finish}
use Rattle.kexec_plan.specs.Plan.{begin}

-- the plan of a kernel and a purgatory that were read
unfoldable pub plan_read : Ground → Kernel → Option (List ℕ) → Option PurgatoryValue
    → Result Plan PlanFault
plan_read g kernel command purgatory = do
  laid ← place_parts (ram g) (begin kernel.list kernel.entry command) kernel.parts
  site ← place_some (ram g) laid.taken
      (option_map (purgatory_rule (most g kernel.above4g)) purgatory)
  _ ← unless laid.fault
  finish g laid.list laid.start purgatory site
