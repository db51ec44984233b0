-- The plan of a request, or its first refusal, in the order of the steps (this project's own).
use Rattle.std.specs.Prelude.{ℕ, List, [], Option, None, option_map, Result}
use Rattle.kx_laws.specs.Results.{◌>>=◌, unless}
use Rattle.memory_map.specs.Maps.{MapValue}
use Rattle.segments.specs.Values.{SegmentValue}
use Rattle.plan_faults.specs.declared.fault.PlanFault.{PlanFault}
use Rattle.plan_faults.specs.declared.fault.PlanFault.TheVariants as faults
use Rattle.kexec_plan.specs.declared.format.Format.{Format}
use Rattle.kexec_plan.specs.Requests.{Asked, Plan}
use Rattle.kexec_plan.specs.Formats.{format_of, ground_for, unused_part}
use Rattle.kexec_plan.specs.Ground.{Ground, ram, most}
use Rattle.kexec_plan.specs.Command.{command_of}
use Rattle.kexec_plan.specs.Kernels.{read_kernel}
use Rattle.kexec_plan.specs.Purgatory.{some_purgatory, purgatory_rule}
use Rattle.kexec_plan.specs.Parts.{start_at}
use Rattle.kexec_plan.specs.Places.{place_some, taken_by}
use Rattle.kexec_plan.specs.Laying.{Laid, place_parts}
use Rattle.kexec_plan.specs.Finish.{finish}

-- before any part is placed: the segments that have their place
abbrev pub begin : List SegmentValue → ℕ → Option (List ℕ) → Laid
begin list entry command = record {
  taken = taken_by list;
  list = list;
  fault = None;
  command = command_of command;
  initrd = None;
  slots = [];
  start = start_at entry;
}

-- the plan of a kernel of this form: the kernel is read, the purgatory is read, the parts are placed one after another and
-- then the purgatory, each part has its bytes, the purgatory is linked and the segments are tested
unfoldable pub plan_as : Asked → Ground → Format → Result Plan PlanFault
plan_as r g format = do
  kernel ← read_kernel g format r.kernel r.initrd r.modules r.notes
  purgatory ← some_purgatory r.purgatory
  laid ← place_parts (ram g) (begin kernel.list kernel.entry r.command)
      kernel.parts
  site ← place_some (ram g) laid.taken
      (option_map (purgatory_rule (most g kernel.above4g)) purgatory)
  _ ← unless laid.fault
  finish g laid.list laid.start purgatory site

-- the form of the kernel's file; whether it is loaded as a crash kernel; no part that it has no use for; its plan
unfoldable pub plan : Asked → Option MapValue → Result Plan PlanFault
plan r map = do
  format ← format_of r
  g ← ground_for r map format
  _ ← unless (option_map faults.Unused (unused_part r format))
  plan_as r g format
