-- The rules that the segments of a plan have to meet: those of segments, over what is known of memory (this project's
-- own).
use Rattle.std.specs.Prelude.{◌^◌, List, Option, Some, None, Result, Ok, Err}
use Rattle.segments.specs.Values.{SegmentValue}
use Rattle.segments.specs.Rules.{bare_refusal, refusal}
use Rattle.segments.specs.declared.fault.SegFault.{SegFault}
use Rattle.segments.specs.declared.fault.Kind.TheVariants.{Normal, Crash}
use Rattle.kx_pages.specs.Spans.{Run}
use Rattle.memory_map.specs.Maps.{MapValue, is_ram}
use Rattle.plan_faults.specs.declared.fault.PlanFault.{PlanFault}
use Rattle.plan_faults.specs.declared.fault.PlanFault.TheVariants as faults
use Rattle.elf_image.specs.Image.{runs}
use Rattle.kexec_plan.specs.Ground.{Ground, Unknown, Machine, Reserved}

-- the maximal runs of the pages that are RAM
unfoldable pub ram_runs : MapValue → List Run
ram_runs map = runs (is_ram map) 0 (2 ^ 34)

-- the first refusal of the segments
unfoldable pub first_refusal : Ground → List SegmentValue → Option SegFault
first_refusal Unknown ss = bare_refusal ss
first_refusal (Machine map) ss = refusal (ram_runs map) Normal ss
first_refusal (Reserved map area) ss = refusal (ram_runs map) (Crash area) ss

-- the segments, unless they are refused
abbrev pub unless_refused : List SegmentValue → Option SegFault
    → Result (List SegmentValue) PlanFault
unless_refused ss None = Ok ss
unless_refused ss (Some fault) = Err (faults.Segments fault)

unfoldable pub test_segments : Ground → List SegmentValue
    → Result (List SegmentValue) PlanFault
test_segments g ss = unless_refused ss (first_refusal g ss)
