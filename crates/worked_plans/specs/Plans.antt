-- Parts of the plans of the examples (this project's own).
use Rattle.std.specs.Prelude.{ℕ, ◌++◌, List, [], ◌∷◌, None, replicate}
use Rattle.segments.specs.Values.{SegmentValue}
use Rattle.boot_params.specs.Params.{params_text}
use Rattle.kexec_plan.specs.Requests.{Plan}
use Rattle.kexec_plan.specs.Parts.{start_at}
use Rattle.worked_plans.specs.LinuxKernels.{low_kernel}
use Rattle.worked_plans.specs.Machines.{machine_rows}

-- a bzImage below 4 GiB and its parameters, without a command
abbrev pub kernel_and_parameters : List SegmentValue
kernel_and_parameters =
    record { bytes = 0xeb ∷ []; mem = 0x18_4000; memsz = 0x3000 }
    ∷ record {
      bytes = params_text low_kernel machine_rows [] 0x7f_e000 None;
      mem = 0x7f_e000;
      memsz = 0x2000;
    } ∷ []

-- the purgatory at this address, before it gets what it is to find
abbrev pub unarmed : ℕ → SegmentValue
unarmed at =
    record { bytes = replicate 432 0x90 ++ replicate 3664 0; mem = at; memsz = 0x1000 }

-- a plan with its table and its digest at these addresses
abbrev pub plan_with : (regions digest : ℕ) → Plan
plan_with regions digest =
    record { segments = []; start = start_at 0; regions = regions; digest = digest }
