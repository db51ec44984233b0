-- What the commands took, as values of the program, seen as the definitions speak of them (this project's own). Contracts
-- of the program's own calls use these views; no clause of `kexec` does.
-- No clause of `kexec` reaches what stands here: it serves laws, and contracts inside the crates.
use Rattle.std.specs.Prelude.{ℕ, List, map, option_map, ◌≡◌, true, false, None}
use Rattle.kx_pages.specs.declared.image.Mode.TheVariants.{Plain}
use Rattle.kx_pages.specs.declared.image.Wish.{Wish}
use Rattle.load_record.specs.File.{Record}
use Rattle.page_pool.specs.Pages.{usable_of}
use Rattle.file_commands.specs.Taking.{File}
use Rattle.kexec_plan.specs.Modules.{AskedModule}
use Rattle.kexec_plan.specs.Requests.{Plan}
use Rattle.kexec_plan.specs.inner.Requests.{request_of}
use Rattle.load_commands.specs.declared.inputs.KernelFiles.{KernelFiles as TakenFiles}
use Rattle.load_commands.specs.declared.load_inputs.LoadInputs.{LoadInputs as TakenLoadInputs}
use Rattle.load_commands.specs.Inputs.{KernelFiles, LoadInputs}
use Rattle.load_commands.specs.declared.load_inputs.CrashInputs.{CrashInputs as TakenCrashInputs}
use Rattle.load_commands.specs.CrashInputs.{CrashInputs}
use Rattle.load_commands.specs.declared.loading.LoadedKernel.{LoadedKernel}
use Rattle.load_commands.specs.declared.crash_loading.CrashKernel.{CrashKernel}
use Rattle.load_commands.specs.CrashLoading.{IsCrashLoaded}
use Rattle.load_commands.specs.Loading.{IsLoaded}
use Rattle.load_commands.specs.Startup.{planned_startup}
use Rattle.command_parts.specs.inner.Startups.{record_with}
use Rattle.list_checker.specs.Checked.{as_pair}
use Rattle.resident_planner.specs.declared.plan.Made.{Made as ResidentList}
use Rattle.load_commands.specs.declared.boot_resident.ResidentInputs.{ResidentInputs as TakenResidentInputs}
use Rattle.load_commands.specs.declared.boot_resident.ResidentKernel.{ResidentKernel}
use Rattle.load_commands.specs.BootResident.{IsResident, ResidentInputs, load_with}
use Rattle.image_slots.specs.inner.Events.{event_of}
use Rattle.load_commands.specs.declared.drill_inputs.DrillInputs.{DrillInputs as TakenDrillInputs}
use Rattle.load_commands.specs.Drill.{DrillInputs}
use Rattle.kx_pages.specs.declared.image.Start.{Start}
use Rattle.command_parts.specs.declared.startup.Startup.{Startup}

-- the file of a module: its name is the module's text
abbrev pub file_in : AskedModule → File
file_in m = (m.text, m.bytes)

-- the files of a kernel
abbrev pub kernel_bytes : TakenFiles → KernelFiles
kernel_bytes f = record {
  kernel = f.kernel.items;
  initrd = option_map (λ b. b.items) f.initrd;
  purgatory = option_map (λ b. b.items) f.purgatory;
  modules = map file_in f.modules.items;
}

-- what `boot` and `load` took
abbrev pub inputs_of : TakenLoadInputs → LoadInputs
inputs_of t =
    record {
      memory = t.memory;
      usable = usable_of t.pool;
      map = t.map;
      request = request_of t.request;
    }

-- what `load-panic` took
abbrev pub crash_inputs_of : TakenCrashInputs → CrashInputs
crash_inputs_of t = record { memory = t.memory; map = t.map; request = request_of t.request }

-- a kernel was loaded by the plan of its request, and starts as this says
pub record IsLoadedKernel (wish : Wish) (i : LoadInputs) (k : LoadedKernel) : Type 0 where
  pub p : Plan
  pub load : IsLoaded wish i p k.loaded
  pub startup : k.startup ≡ planned_startup p

-- so was a crash kernel
pub record IsCrashKernel (i : CrashInputs) (k : CrashKernel) : Type 0 where
  pub p : Plan
  pub load : IsCrashLoaded i p k.loaded
  pub startup : k.startup ≡ planned_startup p

-- the record of a kernel that was loaded
abbrev pub kernel_record : LoadedKernel → Record
kernel_record k = record_with k.startup false k.loaded.image k.loaded.segments

-- the record of a crash kernel, whose list is its head alone
abbrev pub crash_record : CrashKernel → Record
crash_record k =
    record_with k.startup true (record { head = k.loaded.head; mode = Plain; control = 0 })
    k.loaded.segments

-- what `boot-resident` took
abbrev pub resident_inputs : TakenResidentInputs → ResidentInputs
resident_inputs t = record { load = inputs_of t.load; pairs = map as_pair t.pairs.items }

-- what was made: the plan has this start, and the list is that of this load
pub record IsKernel (i : LoadInputs) (rs : List (ℕ × ℕ)) (k : ResidentKernel) : Type 0 where
  pub p : Plan
  pub m : ResidentList
  pub resident : IsResident i rs p m
  pub start : k.start ≡ p.start
  pub load : k.loaded ≡ load_with p m
  pub copied : k.copied ≡ m.copied

-- what `drill` took
abbrev pub drill_inputs : TakenDrillInputs → DrillInputs
drill_inputs t = record {
  memory = t.memory;
  pool = usable_of t.pool;
  map = t.map;
  events = map event_of t.events.items;
}

-- a kernel without a purgatory
abbrev pub start_alone : Start → Startup
start_alone start = record { start = start; purgatory = None }
