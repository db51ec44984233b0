-- What a fault of a reader is to the take of its file (this project's own).
-- No clause of `kexec` reaches what stands here: it serves laws, and contracts inside the crates.
use Rattle.std.specs.Prelude.{Bool, true, false, if◌then◌else◌}
use Rattle.page_memory.specs.declared.fault.MemFault.TheVariants as memories
use Rattle.page_pool.specs.declared.fault.PoolFault.TheVariants as pools
use Rattle.memory_map.specs.declared.fault.MapFault.TheVariants as maps
use Rattle.load_record.specs.declared.fault.RecFault.TheVariants as records
use Rattle.crash_headers.specs.declared.fault.NoteFault.TheVariants as notes
use Rattle.resident_planner.specs.declared.fault.PairsFault.TheVariants as pairs
use Rattle.image_slots.specs.declared.fault.EventsFault.TheVariants as events
use Rattle.file_commands.specs.declared.stop.TakeFault.{TakeFault}
use Rattle.file_commands.specs.declared.stop.TakeFault.TheVariants as takes
use Rattle.command_parts.specs.declared.reason.InputFault.{InputFault}
use Rattle.command_parts.specs.declared.reason.InputFault.TheVariants as inputs
use Rattle.command_parts.specs.declared.reason.Reason.{Reason}
use Rattle.command_parts.specs.declared.reason.Reason.TheVariants.{Input}

-- the reader wanted memory
abbrev pub wants_memory : InputFault → Bool
wants_memory (inputs.Mem memories.Memory) = true
wants_memory (inputs.Pool pools.Memory) = true
wants_memory (inputs.Map maps.Memory) = true
wants_memory (inputs.Rec records.Memory) = true
wants_memory (inputs.Notes notes.Memory) = true
wants_memory (inputs.Pairs pairs.Memory) = true
wants_memory (inputs.Events events.Memory) = true
wants_memory other = false

-- so nothing is said of the file; or it is refused
abbrev pub stop_by : InputFault → TakeFault Reason
stop_by fault = if wants_memory fault then takes.Memory else takes.Refused (Input fault)
