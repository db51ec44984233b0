-- What stands after `boot` and `load-panic`, in the words of boot protocols (this project's own): the memory in OUT is one in
-- which this kernel, started at the printed registers, finds its code and all that it was given.
use Rattle.std.specs.Prelude.{◌≡◌, Option, Ok, Some}
use Rattle.kx_edge.specs.Edge.{Files}
use Rattle.kx_edge.specs.declared.edge.Shelf.{Ghosts as Shelf}
use Rattle.kx_edge.specs.declared.edge.Sink.{Ghosts as Sink}
use Rattle.kx_pages.specs.Bytes.{Mem}
use Rattle.page_memory.specs.Contents.{at}
use Rattle.memory_map.specs.Maps.{MapValue}
use Rattle.memory_map.specs.declared.row.Row.{Row}
use Rattle.segments.specs.Values.{SegmentValue}
use Rattle.file_commands.specs.Taking.{reads}
use Rattle.kexec_words.specs.Values.{BootValue, LoadPanicValue, boot, load_panic}
use Rattle.kexec_plan.specs.Requests.{Asked, Plan}
use Rattle.load_commands.specs.Boot.{HasBooted}
use Rattle.load_commands.specs.CrashInputs.{CrashInputs, crash_inputs}
use Rattle.load_commands.specs.Inputs.{LoadInputs, load_inputs}
use Rattle.kexec_main.specs.Call.{HasDone}
use Rattle.load_commands.specs.LoadPanic.{HasLoadedPanic}
use Rattle.command_parts.specs.Outputs.{IsFileOf}
use Rattle.command_parts.specs.Runs.{IsOnce, after_runs}
use Rattle.plan_laws.specs.Kernels.{KernelFinds}
use Rattle.plan_laws.specs.Linux.{FitsEntry}
use Rattle.plan_laws.specs.Memory.{HasBytes}
use Rattle.plan_laws.specs.Places.{IsOne}

-- In this memory stands what was planned: each segment's bytes at its address, and zeros behind them. The kernel finds its
-- parts among these segments, and each row of its memory map fits an E820 entry.
pub record MemoryStarts (N : Mem) (r : Asked) (map : Option MapValue) (p : Plan) : Type 0 where
  pub stands : (s : SegmentValue) → IsOne s p.segments → HasBytes N s.mem s.memsz s.bytes
  pub finds : KernelFinds r map p
  pub rows_fit : (m : MapValue) (row : Row) → map ≡ Some m → IsOne row m.rows → FitsEntry row

module _ {S O : Type 0} (D : Shelf S) (E : Sink O) where
  -- After a `boot` that was done and runs its list once, OUT is the file of a memory that starts the kernel.
  abbrev pub BootedMemoryStarts : Type 0
  BootedMemoryStarts =
      (held : Files) (s : S) (o : O) (s' : S) (o' : O) (b : BootValue)
      → HasDone D E held s o s' o' (boot b) → IsOnce b.kept
      → (i : LoadInputs) × (reads (load_inputs b.image b.inputs) held ≡ Ok i)
      × (h : HasBooted D E s o s' o' b i)
      × IsFileOf (after_runs b.kept h.checked) h.output
      × MemoryStarts (after_runs b.kept h.checked) i.request i.map h.planned

  -- After a `load-panic` that was done, OUT is the file of a memory that starts the crash kernel.
  abbrev pub PanicMemoryStarts : Type 0
  PanicMemoryStarts =
      (held : Files) (s : S) (o : O) (s' : S) (o' : O) (l : LoadPanicValue)
      → HasDone D E held s o s' o' (load_panic l)
      → (i : CrashInputs) × (reads (crash_inputs l.inputs l.map) held ≡ Ok i)
      × (h : HasLoadedPanic D E s o s' o' l i)
      × IsFileOf (at h.loaded.memory) h.output
      × MemoryStarts (at h.loaded.memory) i.request (Some i.map) h.planned
