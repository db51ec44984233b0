-- What stands after `boot-resident` (this project's own): the memory in OUT is one in which the raw kernel, entered where it
-- was asked for, finds its own file.
use Rattle.std.specs.Prelude.{◌≡◌, None, Ok}
use Rattle.kx_edge.specs.Edge.{Files}
use Rattle.kx_edge.specs.declared.edge.Shelf.{Ghosts as Shelf}
use Rattle.kx_edge.specs.declared.edge.Sink.{Ghosts as Sink}
use Rattle.file_commands.specs.Taking.{reads}
use Rattle.kexec_words.specs.Values.{BootResidentValue, boot_resident}
use Rattle.load_commands.specs.BootResident.{HasBootedResident, ResidentInputs, resident_files}
use Rattle.kexec_main.specs.Call.{HasDone}
use Rattle.command_parts.specs.Outputs.{IsFileOf}
use Rattle.command_parts.specs.Runs.{after_runs}
use Rattle.plan_laws.specs.Executable.{StartsRaw}
use Rattle.boot_laws.specs.Booted.{MemoryStarts}

module _ {S O : Type 0} (D : Shelf S) (E : Sink O) where
  -- After a `boot-resident` that was done, OUT is the file of a memory that starts the kernel: its file stands where it was
  -- asked for, and it is entered there.
  abbrev pub ResidentMemoryStarts : Type 0
  ResidentMemoryStarts =
      (held : Files) (s : S) (o : O) (s' : S) (o' : O) (b : BootResidentValue)
      → HasDone D E held s o s' o' (boot_resident b)
      → (x : ResidentInputs) × (reads (resident_files b) held ≡ Ok x)
      × (h : HasBootedResident D E s o s' o' b x)
      × IsFileOf (after_runs None h.checked) h.output
      × MemoryStarts (after_runs None h.checked) x.load.request x.load.map h.planned
      × StartsRaw x.load.request.kernel b.at b.at h.planned
