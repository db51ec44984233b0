-- What stands after a `boot` that runs its list twice with context preserved (this project's own): between the runs memory
-- starts the kernel, and behind them the system from before stands in it again.
use Rattle.std.specs.Prelude.{◌≡◌, ℕ, List, Ok, Some}
use Rattle.kx_edge.specs.Edge.{Files}
use Rattle.kx_edge.specs.declared.edge.Shelf.{Ghosts as Shelf}
use Rattle.kx_edge.specs.declared.edge.Sink.{Ghosts as Sink}
use Rattle.kx_pages.specs.Bytes.{Mem}
use Rattle.kx_pages.specs.Lists.{Has}
use Rattle.kx_pages.specs.declared.image.Wish.TheVariants.{Kept}
use Rattle.page_memory.specs.Contents.{at}
use Rattle.file_commands.specs.Taking.{reads}
use Rattle.kexec_words.specs.Values.{BootValue, boot}
use Rattle.kexec_words.specs.declared.commands.Runs.TheVariants.{Once, Twice}
use Rattle.load_commands.specs.Boot.{HasBooted}
use Rattle.kexec_main.specs.Call.{HasDone}
use Rattle.load_commands.specs.Inputs.{LoadInputs, load_inputs}
use Rattle.load_commands.specs.NormalLoad.{drawn_pages}
use Rattle.command_parts.specs.Outputs.{IsFileOf}
use Rattle.command_parts.specs.Runs.{after_runs}
use Rattle.boot_laws.specs.Booted.{MemoryStarts}

-- the memory N reads as M at each page but these
abbrev pub ReadsBesides : List ℕ → Mem → Mem → Type 0
ReadsBesides pages N M = (q : ℕ) → (Has q pages → ⊥) → N q ≡ M q

module _ {S O : Type 0} (D : Shelf S) (E : Sink O) where
  -- After a `boot` that was done and runs its list twice, the memory after the first run starts the kernel, and OUT is the
  -- file of a memory that reads as the one that was taken, but for the pages that the load drew from the pool.
  abbrev pub BootedMemoryReturns : Type 0
  BootedMemoryReturns =
      (held : Files) (s : S) (o : O) (s' : S) (o' : O) (b : BootValue)
      → HasDone D E held s o s' o' (boot b) → b.kept ≡ Some Twice
      → (i : LoadInputs) × (reads (load_inputs b.image b.inputs) held ≡ Ok i)
      × (h : HasBooted D E s o s' o' b i)
      × MemoryStarts (after_runs (Some Once) h.checked) i.request i.map h.planned
      × IsFileOf (after_runs b.kept h.checked) h.output
      × ReadsBesides (drawn_pages Kept i h.planned) (after_runs b.kept h.checked) (at i.memory)
