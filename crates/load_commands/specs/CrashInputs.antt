-- What `load-panic` takes, in the order in which it is taken, and the request that the kernel's files
-- make (this project's own).
use Rattle.std.specs.Prelude.{ℕ, List, [], Option, true}
use Rattle.page_memory.specs.Contents.{Contents}
use Rattle.memory_map.specs.Maps.{MapValue}
use Rattle.crash_headers.specs.declared.note.Note.{Note}
use Rattle.file_commands.specs.Taking.{Take, ok, ◌>>=◌}
use Rattle.kx_pages.specs.declared.image.ImageType.TheVariants.{Auto}
use Rattle.kexec_words.specs.Values.{CrashInputsValue}
use Rattle.kexec_plan.specs.Requests.{Asked}
use Rattle.command_parts.specs.declared.reason.Reason.{Reason}
use Rattle.load_commands.specs.Files.{map_file, some_notes}
use Rattle.command_parts.specs.Files.{memory_file}
use Rattle.load_commands.specs.Inputs.{KernelFiles, kernel_files, request_with}

-- the request for the plan of a crash kernel of these files: its type is the one that its file shows
abbrev pub crash_request : Option (List ℕ) → List Note → KernelFiles → Asked
crash_request command notes files =
    record (request_with Auto command files) { crash = true; notes = notes }

-- what a crash load is made of: the memory, the memory map, and the request for a plan
pub record CrashInputs : Type 0 where
  pub memory : Contents
  pub map : MapValue
  pub request : Asked

-- what `load-panic` takes
abbrev pub crash_inputs : CrashInputsValue → List ℕ → Take Reason CrashInputs
crash_inputs i map = do
  m ← memory_file i.memory
  ram ← map_file map
  notes ← some_notes i.notes
  files ← kernel_files i.kernel i.initrd i.purgatory []
  ok (record { memory = m; map = ram; request = crash_request i.command notes files })
