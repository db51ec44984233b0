-- What `boot` and `load` take, in the order in which it is taken, and the request that the kernel's files make (this
-- project's own).
use Rattle.std.specs.Prelude.{ℕ, ◌-◌, List, [], length, map, Option, Some, None, false}
use Rattle.page_memory.specs.Contents.{Contents}
use Rattle.memory_map.specs.Maps.{MapValue}
use Rattle.file_commands.specs.Taking.{File, Take, ok, ◌>>=◌}
use Rattle.file_commands.specs.Files.{all_files, optional_file, whole_file}
use Rattle.kx_pages.specs.declared.image.ImageType.{ImageType}
use Rattle.kexec_words.specs.Values.{InputsValue}
use Rattle.kexec_plan.specs.Modules.{AskedModule}
use Rattle.kexec_plan.specs.Requests.{Asked}
use Rattle.kx_pages.specs.Limits.{kernel_limit}
use Rattle.command_parts.specs.declared.reason.Reason.{Reason}
use Rattle.load_commands.specs.Files.{map_file, pool_file}
use Rattle.command_parts.specs.Files.{memory_file}

-- the most bytes of a purgatory
abbrev pub purgatory_limit : ℕ
purgatory_limit = 16777216

-- what is left of so many bytes after a file that may be named
abbrev pub left_after : ℕ → Option (List ℕ) → ℕ
left_after left None = left
left_after left (Some bytes) = left - length bytes

-- the files of a kernel
pub record KernelFiles : Type 0 where
  pub kernel : List ℕ
  pub initrd : Option (List ℕ)
  pub purgatory : Option (List ℕ)
  pub modules : List File

-- they are taken by these names, in this order
abbrev pub kernel_files : List ℕ → Option (List ℕ) → Option (List ℕ) → List (List ℕ)
    → Take Reason KernelFiles
kernel_files kernel initrd purgatory modules = do
  k ← whole_file kernel_limit kernel
  i ← optional_file (whole_file (kernel_limit - length k)) initrd
  p ← optional_file (whole_file purgatory_limit) purgatory
  ms ← all_files (left_after (kernel_limit - length k) i) modules
  ok (record { kernel = k; initrd = i; purgatory = p; modules = ms })

-- a module's text is its file's name
abbrev pub module_of : File → AskedModule
module_of f = record { bytes = f.1; text = f.0 }

-- the request for the plan of these files
abbrev pub request_with : ImageType → Option (List ℕ) → KernelFiles → Asked
request_with image command files = record {
  crash = false;
  image = image;
  kernel = files.kernel;
  initrd = files.initrd;
  command = command;
  modules = map module_of files.modules;
  purgatory = files.purgatory;
  notes = [];
}

-- what a load is made of: the memory, the usable pages of the pool in their order, the memory map, and the request for a
-- plan
pub record LoadInputs : Type 0 where
  pub memory : Contents
  pub usable : List ℕ
  pub map : Option MapValue
  pub request : Asked

-- what `boot` and `load` take
abbrev pub load_inputs : ImageType → InputsValue → Take Reason LoadInputs
load_inputs image i = do
  m ← memory_file i.memory
  p ← pool_file i.pool i.below
  ram ← optional_file map_file i.map
  files ← kernel_files i.kernel i.initrd i.purgatory i.modules
  ok (record { memory = m; usable = p; map = ram; request = request_with image i.command files })
