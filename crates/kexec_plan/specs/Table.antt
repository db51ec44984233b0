-- The table of places: for each part the least address, the alignment, the greatest address of its last byte, and
-- whether the lowest or the highest place is taken (this project's own; the limits of a bzImage are those of the
-- Linux/x86 boot protocol, "The Real-Mode Kernel Header").
use Rattle.std.specs.Prelude.{ℕ, ◌-◌, ◌^◌, Bool, List, length, max, min, if◌then◌else◌}
use Rattle.hole_search.specs.declared.search.End.TheVariants.{Least, Greatest}
use Rattle.memory_map.specs.declared.row.Row.{Row}
use Rattle.multiboot_image.specs.Modules.{PlacedModule}
use Rattle.multiboot_image.specs.Info.{info_size}
use Rattle.bzimage.specs.Kernel.{Kernel}
use Rattle.boot_params.specs.Params.{params_length}
use Rattle.kexec_plan.specs.Modules.{AskedModule}
use Rattle.plan_faults.specs.declared.fault.Part.{Part}
use Rattle.plan_faults.specs.declared.fault.Part.TheVariants as parts
use Rattle.kexec_plan.specs.declared.places.PlaceRule.{PlaceRule}

-- the last address below 4 GiB, or where a kernel may lie above it the last below the limit of addresses
abbrev pub last_address : Bool → ℕ
last_address above4g = if above4g then 2 ^ 46 - 1 else 2 ^ 32 - 1

-- a part of so many bytes, as high as it can lie
abbrev pub highest : Part → ℕ → ℕ → PlaceRule
highest part n most =
    record { part = part; length = n; end = Greatest; align = 4096; min = 0; most = most }

-- a bzImage: its protected-mode part, or as much as it needs at its start, as low as it can lie from the address that it
-- prefers on, and not below 1 MiB
abbrev pub kernel_rule : Kernel → ℕ → PlaceRule
kernel_rule k n = record {
  part = parts.Kernel;
  length = max k.init_size (n - k.start);
  end = Least;
  align = k.align;
  min = max k.pref 0x100000;
  most = last_address k.above4g;
}

-- its initrd: at most at initrd_addr_max, which counts for kernels below 4 GiB alone
abbrev pub initrd_most : Kernel → ℕ
initrd_most k = if k.above4g then 2 ^ 46 - 1 else k.initrd_max

abbrev pub initrd_rule : Kernel → List ℕ → PlaceRule
initrd_rule k initrd = highest parts.Initrd (length initrd) (initrd_most k)

-- its crash headers, of so many bytes
abbrev pub headers_rule : Kernel → ℕ → PlaceRule
headers_rule k n = highest parts.Headers n (last_address k.above4g)

-- its boot parameters: the length of what is made for these rows and this command, as a number of 64 bits
abbrev pub parameters_rule : Kernel → List Row → List ℕ → PlaceRule
parameters_rule k rows command =
    highest parts.Parameters (min (2 ^ 64 - 1) (params_length (length rows) (length command)))
    (last_address k.above4g)

-- a module of a Multiboot kernel, so that the address behind its last page is below 4 GiB
abbrev pub module_rule : AskedModule → PlaceRule
module_rule m = highest parts.Module (length m.bytes) (2 ^ 32 - 4097)

-- its information: the length of what is made for these rows, this command and these modules, as a number of 64 bits
abbrev pub information_rule : List Row → List ℕ → List PlacedModule → PlaceRule
information_rule rows command modules =
    highest parts.Information (min (2 ^ 64 - 1) (info_size (length rows) (length command) modules))
    (2 ^ 32 - 1)
