-- A bzImage with a setup of one sector and one byte behind it (Linux/x86 boot protocol, "The Real-Mode Kernel Header"):
-- each field by its name, place and width.
use Rattle.std.specs.Prelude.{ℕ, List, [], ◌∷◌, codes, take, drop, true, None}
use Rattle.kx_fields.specs.Fields.{with_field, zeros}
use Rattle.bzimage.specs.Kernel.{Kernel}
use Rattle.boot_params.specs.Params.{params_text}

abbrev pub bzimage_file : List ℕ
bzimage_file =
    with_field 0x1f1 1 1  -- setup_sects
    (with_field 0x1fe 2 0xaa55  -- boot_flag
    (with_field 0x200 2 0x62eb  -- jump
    (with_field 0x202 4 0x53726448  -- header
    (with_field 0x206 2 0x20f  -- version
    (with_field 0x211 1 1  -- loadflags
    (with_field 0x22c 4 0x7fffffff  -- initrd_addr_max
    (with_field 0x230 4 0x1000  -- kernel_alignment
    (with_field 0x234 1 1  -- relocatable_kernel
    (with_field 0x236 2 3  -- xloadflags
    (with_field 0x238 4 255  -- cmdline_size
    (with_field 0x258 8 0x100_0000  -- pref_address
    (with_field 0x260 4 0x3000  -- init_size
    (zeros 1025)))))))))))))

abbrev pub kernel_read : Kernel
kernel_read = record {
  header = take 0x73 (drop 0x1f1 bzimage_file);
  start = 1024;
  align = 0x1000;
  init_size = 0x3000;
  pref = 0x100_0000;
  above4g = true;
  command_most = 255;
  initrd_max = 0x7fffffff;
}

-- the parameters of a crash kernel at 5ffd000: one row of RAM, a command, and no initrd
abbrev pub crash_parameters : List ℕ
crash_parameters =
    params_text kernel_read (record { start = 0x400_0000; size = 0x200_0000; kind = 1 } ∷ [])
    (codes "quiet") 0x5ff_d000 None
