-- A bzImage with a setup of one sector and one byte behind it (Linux/x86 boot protocol, "The Real-Mode Kernel Header"):
-- each field by its name, place and width.
use Rattle.std.specs.Prelude.{ℕ, ◌++◌, Bool, List, [], ◌∷◌, take, drop, true, false}
use Rattle.kx_fields.specs.Fields.{with_field, zeros}
use Rattle.bzimage.specs.Kernel.{Kernel}

-- the first 0x264 bytes, with these xloadflags: 1 for a kernel below 4 GiB, 3 for one that may lie above
abbrev pub setup : ℕ → List ℕ
setup xloadflags =
    with_field 0x1f1 1 1  -- setup_sects
    (with_field 0x1fe 2 0xaa55  -- boot_flag
    (with_field 0x200 2 0x62eb  -- jump
    (with_field 0x202 4 0x53726448  -- header
    (with_field 0x206 2 0x20f  -- version
    (with_field 0x211 1 1  -- loadflags
    (with_field 0x22c 4 0x6f_ffff  -- initrd_addr_max
    (with_field 0x230 4 0x4000  -- kernel_alignment
    (with_field 0x234 1 1  -- relocatable_kernel
    (with_field 0x236 2 xloadflags
    (with_field 0x238 4 22  -- cmdline_size
    (with_field 0x258 8 0x18_2000  -- pref_address
    (with_field 0x260 4 0x3000  -- init_size
    (zeros 0x264)))))))))))))

-- the file, which has one byte behind two sectors
abbrev pub linux_file : ℕ → List ℕ
linux_file xloadflags = setup xloadflags ++ (zeros 0x19c ++ 0xeb ∷ [])

-- what it is read as: a kernel that may lie above 4 GiB, or one that may not
abbrev pub linux_read : ℕ → Bool → Kernel
linux_read xloadflags above4g = record {
  header = take 0x73 (drop 0x1f1 (linux_file xloadflags));
  start = 1024;
  align = 0x4000;
  init_size = 0x3000;
  pref = 0x18_2000;
  above4g = above4g;
  command_most = 22;
  initrd_max = 0x6f_ffff;
}

abbrev pub high_kernel : Kernel
high_kernel = linux_read 3 true

abbrev pub low_kernel : Kernel
low_kernel = linux_read 1 false
