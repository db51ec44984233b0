-- What a bzImage reads as, or its first fault (Linux/x86 boot protocol, "The Real-Mode Kernel Header" and "Loading The
-- Rest of The Kernel"; the order of faults, and the limits of the header's end and of the alignment, are this project's
-- own).
use Rattle.std.specs.Prelude.{ℕ, ◌+◌, ◌-◌, ◌*◌, ◌^◌, ◌==◌, ◌&&◌, ◌||◌, not, Bool, List, length, take, nat_lt, nat_le, bit_and, if◌then◌else◌, Option, Some, None, Result, Ok, Err}
use Rattle.std.specs.Int.{is_power_of_two}
use Rattle.kx_laws.specs.Results.{◌>>=◌, unless}
use Rattle.kx_fields.specs.Fields.{bytes_at}
use Rattle.kx_fields.specs.Formats.{read}
use Rattle.bzimage.specs.declared.fault.BzFault.{BzFault}
use Rattle.bzimage.specs.declared.fault.BzFault.TheVariants as faults
use Rattle.bzimage.specs.declared.setup_header.SetupHeader.{SetupHeader}
use Rattle.bzimage.specs.Signature.{is_bzimage}
use Rattle.bzimage.specs.SetupHeader.{setup_header}

-- what contracts see of a BzImage
pub record Kernel : Type 0 where
  pub header : List ℕ
  pub start : ℕ
  pub align : ℕ
  pub init_size : ℕ
  pub pref : ℕ
  pub above4g : Bool
  pub command_most : ℕ
  pub initrd_max : ℕ

-- bit k of n is set
abbrev pub has_bit : ℕ → ℕ → Bool
has_bit k n = not (bit_and n (2 ^ k) == 0)

-- where the header ends: 0x202 plus the byte at 0x201, which is the offset of the jump over it
abbrev pub header_end : SetupHeader → ℕ
header_end h = 0x202 + h.jump

-- it holds init_size, and ends before the memory map of the zero page (e820_table)
abbrev pub is_header_end : ℕ → Bool
is_header_end end = nat_le 0x264 end && nat_le end 0x290

-- where the protected-mode part starts: behind the boot sector and setup_sects sectors, of which 0 stands for 4
abbrev pub kernel_start : SetupHeader → ℕ
kernel_start h = ((if h.setup_sects == 0 then 4 else h.setup_sects) + 1) * 512

-- a power of two from 4,096 to 2 ^ 30
abbrev pub is_alignment : ℕ → Bool
is_alignment a = is_power_of_two a && (nat_le 4096 a && nat_le a (2 ^ 30))

-- the header, or the first byte of the protected-mode part, is not in a file of n bytes
abbrev pub is_cut : ℕ → SetupHeader → Bool
is_cut n h = nat_lt n (header_end h) || nat_le n (kernel_start h)

-- the setup header of a file with the signature, which has 0x264 bytes or more
unfoldable pub read_header : List ℕ → Result SetupHeader BzFault
read_header file =
    if not (is_bzimage file) then Err faults.NotKernel
    else if nat_lt (length file) 0x264 then Err faults.NotKernel
    else Ok (read setup_header (take 0x264 file))

-- the first fault of the setup header of a file of n bytes. Version 2.12 is the first with xloadflags, whose bit 0 is the
-- 64-bit entry (XLF_KERNEL_64); bit 0 of loadflags is a protected-mode part for 0x100000 (LOADED_HIGH).
unfoldable pub header_fault : ℕ → SetupHeader → Option BzFault
header_fault n h =
    if nat_lt h.version 0x20c then Some (faults.OldVersion h.version)
    else if not (has_bit 0 h.xloadflags) then Some faults.No64Entry
    else if h.relocatable_kernel == 0 then Some faults.NotRelocatable
    else if not (has_bit 0 h.loadflags) then Some faults.NotHigh
    else if not (is_header_end (header_end h)) then Some (faults.HeaderLength (header_end h))
    else if not (is_alignment h.kernel_alignment) then Some (faults.BadAlignment h.kernel_alignment)
    else if is_cut n h then Some (faults.Truncated n)
    else None

-- the setup header, tested
unfoldable pub tested_header : List ℕ → Result SetupHeader BzFault
tested_header file = do
  h ← read_header file
  _ ← unless (header_fault (length file) h)
  Ok h

-- the header's bytes: from setup_sects to its end
abbrev pub header_bytes : SetupHeader → List ℕ → List ℕ
header_bytes h file = bytes_at 0x1f1 (header_end h - 0x1f1) file

-- what a file with this setup header is read as. Bit 1 of xloadflags is a kernel that may lie above 4 GiB
-- (XLF_CAN_BE_LOADED_ABOVE_4G).
abbrev pub kernel_of : SetupHeader → List ℕ → Kernel
kernel_of h header = record {
  header = header;
  start = kernel_start h;
  align = h.kernel_alignment;
  init_size = h.init_size;
  pref = h.pref_address;
  above4g = has_bit 1 h.xloadflags;
  command_most = h.cmdline_size;
  initrd_max = h.initrd_addr_max;
}

-- what a file reads as, or its first fault
unfoldable pub kernel_reading : List ℕ → Result Kernel BzFault
kernel_reading file = do
  h ← tested_header file
  Ok (kernel_of h (header_bytes h file))
