-- What a bzImage reads as, or its first fault (Linux/x86 boot protocol, "The Real-Mode Kernel Header" and "Loading The
-- Rest of The Kernel"; the order of faults, and the limits of the header's end and of the alignment, are this project's
-- own).
-- No clause of `kexec` reaches what stands here: it serves laws, and contracts inside the crates.
use Rattle.std.specs.Prelude.{ℕ, ◌-◌, ◌^◌, ◌<◌, ◌≤◌, IsTrue, length}
use Rattle.std.specs.Int.{IsPowerOfTwo}
use Rattle.bzimage.specs.declared.setup_header.SetupHeader.{SetupHeader}
use Rattle.bzimage.specs.Kernel.{Kernel, header_end, kernel_start, is_alignment}

-- what is so of the setup header of a file of n bytes that passed the tests
pub record IsTested (n : ℕ) (h : SetupHeader) : Type 0 where
  pub least_end : 0x264 ≤ header_end h
  pub most_end : header_end h ≤ 0x290
  pub align : IsTrue (is_alignment h.kernel_alignment)
  pub whole : header_end h ≤ n
  pub start : kernel_start h < n

-- these numbers have 32 bits in the file
pub record HasSmallNumbers (k : Kernel) : Type 0 where
  pub init_size : k.init_size < 2 ^ 32
  pub command_most : k.command_most < 2 ^ 32
  pub initrd_max : k.initrd_max < 2 ^ 32

-- what is so of each kernel that is read from a file of n bytes
pub record IsSound (n : ℕ) (k : Kernel) : Type 0 where
  pub least_header : 0x264 - 0x1f1 ≤ length k.header
  pub most_header : length k.header ≤ 0x290 - 0x1f1
  pub align : IsPowerOfTwo k.align
  pub least_align : 4096 ≤ k.align
  pub most_align : k.align ≤ 2 ^ 30
  pub start : k.start < n
  pub numbers : HasSmallNumbers k
