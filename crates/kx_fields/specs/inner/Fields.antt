-- Fields in a list of bytes: numbers of whole bytes at a place, the lowest byte first (little endian), as the ELF
-- gABI's ELFDATA2LSB, the Linux/x86 boot protocol and the files of this project have them.
-- No clause of `kexec` reaches what stands here: it serves laws, and contracts inside the crates.
use Rattle.std.specs.Prelude.{ℕ, ◌+◌, ◌≤◌, ◌⊎◌, ℤ}
use Rattle.std.specs.Int.{cast_unsigned, w64}

-- a field of u bytes at b and one of w bytes at this place have no byte in common
abbrev pub IsApart : ℕ → ℕ → ℕ → ℕ → Type 0
IsApart b u at w = (b + u ≤ at) ⊎ (at + w ≤ b)

abbrev pub unsigned : ℤ → ℕ
unsigned z = cast_unsigned w64 z
