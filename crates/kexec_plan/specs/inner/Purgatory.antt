-- The purgatory: code that runs between the old kernel and the new one. It finds the registers of the new kernel, the
-- regions that it tests and their digest in three symbols, and starts at a fourth (names, sizes and the
-- order of the registers are those of Linux's own purgatory, arch/x86/purgatory).
-- No clause of `kexec` reaches what stands here: it serves laws, and contracts inside the crates.
use Rattle.std.specs.Prelude.{◌≡◌, ℕ, ◌+◌, ◌%◌, ◌^◌, ◌<◌, ◌≤◌, Option, Some, None, Ok}
use Rattle.elf_image.specs.inner.Object.{IsObject}
use Rattle.purgatory_link.specs.Layout.{linked_size}
use Rattle.kexec_plan.specs.declared.places.Site.{Site}
use Rattle.kexec_plan.specs.declared.symbols.Symbols.{Symbols}
use Rattle.kexec_plan.specs.Purgatory.{PurgatoryValue}

-- what is so of each
pub record IsPurgatory (p : PurgatoryValue) : Type 0 where
  pub object : IsObject p.object p.file
  pub size : linked_size p.object.sections ≡ Ok p.size
  pub some : 4096 ≤ p.size
  pub most : p.size ≤ 16777216
  pub whole : p.size % 4096 ≡ 0

-- a purgatory at its place
abbrev pub IsLinkable : Option PurgatoryValue → Option Site → Type 0
IsLinkable (Some p) (Some s) = (s.at % 4096 ≡ 0) × (s.at + p.size < 2 ^ 46)
IsLinkable (Some p) None = Unit {0}
IsLinkable None s = Unit {0}

-- the three symbols lie in the linked bytes
pub record HasSymbols (base n : ℕ) (s : Symbols) : Type 0 where
  pub regs_from : base ≤ s.regs
  pub regs_to : s.regs + 136 ≤ base + n
  pub regions_from : base ≤ s.regions
  pub regions_to : s.regions + 256 ≤ base + n
  pub digest_from : base ≤ s.digest
  pub digest_to : s.digest + 32 ≤ base + n
