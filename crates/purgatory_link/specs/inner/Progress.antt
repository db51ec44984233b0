-- What was put so far, while relocations are put one after another (this project's own).
-- No clause of `kexec` reaches what stands here: it serves laws, and contracts inside the crates.
use Rattle.std.specs.Prelude.{◌≡◌, ℕ, List, ◌++◌, Option, Result, Err}
use Rattle.elf_image.specs.declared.reloc.Reloc.{Reloc}
use Rattle.elf_image.specs.Object.{Relocatable}
use Rattle.purgatory_link.specs.declared.fault.LinkFault.{LinkFault}
use Rattle.purgatory_link.specs.declared.put.Put.{Put}
use Rattle.purgatory_link.specs.declared.relocate.LinkBuffer.{LinkBuffer}
use Rattle.purgatory_link.specs.Relocs.{puts_of, with_puts}
use Rattle.purgatory_link.specs.inner.Taken.{AreTaken}

-- of the bytes that were there before, some fields were put: theirs are the bits of the row, the bytes hold their numbers,
-- and with them the relocations that are left put all there is to put
pub record PutSo (base : ℕ) (o : Relocatable) (starts : List (Option ℕ)) (b : LinkBuffer)
    (before : List ℕ) (all : Result (List Put) LinkFault) (left : List Reloc) : Type 0 where
  pub puts : List Put
  pub taken : AreTaken puts b.taken
  pub bytes : b.bytes.items ≡ with_puts puts before
  pub same : puts_of base o starts puts left ≡ all

-- these relocations were put, whatever was put before them and is left behind them
abbrev pub ArePut : ℕ → Relocatable → List (Option ℕ) → LinkBuffer → LinkBuffer → List Reloc
    → Type 0
ArePut base o starts old new rs =
    (before : List ℕ) (all : Result (List Put) LinkFault) (left : List Reloc)
    → PutSo base o starts old before all (rs ++ left)
    → PutSo base o starts new before all left

-- one of them is refused
abbrev pub Refuses : ℕ → Relocatable → List (Option ℕ) → LinkBuffer → List Reloc → LinkFault
    → Type 0
Refuses base o starts old rs fault =
    (before : List ℕ) (all : Result (List Put) LinkFault) (left : List Reloc)
    → PutSo base o starts old before all (rs ++ left)
    → all ≡ Err fault
