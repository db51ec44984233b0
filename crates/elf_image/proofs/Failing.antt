-- What a step fails with: the reading's own refusal, or want of memory.
use Rattle.std.proofs.Common.{◌≡◌, ap, Err, Result, inl, inr}
use Rattle.std.specs.Prelude.{◌⊎◌}
use Rattle.kx_laws.specs.Results.{◌>>=◌}
use Rattle.elf_image.specs.declared.fault.ElfFault.{ElfFault}
use Rattle.elf_image.specs.declared.fault.ElfFault.TheVariants as faults

abbrev pub Fails : {Y : Type 0} → ElfFault → Result Y ElfFault → Type 0
Fails e r = (r ≡ Err e) ⊎ (e ≡ faults.Memory)

pub fails_err : {Y : Type 0} (e : ElfFault) (r : Result Y ElfFault) → r ≡ Err e → Fails e r
fails_err e r h = inl h

-- what goes on with a reading fails as it does
pub fails_on : {Y Z : Type 0} (e : ElfFault) (r : Result Y ElfFault) (f : Y → Result Z ElfFault) → Fails e r → Fails e (r >>= f)
fails_on e r f (inl h) = inl (ap (λ y. y >>= f) h)
fails_on e r f (inr m) = inr m
