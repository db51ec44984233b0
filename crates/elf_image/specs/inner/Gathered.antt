-- What is read of each of some things, one after another, or the first refusal (this project's own).
-- No clause of `kexec` reaches what stands here: it serves laws, and contracts inside the crates.
use Rattle.std.specs.Prelude.{◌++◌, List, Result, Ok}
use Rattle.kx_laws.specs.Results.{◌>>=◌}
use Rattle.kx_laws.specs.inner.Results.{Gives}
use Rattle.elf_image.specs.declared.fault.ElfFault.{ElfFault}
use Rattle.elf_image.specs.declared.fault.ElfFault.TheVariants as faults

-- behind others
abbrev pub onto : {B : Type 0} → List B → Result (List B) ElfFault → Result (List B) ElfFault
onto xs r = r >>= λ ys. Ok (xs ++ ys)

-- a call put what reading gives behind the old ones, unless memory ran out
abbrev pub Adds : {X B : Type 0} → List B → List B → Result X ElfFault
    → Result (List B) ElfFault → Type 0
Adds old new result r = Gives faults.Memory (λ _. new) result (onto old r)
