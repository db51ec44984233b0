-- What is read of each of some things, one after another, or the first refusal (this project's own).
use Rattle.std.specs.Prelude.{◌++◌, List, [], ◌∷◌, Result, Ok}
use Rattle.kx_laws.specs.Results.{◌>>=◌}
use Rattle.elf_image.specs.declared.fault.ElfFault.{ElfFault}

-- all that f gives of these, one after another, or the first fault
unfoldable pub gather : {A B : Type 0} → (A → Result (List B) ElfFault) → List A
    → Result (List B) ElfFault
gather f [] = Ok []
gather f (x ∷ xs) = do
  ys ← f x
  more ← gather f xs
  Ok (ys ++ more)

-- one alone
abbrev pub one : {B : Type 0} → Result B ElfFault → Result (List B) ElfFault
one r = r >>= λ y. Ok (y ∷ [])

-- what f gives of each of these, or the first fault
abbrev pub each : {A B : Type 0} → (A → Result B ElfFault) → List A → Result (List B) ElfFault
each f xs = gather (λ x. one (f x)) xs
