-- Place by place.
use Rattle.std.proofs.Common.{◌<◌, ℕ, zero, suc, arith, refl}
use Rattle.std.specs.Prelude.{[], ◌∷◌, slice_index}
use Rattle.worked_examples.proofs.memories.blocks_of_bytes.Goals as goal

small : (k : ℕ) → slice_index (1 ∷ 255 ∷ []) k < 256
small zero = omega (arith)
small (suc zero) = omega (arith)
small (suc (suc k)) = omega (arith)

pub returns-clause-two : goal.returns-clause-two
returns-clause-two c = record { long = refl; each = small }

pub returns-clause-no_byte : goal.returns-clause-no_byte
returns-clause-no_byte c = λ a. omega (arith, a.each 1)

pub returns-clause-short : goal.returns-clause-short
returns-clause-short c = λ a. omega (arith, a.long)
