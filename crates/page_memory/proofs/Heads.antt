-- The heads of a file and of a page, as blocks of fields.
use Rattle.std.proofs.Common.{◌≡◌, ℕ, List, ap, ◌∙◌, arith}
use Rattle.std.proofs.lemmas.List.{drop-take}
use Rattle.byteorder.specs.Endian.{little_number}
use Rattle.byteorder.specs.Numbers.{little_from-take}
use Rattle.kx_fields.specs.Fields.{field, bytes_at}
use Rattle.std.proofs.Common.{drop}

pub number_got : (number : ℕ) (bytes block : List ℕ) → block ≡ bytes_at 0 8 bytes → number ≡ field 0 8 block → number ≡ field 0 8 bytes
unfolding field
number_got number bytes block is p = p ∙ ap (field 0 8) is ∙ little_from-take 0 8 8 bytes (omega arith)

pub count_got : (count : ℕ) (bytes block : List ℕ) → block ≡ bytes_at 0 16 bytes → count ≡ field 8 8 block → count ≡ field 8 8 bytes
unfolding field
count_got count bytes block is p = p ∙ ap (field 8 8) is ∙ ap (little_number 8) (drop-take 8 8 bytes) ∙ little_from-take 0 8 8 (drop 8 bytes) (omega arith)
