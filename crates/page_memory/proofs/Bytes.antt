-- Pages as blocks of bytes.
use Rattle.std.proofs.Common.{◌∙◌, ℕ, ◌+◌, ◌-◌, ◌≤◌, List, length, take, arith}
use Rattle.std.proofs.lemmas.List.{length-replicate}
use Rattle.kx_fields.specs.Fields.{AreBytes, IsBlock, with_field, zeros}
use Rattle.kx_fields.proofs.Fields.{length-with_field}
use Rattle.kx_fields.proofs.Bytes.{AreBytes-append, AreBytes-take, AreBytes-zeros, AreBytes-with_field}
use Rattle.kx_pages.specs.Bytes.{page_of}
use Rattle.kx_pages.proofs.Bytes.{length-page_of}
use Rattle.page_memory.specs.Contents.{zero_page}
use Rattle.page_memory.specs.inner.Contents.{page_with_word}

pub IsBlock-zero_page : IsBlock 4096 zero_page
unfolding zero_page zeros
IsBlock-zero_page = record { long = length-replicate {A = ℕ} 4096 0; each = AreBytes-zeros 4096 }

pub IsBlock-page_of : (xs : List ℕ) → AreBytes xs → IsBlock 4096 (page_of xs)
unfolding page_of zeros
IsBlock-page_of xs each = record {
  long = length-page_of xs;
  each = AreBytes-append (take 4096 xs) (zeros (4096 - length xs)) (AreBytes-take 4096 xs each) (AreBytes-zeros (4096 - length xs));
}

pub IsBlock-page_with_word : (xs : List ℕ) (place v : ℕ) → place + 8 ≤ 4096 → IsBlock 4096 xs → IsBlock 4096 (page_with_word xs place v)
unfolding page_with_word with_field
IsBlock-page_with_word xs place v fits page = record {
  long = length-with_field place 8 v xs (omega (arith, fits, page.long)) ∙ page.long;
  each = AreBytes-with_field place 8 v xs page.each;
}
