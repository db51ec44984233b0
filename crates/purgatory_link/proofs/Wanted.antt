-- What is wanted of a page is a whole page.
use Rattle.std.proofs.Common.{◌≡◌, ℕ, List, [], ◌∷◌, length, Some, Bool, true, false, refl, sym, ap, ◌∙◌}
use Rattle.std.proofs.lemmas.Option.{none-some}
use Rattle.kx_laws.proofs.Options.{some_same}
use Rattle.kx_pages.specs.Bytes.{page_of}
use Rattle.kx_pages.proofs.Bytes.{length-page_of}
use Rattle.segments.specs.Values.{SegmentValue, is_page_of_segment, bytes_from, want}

pub length-want : (ss : List SegmentValue) (p : ℕ) (bytes : List ℕ) → want ss p ≡ Some bytes → length bytes ≡ 4096
length-want [] p bytes e = absurd (none-some bytes e)
length-want (s ∷ ss) p bytes e = go (is_page_of_segment s p) refl (length-want ss p bytes)
  where
    go : (b : Bool) → is_page_of_segment s p ≡ b → (want ss p ≡ Some bytes → length bytes ≡ 4096) → length bytes ≡ 4096
    go true t ih = let e2 : Some (page_of (bytes_from s p)) ≡ Some bytes = rw t at e in ap length (sym (some_same _ _ e2)) ∙ length-page_of (bytes_from s p)
    go false t ih = ih (rw t at e)
