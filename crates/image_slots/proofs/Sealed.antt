-- A load that is sealed over pages that differ is written.
use Rattle.std.proofs.Common.{◌≡◌, ℕ, List, sym, ap, ◌∙◌}
use Rattle.kx_pages.specs.Bytes.{Mem}
use Rattle.kx_pages.specs.declared.image.Wish.{Wish}
use Rattle.kx_pages.specs.declared.image.Image.{Image}
use Rattle.page_memory.specs.Contents.{Contents, at}
use Rattle.segments.specs.Values.{SegmentValue}
use Rattle.load_states.specs.Fillings.{IsSealed}
use Rattle.load_states.specs.Loads.{loading_of}
use Rattle.load_states.specs.States.{Load}
use Rattle.image_slots.specs.inner.Soundness.{IsWritten}

pub sealed_is_written : (M : Mem) (wish : Wish) (ss : List SegmentValue) (pages left : List ℕ) (r : Load) (memory : Contents) (image : Image) (segments : List SegmentValue) → left ≡ pages → memory ≡ r.memory → image ≡ r.image → segments ≡ r.segments
    → IsSealed M left wish ss r → IsWritten M wish ss pages (at memory) (record { image = image; segments = segments; pages = pages })
sealed_is_written M wish ss pages left r memory image segments same same_memory same_image same_segments k = record {
  loading = k.loading;
  requests = ap (loading_of wish ss) (sym same) ∙ k.requests;
  memory = λ p. ap (λ (m : Contents). at m p) same_memory ∙ k.memory p;
  image = λ i. record { image = (same_image ∙ k.image) i; segments = (same_segments ∙ k.segments) i; pages = pages };
}
