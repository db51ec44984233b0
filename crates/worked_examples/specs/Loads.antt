-- What the loads of the examples come to (this project's own).
use Rattle.std.specs.Prelude.{ℕ, List, [], ◌∷◌, map, Option}
use Rattle.std.specs.Option.{option_map}
use Rattle.kx_pages.specs.Items.{code}
use Rattle.kx_pages.specs.declared.image.Wish.{Wish}
use Rattle.kx_pages.specs.declared.image.Image.{Image}
use Rattle.kx_pages.specs.Bytes.{Mem}
use Rattle.segments.specs.Values.{SegmentValue}
use Rattle.kimage_list.specs.Load.{Loading}
use Rattle.kimage_list.specs.Laying.{list_of, image_of}
use Rattle.load_states.specs.Loads.{entries_of, loading_of, memory_of}

-- where a load of `abc` to page 2 stands that took pages 10, 11 and 12
abbrev pub three_bytes_loaded : Loading
three_bytes_loaded =
    record { left = []; filed = []; pairs = (2, 0x12) ∷ []; spare = 0x10 ∷ 0x11 ∷ [] }

-- of a load of segments from a pool of these pages the words of its list, the head word first: None where the pool runs
-- out
abbrev pub words_of : Wish → List SegmentValue → List ℕ → Option (List ℕ)
words_of wish ss pool =
    option_map (λ l. map code (list_of wish (entries_of ss) l)) (loading_of wish ss pool)

-- its image
abbrev pub image_laid : Wish → List SegmentValue → List ℕ → Option Image
image_laid wish ss pool = option_map (λ l. image_of wish l) (loading_of wish ss pool)

-- what page p of the memory that it leaves reads as
abbrev pub page_laid : Mem → Wish → List SegmentValue → List ℕ → ℕ → Option (List ℕ)
page_laid M wish ss pool p = option_map (λ l. memory_of M wish ss l p) (loading_of wish ss pool)
