-- What the calls answer, by the memory, the segments and the image handed in (this project's own).
use Rattle.std.specs.Prelude.{ℕ, List, None}
use Rattle.kx_pages.specs.declared.image.Image.{Image}
use Rattle.page_memory.specs.Contents.{Contents, at}
use Rattle.segments.specs.Values.{SegmentValue, want, pages}
use Rattle.kx_pages.specs.declared.item.Item.{Item}
use Rattle.list_checker.specs.declared.fault.Why.{Why}
use Rattle.list_checker.specs.declared.earlier.Pair.{Pair}
use Rattle.list_checker.specs.Walk.{IsAccepted}
use Rattle.list_checker.specs.Faults.{nothing_earlier, Faulty}
use Rattle.kx_pages.specs.Modes.{swap_page}

abbrev pub as_pair : Pair → ℕ × ℕ
as_pair q = (q.destination, q.source)

-- the first fault, of a list that is not accepted
abbrev pub IsFirstFault : Contents → List SegmentValue → Image → ℕ → Why → Type 0
IsFirstFault m S im n why =
    Faulty (at m) (want S) (pages S) im.control (swap_page im.mode) None nothing_earlier
    im.head n why
    × ((is : List Item) → IsAccepted (at m) (want S) im.head im.control (swap_page im.mode) is → ⊥)
