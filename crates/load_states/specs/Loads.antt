-- What a load of segments lays (this project's own).
use Rattle.std.specs.Prelude.{ℕ, ◌/◌, List, [], ◌∷◌, ◌++◌, Option}
use Rattle.kx_pages.specs.declared.image.Wish.{Wish}
use Rattle.kx_pages.specs.Bytes.{Mem}
use Rattle.kimage_list.specs.Load.{Loading, Entry, Start, page_entries, loading_after}
use Rattle.kimage_list.specs.Laying.{lay}
use Rattle.segments.specs.Values.{SegmentValue, page_count, is_destination, want}

-- the entries of segments: of each its destination entry, and a source entry for each of its pages
abbrev pub entries_of : List SegmentValue → List Entry
entries_of [] = []
entries_of (s ∷ ss) =
    Start (s.mem / 4096) ∷ page_entries (s.mem / 4096) (page_count s) ++ entries_of ss

-- where a load of segments stands that has written all entries, over a pool of these usable pages
abbrev pub loading_of : Wish → List SegmentValue → List ℕ → Option Loading
loading_of wish ss pool = loading_after (is_destination ss) wish (entries_of ss) pool

-- the memory that it leaves: M, but for the list and the sources
abbrev pub memory_of : Mem → Wish → List SegmentValue → Loading → Mem
memory_of M wish ss l = lay M (want ss) wish (entries_of ss) l
