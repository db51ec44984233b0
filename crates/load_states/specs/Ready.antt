-- Accepted lists in the memory that a state owns.
use Rattle.std.specs.Prelude.{◌≡◌, ℕ, List, length}
use Rattle.kx_pages.specs.declared.item.Item.{Item}
use Rattle.page_memory.specs.Contents.{at}
use Rattle.segments.specs.Values.{want}
use Rattle.list_checker.specs.Walk.{IsAccepted, links, pairs}
use Rattle.load_states.specs.States.{Load}
use Rattle.kx_pages.specs.Modes.{swap_page}

-- the list of the load is accepted for its segments in its memory and mode, by a walk of so many words with so many link
-- pages and these pairs
pub record Told (s : Load) (words link_count : ℕ) (qs : List (ℕ × ℕ)) : Type 0 where
  pub items : List Item
  pub accepted : IsAccepted (at s.memory) (want s.segments) s.image.head s.image.control
      (swap_page s.image.mode) items
  pub count : length items ≡ words
  pub link_pages : length (links items) ≡ link_count
  pub same_pairs : pairs items ≡ qs
