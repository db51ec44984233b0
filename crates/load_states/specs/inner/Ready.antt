-- Accepted lists in the memory that a state owns.
-- No clause of `kexec` reaches what stands here: it serves laws, and contracts inside the crates.
use Rattle.std.specs.Prelude.{◌≡◌, ℕ, ◌<◌, ◌^◌, ◌++◌, List, [], ◌∷◌, length}
use Rattle.std.specs.List.{AllByRecursion}
use Rattle.kx_pages.specs.declared.item.Item.{Item}
use Rattle.kx_pages.specs.declared.image.Mode.{Mode}
use Rattle.kx_pages.specs.declared.image.Mode.TheVariants.{Plain, Kept}
use Rattle.kx_pages.specs.Lists.{Has, destinations, sources}
use Rattle.page_memory.specs.Contents.{Contents, at}
use Rattle.kx_pages.specs.Bytes.{Mem}
use Rattle.relocate_machine.specs.inner.Writes.{AreHeld, move_writes}
use Rattle.segments.specs.Values.{want}
use Rattle.list_checker.specs.Walk.{AcceptedKept, links, pairs}
use Rattle.load_states.specs.States.{Checked}
use Rattle.load_states.specs.Ready.{Told}

-- the pages that the pairs' moves write: their destinations, and with context preserved also their sources and the swap
-- page
abbrev pub written_pages : Mode → List (ℕ × ℕ) → List ℕ
written_pages Plain qs = destinations qs
written_pages (Kept swap) qs = destinations qs ++ (sources qs ++ swap ∷ [])

-- each page that the pairs' moves write is held
abbrev pub HoldsPairs : Contents → Mode → List (ℕ × ℕ) → Type 0
HoldsPairs m mode qs =
    AllByRecursion (λ q. (q.0 < 2 ^ 34) × AreHeld m (move_writes mode q.0 q.1)) qs

-- a plain list is accepted in the memory that the state owns, and each page that its run writes is held
pub record IsReadyPlain (c : Checked) : Type 0 where
  pub mode : c.load.image.mode ≡ Plain
  pub told : Told c.load c.words c.links c.pairs
  pub held : HoldsPairs c.load.memory Plain c.pairs

-- These items are a list that is accepted in the memory M with context preserved. Their words stand in the memory that
-- the state owns, and each page that their run writes is held.
pub record IsKept (M : Mem) (c : Checked) (swap : ℕ) (items : List Item) : Type 0 where
  pub mode : c.load.image.mode ≡ Kept swap
  pub accepted : AcceptedKept M (want c.load.segments) c.load.image.head
      c.load.image.control swap items
  pub count : length items ≡ c.words
  pub link_pages : length (links items) ≡ c.links
  pub same_pairs : pairs items ≡ c.pairs
  pub words : (p : ℕ) → Has p (links items) → at c.load.memory p ≡ M p
  pub held : HoldsPairs c.load.memory (Kept swap) c.pairs

-- the list is accepted in the memory that the state owns
pub record IsReadyKept (c : Checked) : Type 0 where
  pub swap : ℕ
  pub items : List Item
  pub kept : IsKept (at c.load.memory) c swap items

-- the list was accepted in the memory before its first run
pub record IsToGoBack (c : Checked) : Type 0 where
  pub before : Mem
  pub swap : ℕ
  pub items : List Item
  pub kept : IsKept before c swap items
