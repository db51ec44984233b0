-- How runs come out, and what they leave, in the examples (this project's own).
use Rattle.std.specs.Prelude.{◌≡◌, ℕ, List, [], ◌∷◌}
use Rattle.kx_pages.specs.declared.image.Mode.{Mode}
use Rattle.page_memory.specs.Contents.{Contents, at}
use Rattle.kx_pages.specs.Bytes.{Mem}
use Rattle.page_memory.specs.inner.Memory.{copied_page}
use Rattle.relocate_machine.specs.declared.step.Outcome.{Outcome}
use Rattle.relocate_machine.specs.Run.{run_of}
use Rattle.kx_pages.specs.declared.image.Mode.TheVariants.{Plain}
use Rattle.load_states.specs.States.{Load, no_pages}

-- the run of this list comes out so, and leaves this memory
pub record ComesOut (m : Contents) (head : ℕ) (mode : Mode) (limit : ℕ) (how : Outcome) (left : Mem)
    : Type 0 where
  pub outcome : (run_of m head mode limit).1 ≡ how
  pub memory : at (run_of m head mode limit).0.memory ≡ left

-- page s moved to page d by way of page w: the copies s to w, d to s and w to d
abbrev pub swapped_page : Mem → ℕ → ℕ → ℕ → Mem
swapped_page M s d w = copied_page (copied_page (copied_page M s w) d s) w d

-- the pairs of a kept list in which page 2 stays and page 3 comes from page 13
abbrev pub one_pair_at_home : List (ℕ × ℕ)
one_pair_at_home = (2, 2) ∷ (3, 0x13) ∷ []

-- what its moves leave, with swap page 11
abbrev pub moved_in_turn : Mem → Mem
moved_in_turn M = swapped_page (swapped_page M 2 2 0x11) 0x13 3 0x11

-- a load of no segments in this memory, whose list has this head
abbrev pub load_with : Contents → ℕ → Load
load_with m head = record {
  memory = m;
  pool = no_pages;
  image = record { head = head; mode = Plain; control = 0x10 };
  segments = [];
}
