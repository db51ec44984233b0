-- What clauses see of the states from a load to its run (this project's own).
use Rattle.std.specs.Prelude.{ℕ, ◌^◌, List, [], unwrap_or}
use Rattle.std.specs.FinMap.{empty}
use Rattle.kx_pages.specs.declared.image.Image.{Image}
use Rattle.page_memory.specs.Contents.{Contents}
use Rattle.page_pool.specs.Pages.{Pages}
use Rattle.segments.specs.Values.{SegmentValue}
use Rattle.kx_pages.specs.Modes.{swap_page}

-- a memory with a list in it: the memory, the pool, what running the list takes, and the segments that it is for
pub record Load : Type 0 where
  pub memory : Contents
  pub pool : Pages
  pub image : Image
  pub segments : List SegmentValue

-- the pool of a list that was read from files: it was made of no page
abbrev pub no_pages : Pages
no_pages = record { made = []; drawn = []; limit = 2 ^ 46; marks = empty }

-- a load and what is told of its list: how many words its walk has, how many link pages, and its pairs
pub record Checked : Type 0 where
  pub load : Load
  pub words : ℕ
  pub links : ℕ
  pub pairs : List (ℕ × ℕ)

-- a memory with the head of a crash list, and the segments that it is for
pub record CrashLoad : Type 0 where
  pub memory : Contents
  pub head : ℕ
  pub segments : List SegmentValue

-- the swap page of a list with context preserved
abbrev pub swap_of : Load → ℕ
swap_of s = unwrap_or (swap_page s.image.mode) 0

-- the load with another memory
abbrev pub with_memory : Load → Contents → Load
with_memory s m = record s { memory = m }
