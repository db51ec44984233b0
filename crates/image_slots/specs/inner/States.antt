-- What contracts see of the slots (this project's own).
-- No clause of `kexec` reaches what stands here: it serves laws, and contracts inside the crates.
use Rattle.std.specs.Prelude.{ℕ, List, Bool, Option}
use Rattle.kx_pages.specs.Spans.{Run}
use Rattle.page_memory.specs.Contents.{Contents, at}
use Rattle.image_slots.specs.States.{Normal, Crash, Underway, State}

-- what a clause sees of Slots
pub record SlotsValue : Type 0 where
  pub memory : Contents
  pub left : List ℕ  -- the pages left in the pool, in the order of drawing
  pub ram : List Run
  pub area : Option Run  -- reserved for a crash kernel
  pub load : Option Underway
  pub normal : Option Normal  -- installed
  pub crash : Option Crash  -- installed
  pub gone : Bool  -- an image was run

abbrev pub state_of : SlotsValue → State
state_of v =
    record {
      memory = at v.memory;
      left = v.left;
      ram = v.ram;
      area = v.area;
      load = v.load;
      normal = v.normal;
      crash = v.crash;
      gone = v.gone;
    }
