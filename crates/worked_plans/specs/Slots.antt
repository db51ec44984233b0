-- States of the slots and of a load (this project's own).
use Rattle.std.specs.Prelude.{ℕ, List, [], ◌∷◌, Some, None, false, replicate}
use Rattle.std.specs.FinMap.{empty}
use Rattle.kx_pages.specs.declared.image.Mode.{Mode}
use Rattle.kx_pages.specs.declared.image.Mode.TheVariants as modes
use Rattle.page_memory.specs.Contents.{Contents}
use Rattle.image_slots.specs.States.{Normal, State, Written}
use Rattle.load_states.specs.States.{Load, no_pages}

-- a normal image without segments, for which these pages were drawn
abbrev pub normal_image : List ℕ → Normal
normal_image pages = record {
  image = record { head = 4; mode = modes.Plain; control = 0x14 };
  segments = [];
  pages = pages;
}

-- caller 7 has written a load, and an image is installed
abbrev pub state_of : State
state_of = record {
  memory = λ p. replicate 4096 0;
  left = 0x10 ∷ 0x11 ∷ [];
  ram = [];
  area = None;
  load = Some (record { caller = 7; stage = Written (normal_image (0x12 ∷ 0x13 ∷ [])) });
  normal = Some (normal_image (0x14 ∷ 0x15 ∷ []));
  crash = None;
  gone = false;
}

abbrev pub a_memory : Contents
a_memory = record { pages = empty; sets = 3 }

-- a load in this mode
abbrev pub load_of : Mode → Load
load_of mode = record {
  memory = record { pages = empty; sets = 2 };
  pool = no_pages;
  image = record { head = 0x1_1002; mode = mode; control = 0x1_0000 };
  segments = [];
}
