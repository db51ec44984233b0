-- The parts of the slots as states (this project's own).
-- No clause of `kexec` reaches what stands here: it serves laws, and contracts inside the crates.
use Rattle.std.specs.Prelude.{option_map}
use Rattle.image_slots.specs.declared.stage.NormalImage.{NormalImage}
use Rattle.image_slots.specs.declared.stage.CrashImage.{CrashImage}
use Rattle.image_slots.specs.declared.stage.Stage.{Stage as StageOf}
use Rattle.image_slots.specs.declared.stage.Stage.TheVariants as stages
use Rattle.image_slots.specs.declared.stage.Load.{Load}
use Rattle.image_slots.specs.declared.parts.Parts.{Parts}
use Rattle.image_slots.specs.States.{Crash, Normal, Stage, Draft, Written, Placed, State, Underway}
use Rattle.image_slots.specs.inner.States.{SlotsValue, state_of}

abbrev pub normal_of : NormalImage → Normal
normal_of n = record { image = n.image; segments = n.segments; pages = n.pages }

abbrev pub crash_of : CrashImage → Crash
crash_of c = record { head = c.head; segments = c.segments }

abbrev pub stage_of : StageOf → Stage
stage_of (stages.Draft kind list) = Draft kind list.items
stage_of (stages.Normal n) = Written (normal_of n)
stage_of (stages.Crash c) = Placed (crash_of c)

abbrev pub load_of : Load → Underway
load_of l = record { caller = l.caller; stage = stage_of l.stage }

abbrev pub value_of : Parts → SlotsValue
value_of p =
    record {
      memory = p.memory;
      left = p.left;
      ram = p.ram;
      area = p.area;
      load = option_map load_of p.load;
      normal = option_map normal_of p.normal;
      crash = option_map crash_of p.crash;
      gone = p.gone;
    }

abbrev pub state_in : Parts → State
state_in p = state_of (value_of p)
