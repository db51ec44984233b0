-- Events one after another (this project's own).
use Rattle.std.specs.Prelude.{◌≡◌, ◌↔◌, ℕ, ◌≤◌, List, [], ◌∷◌, false, Option, None}
use Rattle.kx_pages.specs.Bytes.{Mem}
use Rattle.kx_pages.specs.Lists.{count}
use Rattle.kx_pages.specs.Spans.{Run}
use Rattle.image_slots.specs.declared.reply.Reply.{Reply}
use Rattle.image_slots.specs.declared.reply.Reply.TheVariants.{Busy, NoPages}
use Rattle.image_slots.specs.Events.{EventValue}
use Rattle.image_slots.specs.Pages.{all_pages}
use Rattle.image_slots.specs.Soundness.{AreAccepted, IsBusy, IsShort}
use Rattle.image_slots.specs.States.{State}
use Rattle.image_slots.specs.Steps.{step}

-- no load is under way, and no image is installed or was run
abbrev pub fresh : Mem → (left : List ℕ) → (ram : List Run) → (area : Option Run) → State
fresh M left ram area =
    record {
      memory = M;
      left = left;
      ram = ram;
      area = area;
      load = None;
      normal = None;
      crash = None;
      gone = false;
    }

-- what is answered to each of these events
abbrev pub replies_to : State → List EventValue → List Reply
replies_to s [] = []
replies_to s (e ∷ es) = (step s e).0 ∷ replies_to (step s e).1 es

-- the state after all of them
abbrev pub after_events : State → List EventValue → State
after_events s [] = s
after_events s (e ∷ es) = after_events (step s e).1 es

-- What is written or installed is accepted in the memory as it is, and the pages left, those of the load under way and
-- those of the installed normal image are together these, each once.
pub record IsKept (pages : List ℕ) (s : State) : Type 0 where
  pub accepted : AreAccepted s
  pub together : (x : ℕ) → count x (all_pages s) ≡ count x pages
  pub once : (x : ℕ) → count x (all_pages s) ≤ 1

-- Busy is answered to the event exactly where another caller's load is under way, and names this caller
abbrev pub IsBusyExactly : State → EventValue → Type 0
IsBusyExactly s e = (caller : ℕ) → ((step s e).0 ≡ Busy caller) ↔ IsBusy s e caller

-- NoPages is answered to the event exactly where a load is written that takes more pages than are left, and names both
abbrev pub IsShortExactly : State → EventValue → Type 0
IsShortExactly s e = (pool need : ℕ) → ((step s e).0 ≡ NoPages pool need) ↔ IsShort s e pool need

-- so it is before the first of these events and after each one, until an image was run
abbrev pub AreKept : List ℕ → State → List EventValue → Type 0
AreKept pages s [] = s.gone ≡ false → IsKept pages s
AreKept pages s (e ∷ es) =
    (s.gone ≡ false → IsKept pages s) × IsBusyExactly s e × IsShortExactly s e
    × AreKept pages (step s e).1 es
