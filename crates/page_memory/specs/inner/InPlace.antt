-- A memory file that is made in the buffer of its memory. This project's own, and no public clause speaks of it.
-- No clause of `kexec` reaches what stands here: it serves laws, and contracts inside the crates.
use Rattle.std.specs.Prelude.{◌≡◌, ℕ, ◌+◌, ◌*◌, ◌/◌, ◌%◌, ◌<◌, ◌≤◌, List, [], ◌∷◌, length, map, slice_index, ◌==◌}
use Rattle.std.specs.List.{AllByRecursion, IsDistinct, flat_map}
use Rattle.page_memory.specs.File.{page_text}
use Rattle.page_memory.specs.inner.Frames.{frame_in}

-- the place of the frame in slot i
abbrev pub place : ℕ → ℕ
place i = 24 + 4104 * i

-- the slots in which the frames of these pages lie
abbrev pub slots_of : List (ℕ × ℕ) → List ℕ
slots_of es = map (λ e. e.1 / 4104) es

-- pages whose frames lie in slots of their own
pub record AreInSlots (frames : List ℕ) (es : List (ℕ × ℕ)) : Type 0 where
  pub inside : AllByRecursion (λ e. e.1 + 4096 ≤ length frames) es
  pub slots : AllByRecursion (λ e. e.1 % 4104 ≡ 24) es
  pub apart : IsDistinct ◌==◌ (slots_of es)

-- `slots` has the slot of each page of the file, and `owners` the page of each slot: a number past the last page where the
-- slot has none. The first k pages own the slots that they have in the file.
pub record AreOwned (slots owners : List ℕ) (k : ℕ) : Type 0 where
  pub inside : (j : ℕ) → j < length slots → slice_index slots j < length owners
  pub owned : (j : ℕ) → j < length slots → slice_index owners (slice_index slots j) ≡ j
  pub settled : (j : ℕ) → j < k → slice_index owners j ≡ j

-- in each slot that one of the first n pages owns lies the frame of this page
abbrev pub Holds : (ℕ → List ℕ) → List ℕ → List ℕ → ℕ → Type 0
Holds frame_of frames owners n =
    (i : ℕ) → i < length owners → slice_index owners i < n
    → frame_in frames (place i) ≡ frame_of (slice_index owners i)

-- Where frames stand as `Holds` says, they do so afterwards.
abbrev pub StillHold : List ℕ → List ℕ → List ℕ → List ℕ → ℕ → Type 0
StillHold old old_owners new new_owners n =
    (frame_of : ℕ → List ℕ) → Holds frame_of old old_owners n → Holds frame_of new new_owners n

-- Where frames stand as `Holds` says, that of each page comes to lie in the slot that the page has in the file.
abbrev pub AreArranged : List ℕ → List ℕ → List ℕ → ℕ → Type 0
AreArranged old owners new n =
    (frame_of : ℕ → List ℕ) → Holds frame_of old owners n → (j : ℕ) → j < n
    → frame_in new (place j) ≡ frame_of j

-- each slot that a page owns is the one that the page has
abbrev pub AreSlotsOf : List ℕ → List ℕ → Type 0
AreSlotsOf slots owners =
    (i : ℕ) → i < length owners → slice_index owners i < length slots
    → slice_index slots (slice_index owners i) ≡ i

-- the pages with the frames of the slots from k on
abbrev pub slot_entries : List ℕ → ℕ → List (ℕ × ℕ) → List (ℕ × List ℕ)
slot_entries frames k [] = []
slot_entries frames k (e ∷ es) = (e.0, frame_in frames (place k)) ∷ slot_entries frames (k + 1) es

-- the slots of a file, with these pages' numbers
abbrev pub slot_texts : List ℕ → List (ℕ × ℕ) → List ℕ
slot_texts frames es = flat_map page_text (slot_entries frames 0 es)

-- the frame of each of these pages lies in the slot that the page has in the file
abbrev pub AreGathered : List ℕ → List ℕ → List (ℕ × ℕ) → Type 0
AreGathered old new es =
    (j : ℕ) → j < length es
    → frame_in new (place j) ≡ frame_in old (place (slice_index (slots_of es) j))
