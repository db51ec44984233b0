-- What is claimed of accepted lists and first faults (this project's own).
-- No clause of `kexec` reaches what stands here: it serves laws, and contracts inside the crates.
use Rattle.std.specs.Prelude.{◌≡◌, ◌⊎◌, ℕ, suc, List, length, Option, Some, None}
use Rattle.kx_pages.specs.declared.item.Item.{Item}
use Rattle.list_checker.specs.declared.fault.Why.{Why}
use Rattle.kx_pages.specs.Bytes.{Mem, Wants}
use Rattle.kx_pages.specs.Lists.{Has}
use Rattle.list_checker.specs.Walk.{Walk, IsAccepted, links, pairs}
use Rattle.list_checker.specs.Faults.{Faulty, Earlier, nothing_earlier}
use Rattle.list_checker.specs.inner.Faults.{Faultless}

-- all lists the wanted pages
pub record ListsWanted (W : Wants) (all : List ℕ) : Type 0 where
  pub each : (p : ℕ) → Has p all → (bytes : List ℕ) × (W p ≡ Some bytes)
  pub whole : (p : ℕ) (bytes : List ℕ) → W p ≡ Some bytes → Has p all

-- an accepted list with so many words, in which these link pages and pairs came
abbrev pub AcceptedWith : Mem → Wants → ℕ → ℕ → Option ℕ → ℕ → List ℕ → List (ℕ × ℕ) → Type 0
AcceptedWith M W head control swap n ls qs =
    (is : List Item) × IsAccepted M W head control swap is × (length is ≡ n) × (links is ≡ ls)
    × (pairs is ≡ qs)

-- no word has a fault exactly where the list is accepted
abbrev pub CheckExact : Type 0
CheckExact =
    (M : Mem) (W : Wants) (all : List ℕ) (head control : ℕ) (swap : Option ℕ) → ListsWanted W all →
    ((n : ℕ) (last : Earlier) → Faultless M W all control swap None nothing_earlier head n last
    → AcceptedWith M W head control swap (suc n) last.links last.pairs)
    × ((is : List Item) → IsAccepted M W head control swap is
    → (n : ℕ) × (last : Earlier) × (length is ≡ suc n)
    × Faultless M W all control swap None nothing_earlier head n last)

-- each memory and head has an accepted walk or one first fault, and not both
abbrev pub CheckEnds : Type 0
CheckEnds =
    (M : Mem) (W : Wants) (all : List ℕ) (head control : ℕ) (swap : Option ℕ) → ListsWanted W all →
    (((is : List Item) × IsAccepted M W head control swap is)
    ⊎ ((n : ℕ) × (why : Why) × Faulty M W all control swap None nothing_earlier head n why))
    × ((n : ℕ) (why : Why) → Faulty M W all control swap None nothing_earlier head n why →
    ((is : List Item) → IsAccepted M W head control swap is → ⊥)
    × ((m : ℕ) (also : Why) → Faulty M W all control swap None nothing_earlier head m also
    → (n ≡ m) × (why ≡ also)))

-- a head has at most one walk in a memory
abbrev pub OneWalk : Type 0
OneWalk = (M : Mem) (head : ℕ) (is js : List Item) → Walk M head is → Walk M head js → is ≡ js
