-- Which pages a step writes (this project's own).
-- No clause of `kexec` reaches what stands here: it serves laws, and contracts inside the crates.
use Rattle.std.specs.Prelude.{◌≡◌, ◌⊎◌, ℕ, ◌/◌, ◌^◌, Some, None, IfSome, Result, Ok, Err, nat_le, if◌then◌else◌}
use Rattle.std.specs.FinMap as finite
use Rattle.kx_pages.specs.declared.image.Mode.{Mode}
use Rattle.kx_pages.specs.declared.image.Mode.TheVariants.{Plain, Kept}
use Rattle.page_memory.specs.Contents.{Contents, at}
use Rattle.page_memory.specs.inner.Contents.{IsHeld}
use Rattle.page_memory.specs.Memory.{Agree}
use Rattle.relocate_machine.specs.declared.word.WordKind.{WordKind}
use Rattle.relocate_machine.specs.declared.word.WordKind.TheVariants as kinds
use Rattle.relocate_machine.specs.declared.step.Writes.{Writes}
use Rattle.relocate_machine.specs.Machine.{Registers, State, kind_of, next_word, word_address}

-- no page
abbrev pub no_writes : Writes
no_writes = record { destination = None; source = None; swap = None }

-- the pages that a move of page s to page d writes
abbrev pub move_writes : Mode → ℕ → ℕ → Writes
move_writes Plain d s = record { destination = Some d; source = None; swap = None }
move_writes (Kept w) d s = record { destination = Some d; source = Some s; swap = Some w }

abbrev pub word_writes : Registers → WordKind → ℕ → Writes
word_writes r kinds.Source a =
    if nat_le (2 ^ 46) a then no_writes
    else if nat_le (2 ^ 46) r.destination then no_writes
    else move_writes r.mode (r.destination / 4096) (a / 4096)
word_writes r kinds.Destination a = no_writes
word_writes r kinds.Link a = no_writes
word_writes r kinds.Done a = no_writes
word_writes r kinds.Nothing a = no_writes

abbrev pub writes_by : Registers → Result ℕ ℕ → Writes
writes_by r (Err a) = no_writes
writes_by r (Ok w) = word_writes r (kind_of w) (word_address w)

-- the pages that the next step writes
unfoldable pub writes_of : State → Writes
writes_of s = writes_by s.machine (next_word s.machine.first s.machine.cursor s.memory)

-- page q is one of these
abbrev pub IsWritten : Writes → ℕ → Type 0
IsWritten w q = (w.destination ≡ Some q) ⊎ (w.source ≡ Some q) ⊎ (w.swap ≡ Some q)

-- these pages are held
abbrev pub AreHeld : Contents → Writes → Type 0
AreHeld m w =
    IfSome w.destination (λ p. IsHeld m p) × IfSome w.source (λ p. IsHeld m p)
    × IfSome w.swap (λ p. IsHeld m p)

-- the pages that the next step writes are held
abbrev pub HoldsWrites : State → Type 0
HoldsWrites s = AreHeld s.memory (writes_of s)

-- n holds the same pages as m, with the same bytes, but for these
abbrev pub IsSameBut : Writes → Contents → Contents → Type 0
IsSameBut w m n = (q : ℕ) → (IsWritten w q → ⊥) → finite.get n.pages q ≡ finite.get m.pages q

-- a memory with the same number of sets that holds at least the same pages
pub record Stays (m n : Contents) : Type 0 where
  pub sets : n.sets ≡ m.sets
  pub held : (q : ℕ) → IsHeld m q → IsHeld n q

-- n is m, but that pages of P may be held besides: each page reads as in m
pub record IsHeldFor (P : ℕ → Type 0) (m n : Contents) : Type 0 where
  pub reads : Agree (at m) (at n)
  pub stays : Stays m n
  pub only : (q : ℕ) → IsHeld n q → IsHeld m q ⊎ P q
