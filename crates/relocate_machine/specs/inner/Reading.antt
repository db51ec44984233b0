-- Words that only read: they move no page, and the run goes on in the page that it reads (this project's own).
-- No clause of `kexec` reaches what stands here: it serves laws, and contracts inside the crates.
use Rattle.std.specs.Prelude.{◌≡◌, ℕ, ◌+◌, ◌/◌, ◌%◌, ◌<◌, ◌≤◌, ◌^◌, List, length, Option, Some, None, ◌==◌, if◌then◌else◌}
use Rattle.page_memory.specs.Contents.{Contents, at}
use Rattle.relocate_machine.specs.declared.reading.Place.{Place}
use Rattle.relocate_machine.specs.declared.step.Outcome.TheVariants as outcomes
use Rattle.relocate_machine.specs.declared.word.WordKind.{WordKind}
use Rattle.relocate_machine.specs.declared.word.WordKind.TheVariants as kinds
use Rattle.relocate_machine.specs.Machine.{Registers, State, word_address}
use Rattle.relocate_machine.specs.Run.{run_from}

-- n steps lead from s to t, each of which went on
abbrev pub GoesOn : ℕ → State → State → Type 0
GoesOn n s t = (k : ℕ) → run_from n k s ≡ (t, outcomes.Running (k + n))

-- the state, where the run stands at this place
abbrev pub standing : State → Place → State
standing s p =
    record {
      machine = record s.machine { cursor = p.cursor; destination = p.destination };
      memory = s.memory;
    }

-- where a run stands past a word of the page at address `start`: nowhere, where the word does not only read
abbrev pub place_past : ℕ → Place → WordKind → ℕ → Option Place
place_past start p kinds.Destination a = Some (record { cursor = p.cursor + 8; destination = a })
place_past start p kinds.Link a =
    if a == start then Some (record { cursor = a; destination = p.destination }) else None
place_past start p kinds.Nothing a =
    Some (record { cursor = p.cursor + 8; destination = p.destination })
place_past start p kinds.Done a = None
place_past start p kinds.Source a = None

-- in each state whose memory has these bytes at the page of p, and whose head word was handled, n steps lead from p to q
abbrev pub IsRead : List ℕ → ℕ → Place → Place → Type 0
IsRead page n p q =
    (s : State) → s.machine.first ≡ None → at s.memory (p.cursor / 4096) ≡ page
    → GoesOn n (standing s p) (standing s q)

-- the place is in the page of this address, or at its end, and moves to a page
pub record IsIn (a : ℕ) (p : Place) : Type 0 where
  pub low : word_address a ≤ p.cursor
  pub high : p.cursor ≤ word_address a + 4096
  pub aligned : p.cursor % 8 ≡ 0
  pub destination : p.destination % 4096 ≡ 0

-- the word to handle is one of this page
pub record IsPageAt (r : Registers) (m : Contents) (page : List ℕ) : Type 0 where
  pub first : r.first ≡ None
  pub near : r.cursor < 2 ^ 46
  pub bytes : at m (r.cursor / 4096) ≡ page
  pub whole : length page ≡ 4096
