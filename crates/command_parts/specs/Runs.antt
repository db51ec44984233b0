-- Running an accepted list: what memory it leaves, and how many steps it takes (this project's own).
use Rattle.std.specs.Prelude.{◌≡◌, ◌≢◌, ℕ, List, ◌++◌, length, Option, Some, None}
use Rattle.kx_pages.specs.declared.image.Start.{Start}
use Rattle.kx_pages.specs.declared.image.Wish.{Wish}
use Rattle.kx_pages.specs.declared.image.Wish.TheVariants.{Plain, Kept}
use Rattle.kexec_words.specs.declared.commands.Runs.{Runs}
use Rattle.kexec_words.specs.declared.commands.Runs.TheVariants.{Once, Twice}
use Rattle.kx_pages.specs.Bytes.{Mem}
use Rattle.page_memory.specs.Memory.{Agree}
use Rattle.page_memory.specs.Contents.{Contents, at}
use Rattle.segments.specs.Values.{overlay, want}
use Rattle.load_states.specs.States.{Checked, Load, swap_of, with_memory}
use Rattle.load_states.specs.Runs.{EndsAfter}
use Rattle.load_states.specs.Exchange.{exchange}
use Rattle.relocate_machine.specs.Run.{run_of}
use Rattle.command_parts.specs.declared.startup.Startup.{Startup}
use Rattle.command_parts.specs.Texts.{load_lines, purgatory_line, ran_line}

-- what the runs ask of the load
abbrev pub wish_of : Option Runs → Wish
wish_of None = Plain
wish_of (Some runs) = Kept

-- a load, and what is told of its list
abbrev pub checked_with : Load → ℕ → ℕ → List (ℕ × ℕ) → Checked
checked_with load words links qs = record { load = load; words = words; links = links; pairs = qs }

-- the memory after the runs: none kept is one plain run, which leaves each destination what it is to have; a run with
-- context preserved exchanges the pairs, and a second one exchanges them again
abbrev pub after_runs : Option Runs → Checked → Mem
after_runs None c = overlay (at c.load.memory) (want c.load.segments)
after_runs (Some Once) c = exchange (at c.load.memory) c.pairs (swap_of c.load)
after_runs (Some Twice) c =
    exchange (exchange (at c.load.memory) c.pairs (swap_of c.load)) c.pairs (swap_of c.load)

-- each page of the segments has what it is to have
abbrev pub Arrives : Checked → Mem → Type 0
Arrives c N = (p : ℕ) (bytes : List ℕ) → want c.load.segments p ≡ Some bytes → N p ≡ bytes

-- What the runs leave. After one run each page of the segments has what it is to have, its segment's bytes and then zeros;
-- a plain run changes no other page. After two runs each page but the swap page is as it was before the first.
abbrev pub Leaves : Option Runs → Checked → Mem → Type 0
Leaves None c N = Arrives c N × ((p : ℕ) → want c.load.segments p ≡ None → N p ≡ at c.load.memory p)
Leaves (Some Once) c N = Arrives c N
Leaves (Some Twice) c N = (p : ℕ) → p ≢ swap_of c.load → N p ≡ at c.load.memory p

-- the list runs once
abbrev pub IsOnce : Option Runs → Type 0
IsOnce None = Unit {0}
IsOnce (Some Once) = Unit {0}
IsOnce (Some Twice) = ⊥

-- The machine's second run of the list is done after as many steps as its walk has words too, from any memory that reads
-- as the first run left it.
abbrev pub EndsAgain : Option Runs → Checked → Type 0
EndsAgain None c = Unit {0}
EndsAgain (Some Once) c = Unit {0}
EndsAgain (Some Twice) c =
    (m : Contents) → Agree (at m) (after_runs (Some Once) c)
    → EndsAfter (with_memory c.load m) c.words

-- the memory after so many steps of the machine's run of the load's list
abbrev pub memory_after : Load → ℕ → Mem
memory_after s steps = at (run_of s.memory s.image.head s.image.mode steps).0.memory

-- The machine itself leaves this memory: its run of the list, after as many steps as the walk has words, what one run is to
-- leave; and its second run, from any memory that reads so, what two runs are to leave.
abbrev pub MachineLeaves : Option Runs → Checked → Type 0
MachineLeaves None c = Agree (memory_after c.load c.words) (after_runs None c)
MachineLeaves (Some Once) c = Agree (memory_after c.load c.words) (after_runs (Some Once) c)
MachineLeaves (Some Twice) c =
    Agree (memory_after c.load c.words) (after_runs (Some Once) c)
    × ((m : Contents) → Agree (at m) (after_runs (Some Once) c)
    → Agree (memory_after (with_memory c.load m) c.words) (after_runs (Some Twice) c))

-- what is said of the list, and then of each run, which takes as many steps as the walk has words
abbrev pub list_text : Checked → Start → List ℕ
list_text c start = load_lines c.words c.links (length c.pairs) c.load.image start

-- after one run, where there is a purgatory, the test of its regions in the memory that the run left
abbrev pub run_text : Option Runs → Checked → Startup → List ℕ
run_text None c s =
    (list_text c s.start ++ ran_line c.words) ++ purgatory_line (after_runs None c) s.purgatory
run_text (Some Once) c s =
    (list_text c s.start ++ ran_line c.words)
    ++ purgatory_line (after_runs (Some Once) c) s.purgatory
run_text (Some Twice) c s = (list_text c s.start ++ ran_line c.words) ++ ran_line c.words
