-- What ran, as a value of the program, and what is said of it (this project's own). Contracts of the program's own calls
-- use these; no clause of `kexec` does.
-- No clause of `kexec` reaches what stands here: it serves laws, and contracts inside the crates.
use Rattle.std.specs.Prelude.{◌≡◌, ℕ, List, ◌++◌, length, Option, Some, None}
use Rattle.kx_pages.specs.declared.image.Mode.{Mode}
use Rattle.kexec_words.specs.declared.commands.Runs.{Runs}
use Rattle.kexec_words.specs.declared.commands.Runs.TheVariants.{Once, Twice}
use Rattle.page_memory.specs.Memory.{Agree}
use Rattle.page_memory.specs.Contents.{at}
use Rattle.load_states.specs.States.{Checked, Load}
use Rattle.load_states.specs.Ready.{Told}
use Rattle.command_parts.specs.declared.running.Ran.{Ran}
use Rattle.command_parts.specs.declared.startup.Startup.{Startup}
use Rattle.command_parts.specs.Texts.{load_lines, purgatory_line, ran_line}
use Rattle.command_parts.specs.Runs.{after_runs, checked_with}
use Rattle.kx_pages.specs.declared.image.Mode.TheVariants as modes

-- the mode of the list for these runs
abbrev pub HasMode : Option Runs → Mode → Type 0
HasMode None modes.Plain = Unit {0}
HasMode None (modes.Kept swap) = ⊥
HasMode (Some runs) modes.Plain = ⊥
HasMode (Some runs) (modes.Kept swap) = Unit {0}

-- what runs of a list in this mode are: plain, or so many with context preserved
abbrev pub runs_in : Mode → Runs → Option Runs
runs_in modes.Plain runs = None
runs_in (modes.Kept swap) runs = Some runs

-- the steps of the second run, where there is one
abbrev pub second_steps : Option Runs → ℕ → Option ℕ
second_steps None words = None
second_steps (Some Once) words = None
second_steps (Some Twice) words = Some words

-- The list was run: this memory is left, and each run ended after as many steps as the walk has words.
pub record HasRun (runs : Option Runs) (c : Checked) (r : Ran) : Type 0 where
  pub memory : Agree (at r.memory) (after_runs runs c)
  pub image : r.image ≡ c.load.image
  pub words : r.counts.words ≡ c.words
  pub links : r.counts.links ≡ c.links
  pub pairs : r.counts.pairs ≡ length c.pairs
  pub ends : r.steps ≡ c.words
  pub ends_again : r.back ≡ second_steps runs c.words

-- a load was run: so much is told of its accepted list
abbrev pub RunsLoaded : Option Runs → Load → Ran → Type 0
RunsLoaded runs load r =
    (words : ℕ) × (links : ℕ) × (qs : List (ℕ × ℕ)) × Told load words links qs
    × HasRun runs (checked_with load words links qs) r

-- the same by what ran: the line of the second run, or else that of the test
abbrev pub last_line : Option ℕ → List ℕ → List ℕ → List ℕ
last_line None text line = text ++ line
last_line (Some steps) text line = text ++ ran_line steps

abbrev pub ran_text : Ran → Startup → List ℕ
ran_text r s =
    last_line r.back
    (load_lines r.counts.words r.counts.links r.counts.pairs r.image s.start ++ ran_line r.steps)
    (purgatory_line (at r.memory) s.purgatory)
