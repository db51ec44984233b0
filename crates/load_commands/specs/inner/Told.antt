-- What is said of lists that ran, and of loads (this project's own).
-- No clause of `kexec` reaches what stands here: it serves laws, and contracts inside the crates.
use Rattle.std.specs.Prelude.{◌≡◌, ℕ, List, ◌++◌, length}
use Rattle.kx_pages.specs.declared.image.Start.{Start}
use Rattle.load_states.specs.States.{Load}
use Rattle.load_states.specs.Ready.{Told}
use Rattle.command_parts.specs.declared.running.Ran.{Ran}
use Rattle.command_parts.specs.Texts.{load_lines, ran_line}
use Rattle.load_commands.specs.BootResident.{copied_line}

-- the same by what ran
abbrev pub ran_resident : Ran → Start → ℕ → List ℕ
ran_resident r start copied =
    (load_lines r.counts.words r.counts.links r.counts.pairs r.image start ++ copied_line copied)
    ++ ran_line r.steps

-- what is said of a load, by what is told of its accepted list
abbrev pub IsToldText : Load → Start → List ℕ → Type 0
IsToldText load start text =
    (words : ℕ) × (links : ℕ) × (qs : List (ℕ × ℕ)) × Told load words links qs
    × (text ≡ load_lines words links (length qs) load.image start)
