-- What the runs of a load leave, in the words of the promise.
use Rattle.std.proofs.Common.{◌≡◌, ℕ, Option, Some, None, ap, refl}
use Rattle.std.specs.Prelude.{unwrap_or}
use Rattle.kx_pages.specs.declared.image.Mode.{Mode}
use Rattle.kx_pages.specs.declared.image.Mode.TheVariants.{Plain, Kept}
use Rattle.kexec_words.specs.declared.commands.Runs.{Runs}
use Rattle.kexec_words.specs.declared.commands.Runs.TheVariants.{Once, Twice}
use Rattle.kimage_list.specs.Laying.{mode_with}
use Rattle.page_memory.specs.Contents.{at}
use Rattle.load_states.specs.States.{Checked}
use Rattle.load_states.specs.Ready.{Told}
use Rattle.load_states.proofs.Ready.{once_arrives, twice_returns}
use Rattle.command_parts.specs.Runs.{Leaves, after_runs, wish_of}
use Rattle.command_parts.specs.inner.Ran.{HasMode, runs_in}

pub leaves_by : (runs : Option Runs) (c : Checked) (mode : Mode) → c.load.image.mode ≡ mode → HasMode runs mode → Told c.load c.words c.links c.pairs → Leaves runs c (after_runs runs c)
leaves_by None c Plain m h t = ((λ p bytes e. ap (λ o. unwrap_or o (at c.load.memory p)) e), λ p e. ap (λ o. unwrap_or o (at c.load.memory p)) e)
leaves_by None c (Kept swap) m h t = absurd h
leaves_by (Some runs) c Plain m h t = absurd h
leaves_by (Some Once) c (Kept swap) m h t = once_arrives c swap m t
leaves_by (Some Twice) c (Kept swap) m h t = twice_returns c swap m t

pub has_mode : (runs : Option Runs) (swap : ℕ) → HasMode runs (mode_with (wish_of runs) swap)
has_mode None swap = tt
has_mode (Some runs) swap = tt

-- a list in the mode of these runs runs so often
pub runs_as_asked : (runs : Option Runs) (mode : Mode) → HasMode runs mode → runs_in mode (unwrap_or runs Once) ≡ runs
runs_as_asked None Plain h = refl
runs_as_asked None (Kept swap) h = absurd h
runs_as_asked (Some runs) Plain h = absurd h
runs_as_asked (Some runs) (Kept swap) h = refl
