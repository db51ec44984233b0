-- What the runs of a load's list leave, and what is the same of loads that read alike (this project's own).
-- No clause of `kexec` reaches what stands here: it serves laws, and contracts inside the crates.
use Rattle.std.specs.Prelude.{◌≡◌, ℕ, List, None, take}
use Rattle.kx_pages.specs.Lists.{count}
use Rattle.kx_pages.specs.declared.image.Wish.{Wish}
use Rattle.kx_pages.specs.declared.image.Mode.TheVariants.{Plain}
use Rattle.page_memory.specs.Contents.{Contents, at}
use Rattle.kx_pages.specs.Bytes.{Mem}
use Rattle.page_memory.specs.Memory.{Agree}
use Rattle.relocate_machine.specs.Run.{run_of}
use Rattle.relocate_machine.specs.declared.step.Outcome.TheVariants as outcomes
use Rattle.segments.specs.Values.{need, overlay, want}
use Rattle.load_states.specs.declared.accepted.Accepted.{Accepted}
use Rattle.load_states.specs.declared.accepted.Accepted.TheVariants as variants
use Rattle.load_states.specs.States.{Checked, CrashLoad, Load, swap_of, with_memory}
use Rattle.load_states.specs.inner.States.{Returned}
use Rattle.load_states.specs.Exchange.{exchange}
use Rattle.load_states.specs.Fillings.{IsSealed}
use Rattle.load_states.specs.Ready.{Told}
use Rattle.load_states.specs.Runs.{EndsAfter}

-- the memory that the run of a plain list leaves
abbrev pub after_plain : Checked → Mem
after_plain c = overlay (at c.load.memory) (want c.load.segments)

-- the memories that one run and two runs of a list with context preserved leave
abbrev pub after_once : Checked → Mem
after_once c = exchange (at c.load.memory) c.pairs (swap_of c.load)

abbrev pub after_twice : Checked → Mem
after_twice c = exchange (after_once c) c.pairs (swap_of c.load)

-- and it leaves this memory
abbrev pub RunsTo : Load → ℕ → Contents → Type 0
RunsTo s steps m =
    EndsAfter s steps × (m ≡ (run_of s.memory s.image.head s.image.mode steps).0.memory)

-- the same of a crash list, which runs in plain mode
abbrev pub CrashRunsTo : CrashLoad → ℕ → Contents → Type 0
CrashRunsTo c steps m =
    ((run_of c.memory c.head Plain steps).1 ≡ outcomes.Done steps)
    × (m ≡ (run_of c.memory c.head Plain steps).0.memory)

-- since the first run, from memory M, at most pages of the segments were written
abbrev pub IsTouched : Mem → Checked → Type 0
IsTouched M c =
    (q : ℕ) → want c.load.segments q ≡ None
    → at c.load.memory q ≡ exchange M c.pairs (swap_of c.load) q

-- A list of this project's loader that was run, and of which at most pages of the segments were written since: the second
-- run leaves every page but the first ones of the pool, as many as the load took, as it was before the load.
abbrev pub RestoresOthers : Checked → Returned → Type 0
RestoresOthers c r =
    (M : Mem) (pool : List ℕ) (wish : Wish) (s : Load) → IsSealed M pool wish s.segments s
    → Told s c.words c.links c.pairs
    → c.load ≡ with_memory s c.load.memory → IsTouched (at s.memory) c →
    (p : ℕ) → count p (take (need wish s.segments) pool) ≡ 0 → at r.load.memory p ≡ M p

-- the memories read alike, and image and segments are the same
pub record IsSameLoad (s t : Load) : Type 0 where
  pub reads : Agree (at t.memory) (at s.memory)
  pub image : t.image ≡ s.image
  pub segments : t.segments ≡ s.segments

-- the same is told of the lists, and their runs leave the same
pub record IsSameCheck (c d : Checked) : Type 0 where
  pub words : d.words ≡ c.words
  pub links : d.links ≡ c.links
  pub pairs : d.pairs ≡ c.pairs
  pub plain : after_plain d ≡ after_plain c
  pub once : after_once d ≡ after_once c
  pub twice : after_twice d ≡ after_twice c

-- Of each load that reads alike, with the same image and segments, the same is told, and its runs leave the same: so a
-- load that was written to files and read back runs as the load itself does.
abbrev pub TellsAlike : Checked → Type 0
TellsAlike c =
    (d : Checked) → IsSameLoad c.load d.load → Told d.load d.words d.links d.pairs → IsSameCheck c d

-- an accepted list as a load with what is told of it
abbrev pub checked_in : Accepted → Checked
checked_in (variants.Plain c) = c
checked_in (variants.Kept c) = c
