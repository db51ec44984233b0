-- What accept answers (this project's own).
-- No clause of `kexec` reaches what stands here: it serves laws, and contracts inside the crates.
use Rattle.std.specs.Prelude.{◌≡◌, ◌⊎◌, ◌↔◌, ℕ, List, IsSome}
use Rattle.kx_pages.specs.declared.image.Mode.TheVariants.{Plain}
use Rattle.load_states.specs.declared.accepted.Accepted.{Accepted}
use Rattle.load_states.specs.declared.accepted.Accepted.TheVariants as variants
use Rattle.kx_pages.specs.Lists.{Has}
use Rattle.page_memory.specs.inner.Contents.{IsHeld}
use Rattle.load_states.specs.States.{Checked, Load}
use Rattle.load_states.specs.inner.States.{IsLeftAs, checked_of}
use Rattle.list_checker.specs.declared.earlier.Accept.{Accept}
use Rattle.load_states.specs.Ready.{Told}
use Rattle.load_states.specs.inner.Ready.{written_pages}
use Rattle.kx_pages.specs.Modes.{swap_page}

-- the state of the list's mode: the list is accepted, this is told of it, and nothing has changed but for which pages
-- are held
abbrev pub IsAcceptedAs : Load → Accepted → Type 0
IsAcceptedAs s (variants.Plain c) =
    (s.image.mode ≡ Plain) × Told s c.words c.links c.pairs × IsLeftAs s c.load
IsAcceptedAs s (variants.Kept c) =
    IsSome (swap_page s.image.mode) × Told s c.words c.links c.pairs × IsLeftAs s c.load

-- held are the pages that were held before, and those that the run of the accepted list writes
abbrev pub HoldsForRun : Load → Checked → Type 0
HoldsForRun s c =
    (q : ℕ) → IsHeld c.load.memory q
    ↔ (IsHeld s.memory q ⊎ Has q (written_pages s.image.mode c.pairs))

-- the list is accepted, and its run writes page q
abbrev pub IsRunPage : Load → ℕ → Type 0
IsRunPage s q =
    (words : ℕ) × (link_count : ℕ) × (qs : List (ℕ × ℕ)) × Told s words link_count qs
    × Has q (written_pages s.image.mode qs)

-- no page came to be held but of those that the run of an accepted list writes
abbrev pub HoldsNoOther : Load → Load → Type 0
HoldsNoOther old new =
    (q : ℕ) → IsHeld new.memory q → IsHeld old.memory q ⊎ IsRunPage old q

-- the state of an accepted list's mode, with nothing changed
abbrev pub IsMadeOf : Load → Accept → Accepted → Type 0
IsMadeOf s a (variants.Plain c) = (s.image.mode ≡ Plain) × (c ≡ checked_of s a)
IsMadeOf s a (variants.Kept c) = IsSome (swap_page s.image.mode) × (c ≡ checked_of s a)
