-- What clauses see of the states from a load to its run (this project's own).
-- No clause of `kexec` reaches what stands here: it serves laws, and contracts inside the crates.
use Rattle.std.specs.Prelude.{◌≡◌, ℕ, List, Option, map, refl}
use Rattle.std.proofs.Common.{ap}
use Rattle.std.specs.Coded.{Coded, code_by, coded×, coded_ℕ, coded_list, coded_option}
use Rattle.kx_pages.specs.declared.image.Image.{Image}
use Rattle.page_memory.specs.Contents.{Contents, at}
use Rattle.page_memory.specs.inner.Contents.{contents_code, IsHeld}
use Rattle.page_pool.specs.Pages.{Pages}
use Rattle.page_pool.specs.inner.Pages.{pages_code}
use Rattle.segments.specs.Values.{SegmentValue}
use Rattle.list_checker.specs.declared.earlier.Accept.{Accept}
use Rattle.list_checker.specs.Checked.{as_pair}
use Rattle.kx_pages.specs.Modes.{swap_page}
use Rattle.kx_pages.specs.inner.Modes.{mode_of}
use Rattle.kx_pages.proofs.Modes.{mode_of-swap_page}
use Rattle.load_states.specs.States.{Load, Checked, CrashLoad}

-- a memory after a run of so many steps
pub record Ran : Type 0 where
  pub memory : Contents
  pub steps : ℕ

-- a load after a second run of so many steps
pub record Returned : Type 0 where
  pub load : Load
  pub steps : ℕ

-- records are stored as their fields
abbrev pub image_code : Coded Image
image_code =
    code_by (ℕ × (Option ℕ × ℕ)) (coded× coded_ℕ (coded× (coded_option coded_ℕ) coded_ℕ))
    (λ i. (i.head, (swap_page i.mode, i.control)))
    (λ p. record { head = p.0; mode = mode_of p.1.0; control = p.1.1 })
    (λ i. ap (λ mode. record { head = i.head; mode = mode; control = i.control })
    (mode_of-swap_page i.mode))

abbrev pub part_code : Coded SegmentValue
part_code =
    code_by (List ℕ × (ℕ × ℕ)) (coded× (coded_list coded_ℕ) (coded× coded_ℕ coded_ℕ))
    (λ s. (s.bytes, (s.mem, s.memsz)))
    (λ p. record { bytes = p.0; mem = p.1.0; memsz = p.1.1 }) (λ _. refl)

abbrev pub load_code : Coded Load
load_code =
    code_by (Contents × (Pages × (Image × List SegmentValue)))
    (coded× contents_code (coded× pages_code (coded× image_code (coded_list part_code))))
    (λ s. (s.memory, (s.pool, (s.image, s.segments))))
    (λ p. record { memory = p.0; pool = p.1.0; image = p.1.1.0; segments = p.1.1.1 })
    (λ _. refl)

abbrev pub checked_code : Coded Checked
checked_code =
    code_by (Load × (ℕ × (ℕ × List (ℕ × ℕ))))
    (coded× load_code (coded× coded_ℕ (coded× coded_ℕ (coded_list (coded× coded_ℕ coded_ℕ)))))
    (λ s. (s.load, (s.words, (s.links, s.pairs))))
    (λ p. record { load = p.0; words = p.1.0; links = p.1.1.0; pairs = p.1.1.1 }) (λ _. refl)

abbrev pub ran_code : Coded Ran
ran_code =
    code_by (Contents × ℕ) (coded× contents_code coded_ℕ) (λ s. (s.memory, s.steps))
    (λ p. record { memory = p.0; steps = p.1 }) (λ _. refl)

abbrev pub crash_code : Coded CrashLoad
crash_code =
    code_by (Contents × (ℕ × List SegmentValue))
    (coded× contents_code (coded× coded_ℕ (coded_list part_code)))
    (λ s. (s.memory, (s.head, s.segments)))
    (λ p. record { memory = p.0; head = p.1.0; segments = p.1.1 }) (λ _. refl)

abbrev pub returned_code : Coded Returned
returned_code =
    code_by (Load × ℕ) (coded× load_code coded_ℕ) (λ s. (s.load, s.steps))
    (λ p. record { load = p.0; steps = p.1 }) (λ _. refl)

-- a load and what the checker told of its list
abbrev pub checked_of : Load → Accept → Checked
checked_of s a =
    record { load = s; words = a.words; links = a.links; pairs = map as_pair a.pairs.items }

-- nothing has changed, but that more pages may be held
pub record IsLeftAs (old new : Load) : Type 0 where
  pub reads : (q : ℕ) → at new.memory q ≡ at old.memory q
  pub held : (q : ℕ) → IsHeld old.memory q → IsHeld new.memory q
  pub sets : new.memory.sets ≡ old.memory.sets
  pub pool : new.pool ≡ old.pool
  pub image : new.image ≡ old.image
  pub segments : new.segments ≡ old.segments
