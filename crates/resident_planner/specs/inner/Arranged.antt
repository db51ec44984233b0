-- What the planner finds of the wanted pages before it takes a page of the pool (this project's
-- own).
-- No clause of `kexec` reaches what stands here: it serves laws, and contracts inside the crates.
use Rattle.std.specs.Prelude.{◌≡◌, ℕ, ◌<◌, ◌≤◌, ◌++◌, List, [], ◌∷◌, length, map, get_or, Option, Some, None}
use Rattle.list_checker.specs.declared.earlier.Pair.{Pair}
use Rattle.list_checker.specs.Checked.{as_pair}
use Rattle.resident_planner.specs.declared.stretch.Stretch.{Stretch}
use Rattle.resident_planner.specs.declared.cycles.Arrangement.{Arrangement}
use Rattle.resident_planner.specs.declared.moves.Move.{Move}
use Rattle.resident_planner.specs.declared.moves.Moves.{Moves}
use Rattle.resident_planner.specs.Cycles.{resident_step, cycles}
use Rattle.resident_planner.specs.Plan.{kept_source, source, rank}
use Rattle.resident_planner.specs.Laid.{given_sources}
use Rattle.resident_planner.specs.Stretches.{Rising}
use Rattle.resident_planner.specs.inner.Stretches.{AreSteps, AreStretches}

-- the resident page of each page, its step, and its stretch of at least as many steps as there are
-- pages
pub record Surveyed (r : ℕ → Option ℕ) (D : List ℕ) (n : ℕ) (residents steps : List (Option ℕ))
    (stretches : List Stretch) : Type 0 where
  pub rising : Rising D
  pub enough : length D ≤ n
  pub residents_are : residents ≡ map r D
  pub steps_are : AreSteps D (resident_step r D) steps
  pub stretches_are : AreStretches D (resident_step r D) n stretches

-- the resident pages that are kept, the number of cycles, and the ranks
pub record IsArranged (r : ℕ → Option ℕ) (D : List ℕ) (a : Arrangement) : Type 0 where
  pub sources : a.kept.sources.items ≡ map (kept_source r D) D
  pub cycles_are : a.kept.cycles ≡ cycles r D
  pub size : length a.ranks.items ≡ length D
  pub ranks_are : (i : ℕ) (d : Stretch) → i < length D
      → (get_or a.ranks.items i d).steps ≡ rank r D (get_or D i 0)

-- the move of page d
pub record IsMoveOf (r : ℕ → Option ℕ) (D fresh : List ℕ) (d : ℕ) (m : Move) : Type 0 where
  pub destination : m.pair.destination ≡ d
  pub sourced : source r D fresh d ≡ Some m.pair.source
  pub ranked : m.rank ≡ rank r D d

-- the pairs given out, with the pair of page d where it keeps no resident page
abbrev pub given_with : List Pair → ℕ → Option ℕ → List ℕ → List Pair
given_with old d (Some p) fresh = old
given_with old d None fresh =
    old ++ record { destination = d; source = get_or fresh (length old) 0 } ∷ []

-- the page that is kept, or fresh page number k
abbrev pub next_source : ℕ → Option ℕ → List ℕ → ℕ
next_source k (Some p) fresh = p
next_source k None fresh = get_or fresh k 0

-- the moves of all pages in rising order
pub record MovesAre (r : ℕ → Option ℕ) (D fresh : List ℕ) (ms : List Move) : Type 0 where
  pub size : length ms ≡ length D
  pub each : (i : ℕ) (d : Move) → i < length D
      → IsMoveOf r D fresh (get_or D i 0) (get_or ms i d)

-- the same, and the pairs whose sources are pages of the pool
pub record AreMovesOf (r : ℕ → Option ℕ) (D fresh : List ℕ) (m : Moves) : Type 0 where
  pub moves_are : MovesAre r D fresh m.moves.items
  pub given_are : map as_pair m.given.items ≡ given_sources r D fresh
