-- Files by name, and a shelf and a sink that are written down, for the examples (this project's own).
use Rattle.std.specs.Prelude.{◌≡◌, ℕ, ◌+◌, ◌++◌, List, [], ◌∷◌, Option, codes, option_map, take}
use Rattle.std.specs.FinMap.{empty, insert}
use Rattle.kx_edge.specs.Edge.{Files}
use Rattle.kx_edge.specs.declared.edge.Shelf.{Ghosts as Shelf}
use Rattle.kx_edge.specs.declared.edge.Sink.{Ghosts as Sink}

-- these files and no others; of two files with one name the first counts
abbrev pub holding : List (List ℕ × List ℕ) → Files
holding [] = empty
holding (f ∷ fs) = insert (holding fs) f.0 f.1

-- `a` has three bytes, and `b` has two
abbrev pub two_files : Files
two_files = holding ((codes "a", codes "xyz") ∷ (codes "b", codes "vw") ∷ [])

-- and `c` has these
abbrev pub with_c : List ℕ → Files
with_c bytes =
    holding ((codes "a", codes "xyz") ∷ (codes "b", codes "vw") ∷ (codes "c", bytes) ∷ [])

-- the files of a shelf, where it tells them, and its count of faults
pub record Desk : Type 0 where
  pub files : Option Files
  pub faults : ℕ

-- A take gives what is asked of it and leaves the shelf as it is, as one that wants memory does, or counts a fault. A
-- put puts the bytes, or counts a fault and puts the first one alone.
abbrev pub desk : Shelf Desk
desk = record {
  files = λ s. s.files;
  faults = λ s. s.faults;
  gives = λ s name most bytes t. t ≡ s;
  fails = λ s name t. t ≡ record s { faults = s.faults + 1 };
  wants = λ s name t. t ≡ s;
  puts = λ s name bytes t.
      t ≡ record s { files = option_map (λ held. insert held name bytes) s.files };
  cuts = λ s name bytes t.
      t ≡ record {
        files = option_map (λ held. insert held name (take 1 bytes)) s.files;
        faults = s.faults + 1;
      };
}

-- what was said, where it is told, and the count of faults
pub record Slate : Type 0 where
  pub said : Option (List ℕ)
  pub faults : ℕ

-- a say appends the bytes, or counts a fault and appends the first one alone
abbrev pub slate : Sink Slate
slate = record {
  said = λ o. o.said;
  faults = λ o. o.faults;
  says = λ o bytes p. p ≡ record o { said = option_map (λ before. before ++ bytes) o.said };
  breaks = λ o bytes p.
      p ≡ record {
        said = option_map (λ before. before ++ take 1 bytes) o.said;
        faults = o.faults + 1;
      };
}
