-- Which texts are lines of a pool file, said apart from the steps of the reader (this project's own).
-- No clause of `kexec` reaches what stands here: it serves laws, and contracts inside the crates.
use Rattle.std.specs.Prelude.{◌≡◌, ℕ, ◌++◌, ◌⊎◌, List, codes, Some}
use Rattle.text_lines.specs.Lines.{number}

-- the line is a number, `-` and a number
pub record IsRangeLine (line : List ℕ) (first last : ℕ) : Type 0 where
  pub start : List ℕ
  pub stop : List ℕ
  pub starts : number start ≡ Some first
  pub stops : number stop ≡ Some last
  pub spelled : line ≡ start ++ (codes "-" ++ stop)

-- the line is a number, which is that of the first and the last page
pub record IsPageLine (line : List ℕ) (first last : ℕ) : Type 0 where
  pub spelled : number line ≡ Some first
  pub one : first ≡ last

abbrev pub IsPoolLine : List ℕ → ℕ → ℕ → Type 0
IsPoolLine line first last = IsPageLine line first last ⊎ IsRangeLine line first last
