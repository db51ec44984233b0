-- Which texts are lines of a memory map, said apart from the steps of the reader. The form is that of /proc/iomem, as the
-- Linux kernel writes it; that a number has 1 to 16 digits is this project's own.
-- No clause of `kexec` reaches what stands here: it serves laws, and contracts inside the crates.
use Rattle.std.specs.Prelude.{◌≡◌, ℕ, ◌++◌, ◌==◌, true, List, codes, Some}
use Rattle.std.specs.List.{list_all}
use Rattle.text_lines.specs.Lines.{number}
use Rattle.memory_map.specs.declared.row.Class.{Class}
use Rattle.memory_map.specs.Text.{class_of}

-- the line is spaces, the number of the first byte, `-`, the number of the last byte, ` : ` and the name
pub record IsMapLine (line : List ℕ) (first last : ℕ) (name : List ℕ) : Type 0 where
  pub spaces : List ℕ
  pub start : List ℕ
  pub stop : List ℕ
  pub are_spaces : list_all (λ b. b == 32) spaces ≡ true
  pub starts : number start ≡ Some first
  pub stops : number stop ≡ Some last
  pub spelled : line ≡ spaces ++ (start ++ (codes "-" ++ (stop ++ (codes " : " ++ name))))

-- it is such a line, whose name says this of the range
abbrev pub IsEntry : List ℕ → ℕ → ℕ → Class → Type 0
IsEntry line first last class =
    (name : List ℕ) × IsMapLine line first last name × (class ≡ class_of name)
