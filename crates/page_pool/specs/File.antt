-- The pool file (this project's own): each line a page number, or the first and the last page of a range, in
-- hexadecimal.
use Rattle.std.specs.Prelude.{ℕ, ◌+◌, ◌-◌, ◌^◌, ◌++◌, List, [], ◌∷◌, length, nat_lt, nat_le, if◌then◌else◌, Option, Some, None, Result, Ok, Err}
use Rattle.std.specs.List.{range_with_len}
use Rattle.kx_laws.specs.Results.{◌>>=◌}
use Rattle.text_lines.specs.Lines.{both, cut, lines, number}
use Rattle.page_pool.specs.Pages.{pool_page_limit}
use Rattle.page_pool.specs.Repeats.{first_repeat}
use Rattle.page_pool.specs.declared.fault.PoolFault.{PoolFault}
use Rattle.page_pool.specs.declared.fault.PoolFault.TheVariants as faults

-- the numbers of the parts of a line that is cut, or of the whole line
abbrev pub range_by : Option (List ℕ × List ℕ) → List ℕ → Option (ℕ × ℕ)
range_by (Some ends) line = both (number ends.0) (number ends.1)
range_by None line = both (number line) (number line)

-- the first and the last page of a line, `page` or `first-last`: none where it has another form
unfoldable pub range_of : List ℕ → Option (ℕ × ℕ)
range_of line = range_by (cut 45 line) line

-- the first fault of the line number n that names these pages
abbrev pub check_range : ℕ → Option (ℕ × ℕ) → Result (ℕ × ℕ) PoolFault
check_range n None = Err (faults.BadLine n)
check_range n (Some r) =
    if nat_lt r.1 r.0 then Err (faults.Backwards n)
    else if nat_le (2 ^ 34) r.1 then Err (faults.PastLimit n)
    else Ok r

-- the same for the line number n, or its first fault
unfoldable pub checked_range : ℕ → List ℕ → Result (ℕ × ℕ) PoolFault
checked_range n line = check_range n (range_of line)

-- how many pages there are from the first to the last
abbrev pub count_of : ℕ × ℕ → ℕ
count_of r = r.1 + 1 - r.0

-- these pages and those of the line number n: at most 262,144 in all
unfoldable pub line_onto : ℕ → List ℕ → List ℕ → Result (List ℕ) PoolFault
line_onto n pages line = do
  r ← checked_range n line
  if nat_lt pool_page_limit (length pages + count_of r) then Err (faults.TooMany n)
      else Ok (pages ++ range_with_len r.0 (count_of r))

-- these pages and those of all lines, the first of which has the number n
unfoldable pub pages_onto : ℕ → List ℕ → List (List ℕ) → Result (List ℕ) PoolFault
pages_onto n pages [] = Ok pages
pages_onto n pages (line ∷ rest) = do
  more ← line_onto n pages line
  pages_onto (n + 1) more rest

-- these pages, unless this one is a repeat
abbrev pub unless_repeat : Option ℕ → List ℕ → Result (List ℕ) PoolFault
unless_repeat None pages = Ok pages
unless_repeat (Some p) pages = Err (faults.Repeats p)

-- the pages, if none stands twice
abbrev pub each_once : List ℕ → Result (List ℕ) PoolFault
each_once pages = unless_repeat (first_repeat [] pages) pages

-- the pages of a pool file in the order of drawing, or its first fault
unfoldable pub pool_reading : List ℕ → Result (List ℕ) PoolFault
pool_reading text = do
  pages ← pages_onto 1 [] (lines text)
  each_once pages
