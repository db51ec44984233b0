-- The memory file, this project's own: the magic, the count, and the pages in rising order, none of them all zeros.
-- No clause of `kexec` reaches what stands here: it serves laws, and contracts inside the crates.
use Rattle.std.specs.Prelude.{◌≡◌, ◌≢◌, ℕ, ◌<◌, ◌≤◌, List, length, Ok}
use Rattle.page_memory.specs.declared.fault.HeavyFault.{HeavyFault}
use Rattle.page_memory.specs.declared.fault.HeavyFault.TheVariants as heavy
use Rattle.page_memory.specs.Contents.{Contents, at}
use Rattle.page_memory.specs.File.{file_page_limit, text_of, file, reading}

-- pages that are few enough have these bytes as their file
abbrev pub IsFileOf : List (ℕ × List ℕ) → List ℕ → Type 0
IsFileOf es bytes = (length es ≤ file_page_limit) × (bytes ≡ text_of es)

-- Why pages have no file: they are too many, and their number is told; or memory is wanted, of which nothing is said.
abbrev pub HasNoFile : List (ℕ × List ℕ) → HeavyFault → Type 0
HasNoFile es e = e ≢ heavy.Memory → (file_page_limit < length es) × (e ≡ heavy.TooMany (length es))

-- a file of a memory is read as a memory that agrees with it at every page
abbrev pub IsReadAgain : Contents → Type 0
IsReadAgain m = (k : Contents) × (reading (file m) ≡ Ok k) × ((q : ℕ) → at k q ≡ at m q)
