-- Memories of a few pages, and their files, for the load of `abc` to page 2 (this project's own).
use Rattle.std.specs.Prelude.{ℕ, List, [], ◌∷◌, codes}
use Rattle.std.specs.Ordering.{nat_cmp}
use Rattle.std.specs.FinMap.{FinMap, empty, insert}
use Rattle.kx_pages.specs.Bytes.{page_of}
use Rattle.kimage_list.specs.Laying.{in_bytes}
use Rattle.page_memory.specs.Contents.{Contents}
use Rattle.page_memory.specs.File.{text_of}

-- these pages
abbrev pub pages_of : List (ℕ × List ℕ) → FinMap nat_cmp (List ℕ)
pages_of [] = empty
pages_of (p ∷ ps) = insert (pages_of ps) p.0 p.1

-- the memory of these pages, in which all others are zeros
abbrev pub memory_with : List (ℕ × List ℕ) → Contents
memory_with ps = record { pages = pages_of ps; sets = 0 }

-- a page of `abc`, and the page of the list that moves page 12 to page 2
abbrev pub abc_page : List ℕ
abc_page = page_of (codes "abc")

abbrev pub list_page : List ℕ
list_page = page_of (in_bytes (0x2001 ∷ 0x12008 ∷ 4 ∷ []))

-- after the load, and after its run
abbrev pub loaded_pages : List (ℕ × List ℕ)
loaded_pages = (0x11, list_page) ∷ (0x12, abc_page) ∷ []

abbrev pub run_pages : List (ℕ × List ℕ)
run_pages = (2, abc_page) ∷ (0x11, list_page) ∷ (0x12, abc_page) ∷ []

abbrev pub loaded : Contents
loaded = memory_with loaded_pages

abbrev pub loaded_file : List ℕ
loaded_file = text_of loaded_pages

abbrev pub run_file : List ℕ
run_file = text_of run_pages
