-- The bytes of pages. This project's own.
use Rattle.std.specs.Prelude.{ℕ, ◌-◌, ◌++◌, List, length, take, replicate, Option}

-- memory as a function: what each page number reads as
abbrev pub Mem : Type 0
Mem = ℕ → List ℕ

-- the bytes that a page of the new kernel is to have: none where it is no page of the new kernel
abbrev pub Wants : Type 0
Wants = ℕ → Option (List ℕ)

-- the bytes, cut at or filled with zeros to a whole page
unfoldable pub page_of : List ℕ → List ℕ
page_of bytes = take 4096 bytes ++ replicate (4096 - length bytes) 0
