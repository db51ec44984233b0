-- A memory of three pages (this project's own).
use Rattle.std.specs.Prelude.{codes, replicate}
use Rattle.std.specs.FinMap.{empty, insert}
use Rattle.kx_pages.specs.Bytes.{page_of}
use Rattle.page_memory.specs.Contents.{Contents}

-- page 3 was set first, then page 5 to zeros, then page 2
abbrev pub three_held : Contents
three_held = record {
  pages =
      insert (insert (insert empty 3 (page_of (codes "b"))) 5 (replicate 4096 0)) 2
      (page_of (codes "a"));
  sets = 3;
}
