use Rattle.std.proofs.Common.{◌≡◌, ◌≤◌, ◌++◌, length, map, drop}
use Rattle.std.specs.Prelude.{All}
use Rattle.resident_planner.specs.inner.LinkPages.{laid_page, word_pages}
use Rattle.resident_planner.proofs.link_pages.link_pages.Given as goal

abbrev pub invariant-loop-i : goal.invariant-loop-i
invariant-loop-i l = record {
  pages : map laid_page l.link_pages.items ++ word_pages (drop l.i l.links) l.rest ≡ word_pages l.links l.words;
  short : All (λ s. length s.bytes.items ≤ 4096) l.link_pages.items;
}
