-- Where a pool and a table stand while a list is written (this project's own).
use Rattle.std.specs.Prelude.{ℕ, List, ◌++◌}
use Rattle.page_pool.specs.Pages.{Pages, usable_of}

-- what of a pool no draw changes: the pages drawn and then those usable, the pages that it was made of, and its limit
abbrev pub whole_pool : Pages → List ℕ × List ℕ × ℕ
whole_pool pool = (pool.drawn ++ usable_of pool, pool.made, pool.limit)
