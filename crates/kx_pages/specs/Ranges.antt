-- Ranges of addresses and the pages that they meet, and bytes in whole pages (this project's own). A page has 4,096 bytes.
use Rattle.std.specs.Prelude.{ℕ, ◌+◌, ◌-◌, ◌*◌, ◌/◌, Bool, if◌then◌else◌, nat_lt, min, max}

-- some address from start on and before stop is one of page p's
abbrev pub meets_page : (start stop p : ℕ) → Bool
meets_page start stop p = nat_lt (max start (4096 * p)) (min stop (4096 * p + 4096))

-- how many pages so many bytes take
abbrev pub pages_for : ℕ → ℕ
pages_for n = (n + 4095) / 4096

-- so many bytes in whole pages
abbrev pub whole_pages : ℕ → ℕ
whole_pages n = 4096 * pages_for n

-- how many pages meet the addresses from start on and before stop
abbrev pub count_met : (start stop : ℕ) → ℕ
count_met start stop = if nat_lt start stop then pages_for stop - start / 4096 else 0
