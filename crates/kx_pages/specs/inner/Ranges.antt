-- Ranges of addresses and the pages that they meet, and bytes in whole pages (this project's own). A page has 4,096 bytes.
-- No clause of `kexec` reaches what stands here: it serves laws, and contracts inside the crates.
use Rattle.std.specs.Prelude.{ℕ, ◌/◌, ◌^◌, min}
use Rattle.kx_pages.specs.Spans.{Run}
use Rattle.kx_pages.specs.Ranges.{count_met}

-- these pages, where they lie below 2 ^ 34
abbrev pub pages_met : (start stop : ℕ) → Run
pages_met start stop =
    record { first = min (start / 4096) (2 ^ 34); count = count_met start stop }
