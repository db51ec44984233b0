-- Page numbers and addresses. The limit of addresses is this project's own.
-- No clause of `kexec` reaches what stands here: it serves laws, and contracts inside the crates.
use Rattle.std.specs.Prelude.{ℕ, ◌<◌, ◌^◌}

-- addresses lie below 2 ^ 46, so page numbers below 2 ^ 34
abbrev pub IsPage : ℕ → Type 0
IsPage n = n < 2 ^ 34
