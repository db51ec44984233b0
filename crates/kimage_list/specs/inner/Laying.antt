-- What a load lays in memory: the words of its list over the link pages, as the kernel's kexec core has them
-- (kimage_entry_t), and the destinations' bytes at the sources. Which page is which is this project's own.
-- No clause of `kexec` reaches what stands here: it serves laws, and contracts inside the crates.
use Rattle.std.specs.Prelude.{◌≡◌, ℕ, List}
use Rattle.std.specs.List.{AllByRecursion}
use Rattle.kx_pages.specs.Bytes.{Mem}

-- memory has these pages' bytes
abbrev pub Holds : Mem → List (ℕ × List ℕ) → Type 0
Holds M xs = AllByRecursion (λ x. M x.0 ≡ x.1) xs
