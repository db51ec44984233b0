-- The pairs of a list that takes each wanted page from its resident page where it can: this
-- project's own. r tells of a wanted page its resident page, where there is one; D lists the wanted
-- pages in rising order.
-- No clause of `kexec` reaches what stands here: it serves laws, and contracts inside the crates.
use Rattle.std.specs.Prelude.{◌≡◌, ◌≢◌, ℕ, List, Option, Some, true, false}
use Rattle.kx_pages.specs.Lists.{has}

-- these pages are neither wanted nor resident
pub record AreFresh (r : ℕ → Option ℕ) (D : List ℕ) (fresh : List ℕ) : Type 0 where
  pub unwanted : (p : ℕ) → has p fresh ≡ true → has p D ≡ false
  pub not_resident : (p d : ℕ) → has p fresh ≡ true → r d ≢ Some p
