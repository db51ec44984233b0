-- The list that a plan lays, and the memory in which it stands: this project's own.
-- No clause of `kexec` reaches what stands here: it serves laws, and contracts inside the crates.
use Rattle.std.specs.Prelude.{◌≡◌, ◌≢◌, ℕ, ◌*◌, ◌^◌, ◌<◌, ◌≤◌, List, ◌∷◌, ◌++◌, length, Option, Some, true, false}
use Rattle.std.specs.List.{AllByRecursion}
use Rattle.kx_pages.specs.Lists.{has, Distinct}
use Rattle.kx_pages.specs.Needs.{link_page_entries}
use Rattle.kx_pages.specs.Bytes.{Mem, Wants}

-- each resident page holds what its page is to have
pub record AreResident (M : Mem) (W : Wants) (r : ℕ → Option ℕ) (D : List ℕ) : Type 0 where
  pub right : (d p : ℕ) → has d D ≡ true → r d ≡ Some p → W d ≡ Some (M p)
  pub below : (d p : ℕ) → has d D ≡ true → r d ≡ Some p → p < 2 ^ 34

-- the control page, the link pages and the sources from the pool are pages of their own, with room
-- for the words
pub record AreUsable (r : ℕ → Option ℕ) (D : List ℕ) (control : ℕ) (ls fresh : List ℕ)
    : Type 0 where
  pub once : Distinct (control ∷ ls ++ fresh)
  pub below : AllByRecursion (λ p. p < 2 ^ 34) (control ∷ ls ++ fresh)
  pub unwanted : AllByRecursion (λ p. has p D ≡ false) (control ∷ ls ++ fresh)
  pub not_resident : AllByRecursion (λ p. (d : ℕ) → r d ≢ Some p) (control ∷ ls ++ fresh)
  pub room : 2 * length D ≤ link_page_entries * length ls
