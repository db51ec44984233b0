-- Addresses that fit, and the best of them (this project's own). A page has 4,096 bytes.
-- No clause of `kexec` reaches what stands here: it serves laws, and contracts inside the crates.
use Rattle.std.specs.Prelude.{◌≡◌, ℕ, ◌+◌, ◌-◌, ◌/◌, ◌%◌, ◌≤◌, Bool, false, IsTrue, Option, Some, None}
use Rattle.hole_search.specs.declared.search.Wanted.{Wanted}
use Rattle.hole_search.specs.declared.search.End.{End}
use Rattle.hole_search.specs.declared.search.End.TheVariants.{Least, Greatest}

-- each page from address a to a + size - 1 has the property P
abbrev pub EachPage : (ℕ → Type 0) → ℕ → ℕ → Type 0
EachPage P a size = (q : ℕ) → a / 4096 ≤ q → q ≤ (a + size - 1) / 4096 → P q

-- address a fits
pub record Fits (ram taken : ℕ → Bool) (w : Wanted) (a : ℕ) : Type 0 where
  pub aligned : a % w.align ≡ 0
  pub above : w.min ≤ a
  pub below : a + w.size - 1 ≤ w.max
  pub in_ram : EachPage (λ q. IsTrue (ram q)) a w.size
  pub not_taken : EachPage (λ q. taken q ≡ false) a w.size

-- a is not behind x, seen from the end that is wanted
abbrev pub ComesFirst : End → ℕ → ℕ → Type 0
ComesFirst Least a x = a ≤ x
ComesFirst Greatest a x = x ≤ a

-- the hole: the least or the greatest address that fits, or none where nothing fits
abbrev pub IsHole : End → (ℕ → Bool) → (ℕ → Bool) → Wanted → Option ℕ → Type 0
IsHole end ram taken w (Some a) =
    Fits ram taken w a × ((x : ℕ) → Fits ram taken w x → ComesFirst end a x)
IsHole end ram taken w None = (x : ℕ) → Fits ram taken w x → ⊥
