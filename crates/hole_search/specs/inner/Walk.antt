-- What a walk along spans that rise keeps (this project's own).
-- No clause of `kexec` reaches what stands here: it serves laws, and contracts inside the crates.
use Rattle.std.specs.Prelude.{◌≡◌, ℕ, ◌*◌, ◌/◌, ◌%◌, ◌<◌, ◌≤◌, ◌^◌, Bool, false, List, take, drop}
use Rattle.kx_pages.specs.Spans.{Run, in_spans}
use Rattle.hole_search.specs.declared.search.Wanted.{Wanted}
use Rattle.hole_search.specs.inner.Holes.{EachPage}

-- sums of addresses stay below 2^64
pub record IsBounded (w : Wanted) : Type 0 where
  pub some : 0 < w.size
  pub size : w.size < 2 ^ 46
  pub aligned : 0 < w.align
  pub align : w.align ≤ 2 ^ 45

-- address a is a multiple of the alignment, and no page from it on is taken
pub record IsClear (taken : ℕ → Bool) (w : Wanted) (a : ℕ) : Type 0 where
  pub aligned : a % w.align ≡ 0
  pub clear : EachPage (λ q. taken q ≡ false) a w.size

-- the spans before number i have no page at address a or behind it
abbrev pub ArePassed : List Run → ℕ → ℕ → Type 0
ArePassed rs i a = (q : ℕ) → a / 4096 ≤ q → in_spans rs q ≡ in_spans (drop i rs) q

-- the spans from number n on have no byte before address b
abbrev pub AreAhead : List Run → ℕ → ℕ → Type 0
AreAhead rs n b = (q : ℕ) → 4096 * q < b → in_spans rs q ≡ in_spans (take n rs) q
