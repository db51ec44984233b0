-- What entries of an ordered table mean as a finite map. This project's own, and no public clause speaks of it.
-- No clause of `kexec` reaches what stands here: it serves laws, and contracts inside the crates.
use Rattle.std.specs.Prelude.{ℕ, List, map}
use Rattle.std.specs.Ordering.{nat_cmp}
use Rattle.std.specs.FinMap as finite

-- the map of the entries, each value read by f
abbrev pub pages_by : {X : Type 0} → (X → List ℕ) → List (ℕ × X) → finite.FinMap nat_cmp (List ℕ)
pages_by {X} f es = finite.from_entries (map {B = ℕ × List ℕ} (λ (e : ℕ × X). (e.0, f e.1)) es)
