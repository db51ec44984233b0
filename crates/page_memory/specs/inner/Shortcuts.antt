-- The row of shortcuts in front of a table. This project's own, and no public clause speaks of it.
-- No clause of `kexec` reaches what stands here: it serves laws, and contracts inside the crates.
use Rattle.std.specs.Prelude.{◌≡◌, ℕ, ◌-◌, List, length, get_or, bit_and, Option, Some, None}
use Rattle.std.specs.Ordering.{nat_cmp}
use Rattle.std.specs.BTreeMap as tree

-- where in a row of n shortcuts that of page p stands
unfoldable pub shortcut_place : ℕ → ℕ → ℕ
shortcut_place n p = bit_and p (n - 1)

-- each shortcut of a row stands where that of its page stands
abbrev pub AreInPlace : List (Option (ℕ × ℕ)) → Type 0
AreInPlace row = (k p i : ℕ) → get_or row k None ≡ Some (p, i) → k ≡ shortcut_place (length row) p

-- each shortcut of a row says what the map says
abbrev pub SayWhat : tree.BTreeMap ℕ ℕ → List (Option (ℕ × ℕ)) → Type 0
SayWhat map row = (k p i : ℕ) → get_or row k None ≡ Some (p, i) → tree.get nat_cmp map p ≡ Some i
