-- What a table of marks has at a page, as a finite map.
use Rattle.std.proofs.Common.{◌≡◌, ℕ, Bool, true, false, cond, refl, sym, ap, ◌∙◌, Some, Option}
use Rattle.std.specs.Ordering.{nat_cmp}
use Rattle.std.specs.Cmp.{nat_cmp_total, eq_by_cmp_equiv}
use Rattle.std.specs.Map.{lookup}
use Rattle.std.specs.BTreeMap.{is_at, BTreeMap}
use Rattle.std.specs.BTreeMap as tree
use Rattle.std.specs.Prelude.{IsSome}
use Rattle.std.specs.FinMap.{insert, same_map, get-from_entries, get-insert, nat_cmp-IsAntisymmetric}
use Rattle.page_pool.specs.inner.Marks.{marks_of}

-- n has v at k, and at each other key what m has
abbrev pub Differs : BTreeMap ℕ Bool → BTreeMap ℕ Bool → ℕ → Bool → Type 0
Differs m n k v = (q : ℕ) → tree.get nat_cmp n q ≡ cond (is_at (nat_cmp k) q) (Some v) (tree.get nat_cmp m q)

-- a table that differs at one key
pub marks_of-differs : (m n : BTreeMap ℕ Bool) (k : ℕ) (v : Bool) → Differs m n k v → marks_of n ≡ insert (marks_of m) k v
marks_of-differs m n k v h = same_map nat_cmp_total nat_cmp-IsAntisymmetric _ _ (λ q.
    get-from_entries nat_cmp_total n.entries q ∙ h q
    ∙ ap (λ b. cond b (Some v) (lookup (is_at (nat_cmp q)) m.entries)) ((eq_by_cmp_equiv nat_cmp_total).symm k q)
    ∙ sym (get-insert nat_cmp_total (marks_of m) k v q ∙ ap (cond (is_at (nat_cmp q) k) (Some v)) (get-from_entries nat_cmp_total m.entries q)))

some_either : (b : Bool) (v : Bool) (o : Option Bool) → IsSome o → IsSome (cond b (Some v) o)
some_either true v o h = refl
some_either false v o h = h

pub stays : (m n : BTreeMap ℕ Bool) (k : ℕ) (v : Bool) (q : ℕ) → Differs m n k v → IsSome (tree.get nat_cmp m q) → IsSome (tree.get nat_cmp n q)
stays m n k v q h s = rw (h q) (some_either _ v _ s)
