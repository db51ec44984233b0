-- What an ordered table has at a key, as a finite map.
use Rattle.std.proofs.Common.{subst, ◌<◌, ◌^◌, ◌≡◌, ℕ, List, [], ◌∷◌, Bool, true, false, cond, refl, sym, ap, ◌∙◌, Some, None, Option}
use Rattle.std.specs.Option.{option_map}
use Rattle.std.specs.Ordering.{nat_cmp}
use Rattle.std.specs.Cmp.{nat_cmp_total, eq_by_cmp_equiv}
use Rattle.std.specs.Map.{lookup}
use Rattle.std.specs.BTreeMap.{is_at, BTreeMap}
use Rattle.std.specs.BTreeMap as tree
use Rattle.std.specs.Option.{IfSome}
use Rattle.kx_fields.specs.Fields.{IsBlock}
use Rattle.std.specs.Prelude.{◌↔◌, IsTrue, IsSome, is_some}
use Rattle.std.specs.FinMap.{FinMap, get, insert, same_map, get-from_entries, get-insert, nat_cmp-IsAntisymmetric}
use Rattle.page_memory.specs.inner.View.{pages_by}
use Rattle.page_memory.specs.inner.Frames.{Differs}

-- each page of the table is one, and has bytes
pub record AreFrames {X : Type 0} (f : X → List ℕ) (m : tree.BTreeMap ℕ X) : Type 0 where
  pub each : (q : ℕ) → IfSome (tree.get nat_cmp m q) (λ x. (q < 2 ^ 34) × IsBlock 4096 (f x))

option_map-cond : {X : Type 0} (f : X → List ℕ) (b : Bool) (x : X) (r : Option X) → cond b (Some (f x)) (option_map f r) ≡ option_map f (cond b (Some x) r)
option_map-cond f true x r = refl
option_map-cond f false x r = refl

-- what the map of the entries has at a key
pub get-pages_by : {X : Type 0} (f : X → List ℕ) (es : List (ℕ × X)) (q : ℕ) → get (pages_by f es) q ≡ option_map f (lookup (is_at (nat_cmp q)) es)
get-pages_by f [] q = get-from_entries nat_cmp_total [] q
get-pages_by f (e ∷ es) q =
    get-insert nat_cmp_total (pages_by f es) e.0 (f e.1) q
    ∙ ap (cond (is_at (nat_cmp q) e.0) (Some (f e.1))) (get-pages_by f es q)
    ∙ option_map-cond f (is_at (nat_cmp q) e.0) e.1 (lookup (is_at (nat_cmp q)) es)

-- entries that differ at one key make maps that differ there
pub pages_by-updated : {X : Type 0} (f : X → List ℕ) (es fs : List (ℕ × X)) (k : ℕ) (v : X) → ((q : ℕ) → lookup (is_at (nat_cmp q)) fs ≡ cond (is_at (nat_cmp k) q) (Some v) (lookup (is_at (nat_cmp q)) es)) → pages_by f fs ≡ insert (pages_by f es) k (f v)
pages_by-updated f es fs k v h = same_map nat_cmp_total nat_cmp-IsAntisymmetric _ _ (λ q.
    get-pages_by f fs q ∙ ap (option_map f) (h q) ∙ sym (option_map-cond f (is_at (nat_cmp k) q) v (lookup (is_at (nat_cmp q)) es))
    ∙ ap (λ b. cond b (Some (f v)) (option_map f (lookup (is_at (nat_cmp q)) es))) ((eq_by_cmp_equiv nat_cmp_total).symm k q)
    ∙ sym (get-insert nat_cmp_total (pages_by f es) k (f v) q ∙ ap (cond (is_at (nat_cmp q) k) (Some (f v))) (get-pages_by f es q)))

-- the same of the map that a model shows
pub get-shown : {X : Type 0} (f : X → List ℕ) (es : List (ℕ × X)) (shown : FinMap nat_cmp (List ℕ)) (q : ℕ) → pages_by f es ≡ shown → get shown q ≡ option_map f (lookup (is_at (nat_cmp q)) es)
get-shown f es shown q e = ap (λ m. get m q) (sym e) ∙ get-pages_by f es q

pub IsSome-option_map : {X : Type 0} (f : X → List ℕ) (o : Option X) → IsTrue (is_some o) ↔ IsSome (option_map f o)
IsSome-option_map f None = (λ h. h, λ h. h)
IsSome-option_map f (Some x) = (λ h. h, λ h. h)

-- the map of a table that differs at one key
pub pages_by-differs : {X : Type 0} (f : X → List ℕ) (m n : BTreeMap ℕ X) (k : ℕ) (v : X) (bytes : List ℕ) → Differs m n k v → f v ≡ bytes → pages_by f n.entries ≡ insert (pages_by f m.entries) k bytes
pages_by-differs f m n k v bytes h e = pages_by-updated f m.entries n.entries k v h ∙ ap (insert (pages_by f m.entries) k) e

-- what is not in the table is not held
pub none_held : {X : Type 0} (f : X → List ℕ) (m : BTreeMap ℕ X) (k : ℕ) → None ≡ tree.get nat_cmp m k → get (pages_by f m.entries) k ≡ None
none_held f m k e = get-pages_by f m.entries k ∙ ap (option_map f) (sym e)

pub some_held : {X : Type 0} (f : X → List ℕ) (m : BTreeMap ℕ X) (k : ℕ) (x : X) → Some x ≡ tree.get nat_cmp m k → get (pages_by f m.entries) k ≡ Some (f x)
some_held f m k x e = get-pages_by f m.entries k ∙ ap (option_map f) (sym e)

-- the map of a table of frames has frames
pub each-shown : {X : Type 0} (f : X → List ℕ) (m : BTreeMap ℕ X) (shown : FinMap nat_cmp (List ℕ)) → pages_by f m.entries ≡ shown → AreFrames f m → (q : ℕ) → IfSome (get shown q) (λ b. (q < 2 ^ 34) × IsBlock 4096 b)
each-shown {X = X} f m shown e frames q = subst (λ o. IfSome o (λ b. (q < 2 ^ 34) × IsBlock 4096 b)) (sym (get-shown f m.entries shown q e)) (mapped (tree.get nat_cmp m q) (frames.each q))
  where
    mapped : (o : Option X) → IfSome o (λ x. (q < 2 ^ 34) × IsBlock 4096 (f x)) → IfSome (option_map f o) (λ b. (q < 2 ^ 34) × IsBlock 4096 b)
    mapped None h = tt
    mapped (Some x) h = h
