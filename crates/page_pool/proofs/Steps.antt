-- Each change of a pool leaves a pool.
use Rattle.std.proofs.Common.{◌≡◌, ℕ, ◌+◌, ◌<◌, ◌≤◌, List, [], ◌∷◌, Bool, true, false, cond, refl, sym, ap, ◌∙◌, subst, Some, arith, take, length, ⊎_elim}
use Rattle.std.specs.Prelude.{IsSome, is_some, get_or, nat_eq, unwrap_or, set}
use Rattle.std.specs.List.{list_any}
use Rattle.std.specs.Ordering.{nat_cmp, is_eq}
use Rattle.std.specs.Cmp.{nat_cmp_total}
use Rattle.std.specs.BTreeMap as tree
use Rattle.std.specs.FinMap as finite
use Rattle.std.specs.FinMap.{nat_cmp-IsAntisymmetric, get-insert}
use Rattle.std.proofs.lemmas.Option.{slice_get_read}
use Rattle.kx_pages.specs.Lists.{count}
use Rattle.kx_pages.proofs.Counting.{count-append}
use Rattle.page_pool.specs.inner.Repeats.{IsFirstRepeat}
use Rattle.page_pool.specs.inner.Marks.{marks_of, FiledAreAmong, AreMarks, IsPool}
use Rattle.page_pool.specs.inner.Queue.{pages_at}
use Rattle.page_pool.proofs.Left.{usable_undrawn}
use Rattle.page_pool.proofs.Queueing.{queue_drawn, gone_more, gone_among, count_among}
use Rattle.page_pool.proofs.Made.{marks_none, pool_made, count-any, some-fresh}
use Rattle.kx_laws.proofs.Booleans.{Equal-from_is_eq}

-- a draw
pub drawn_pool : (xs queue : List ℕ) (flags : List Bool) (next stop limit : ℕ) (m : tree.BTreeMap ℕ Bool) → IsPool xs queue flags next stop limit m → next < stop
    → IsPool xs queue (set flags (get_or queue next 0) true) (next + 1) stop limit m
drawn_pool xs queue flags next stop limit m h less = record {
  once = h.once;
  low = h.low;
  few = h.few;
  queued = queue_drawn xs queue flags next stop limit h.once h.queued less;
  have = h.have;
  filed = record { each = λ x f. omega (arith, h.filed.each x f, ap (count x) (gone_more xs queue flags next stop limit h.once h.queued less), count-append x (pages_at xs (take next queue)) (get_or xs (get_or queue next 0) 0 ∷ [])) };
}

filed_more : (xs : List ℕ) (m n : tree.BTreeMap ℕ Bool) (p : ℕ) (b : Bool) → FiledAreAmong xs m → marks_of n ≡ finite.insert (marks_of m) p b → (b ≡ true → 1 ≤ count p xs) → FiledAreAmong xs n
filed_more xs m n p b old new known = record { each = λ x f. go x _ refl (sym (ap (λ o. unwrap_or o false) (ap (λ t. finite.get t x) new ∙ get-insert nat_cmp_total (marks_of m) p b x)) ∙ f) }
  where
    go : (x : ℕ) (z : Bool) → is_eq (nat_cmp x p) ≡ z → unwrap_or (cond z (Some b) (finite.get (marks_of m) x)) false ≡ true → 1 ≤ count x xs
    go x true e f = subst (λ y. 1 ≤ count y xs) (sym (nat_cmp-IsAntisymmetric x p (Equal-from_is_eq _ e))) (known f)
    go x false e f = old.each x f

-- a mark
pub marked_pool : (xs queue : List ℕ) (flags : List Bool) (next stop limit : ℕ) (m k : tree.BTreeMap ℕ Bool) (p : ℕ) (b : Bool) → IsPool xs queue flags next stop limit m → marks_of k ≡ finite.insert (marks_of m) p b
    → ((q : ℕ) → IsSome (tree.get nat_cmp m q) → IsSome (tree.get nat_cmp k q)) → (b ≡ true → 1 ≤ count p (pages_at xs (take next queue))) → IsPool xs queue flags next stop limit k
marked_pool xs queue flags next stop limit m k p b h new stays known = record {
  once = h.once;
  low = h.low;
  few = h.few;
  queued = h.queued;
  have = record { each = λ x c. stays x (h.have.each x c) };
  filed = filed_more (pages_at xs (take next queue)) m k p b h.filed new known;
}

-- a drawn page has a mark
pub drawn_has_mark : (xs queue : List ℕ) (flags : List Bool) (next stop limit : ℕ) (m : tree.BTreeMap ℕ Bool) (p : ℕ) → IsPool xs queue flags next stop limit m → 1 ≤ count p (pages_at xs (take next queue)) → IsSome (tree.get nat_cmp m p)
drawn_has_mark xs queue flags next stop limit m p h c = h.have.each p (count_among xs (pages_at xs (take next queue)) p (gone_among xs queue flags next stop limit xs h.queued) c)

-- no page
pub empty_pool : (m : tree.BTreeMap ℕ Bool) (limit : ℕ) → m.entries ≡ [] → IsPool [] [] [] 0 0 limit m
empty_pool m limit none = pool_made [] [] [] limit m (omega arith) (marks_none m (λ q. rw none refl)) refl refl (usable_undrawn limit [])

pub empty_marks : (m : tree.BTreeMap ℕ Bool) → m.entries ≡ [] → marks_of m ≡ finite.empty
empty_marks m none = rw none refl

-- the first repeat
pub repeat_here : (xs : List ℕ) (i k : ℕ) (m : tree.BTreeMap ℕ Bool) (b : Bool) → i < length xs → k ≡ get_or xs i k → AreMarks (take i xs) m → b ≡ is_some (tree.get nat_cmp m k) → b ≡ true → IsFirstRepeat xs k
repeat_here xs i k m b less is marks e found = record {
  place = i;
  here = slice_get_read xs (length xs) i k refl less is;
  earlier = ⊎_elim (λ t. t.1) (λ t. absurd (clash _ any t.0)) (count-any k (take i xs));
  once = marks.once;
}
  where
    any : list_any (nat_eq k) (take i xs) ≡ true
    any = sym (some-fresh _) ∙ sym (ap is_some (marks.each k)) ∙ sym e ∙ found

    clash : (b : Bool) → b ≡ true → b ≡ false → ⊥
    clash true p q = cc
    clash false p q = cc
