-- Each reading ends: at a done word, or at its first fault.
use Rattle.std.proofs.Common.{◌≡◌, ℕ, zero, suc, ◌+◌, ◌-◌, ◌*◌, ◌^◌, ◌<◌, ◌≤◌, List, [], ◌∷◌, ◌++◌, length, Option, Some, None, refl, sym, ap, ◌∙◌, subst, inl, inr, arith, length-append, true, false, ⊎_elim}
use Rattle.std.specs.Prelude.{◌≢◌, ◌⊎◌, ◌%◌, eqb, leb}
use Rattle.std.specs.List.{IsDistinct, AllByRecursion, list_any}
use Rattle.std.proofs.lemmas.Bool.{or_cases, eqb-true, ne_eqb, true≢false, false≢true}
use Rattle.std.proofs.lemmas.Option.{none-some}
use Rattle.kx_pages.specs.declared.item.Item.{Item}
use Rattle.kx_pages.specs.declared.item.Item.TheVariants.{Link, Destination, Source, Done}
use Rattle.list_checker.specs.declared.fault.Why.{Why}
use Rattle.list_checker.specs.declared.fault.Why.TheVariants.{Flags}
use Rattle.kx_pages.specs.Bytes.{Mem, Wants}
use Rattle.page_memory.specs.Memory.{word}
use Rattle.kx_pages.specs.Items.{decode}
use Rattle.kx_pages.specs.Lists.{Distinct}
use Rattle.list_checker.specs.Faults.{Earlier, nothing_earlier, with_item, with_pair, following, reasons, Faulty}
use Rattle.list_checker.specs.inner.Faults.{reason, Faultless}
use Rattle.list_checker.specs.inner.Laws.{CheckEnds}
use Rattle.kx_laws.proofs.Options.{some_same}
use Rattle.list_checker.proofs.Lists.{none_holds}
use Rattle.list_checker.proofs.Checking.{check_exact}
use Rattle.list_checker.proofs.OneWay.{not_both_by}
use Rattle.kx_pages.proofs.Lists.{Each-append, Each-from_has_not}
use Rattle.kx_pages.proofs.Counting.{Distinct-push, room}

-- distinct numbers below n are at most n
distinct_by_test : (xs : List ℕ) → Distinct xs → IsDistinct eqb xs
unfolding IsDistinct
distinct_by_test [] d = tt
distinct_by_test (x ∷ xs) d = (each xs d.0, distinct_by_test xs d.1)
  where
    each : (ys : List ℕ) → AllByRecursion (λ y. x ≢ y) ys → AllByRecursion (λ y. eqb x y ≡ false) ys
    each [] h = tt
    each (y ∷ ys) h = (ne_eqb x y h.0, each ys h.1)

each_below : (n : ℕ) (xs : List ℕ) → AllByRecursion (λ x. x < n) xs → (q : ℕ) → list_any (eqb q) xs ≡ true → q < n
each_below n [] h q e = absurd (false≢true e)
each_below n (x ∷ xs) h q e = ⊎_elim (λ k. let s = eqb-true q x k in omega (arith, s, h.0)) (λ k. each_below n xs h.1 q k) (or_cases (eqb q x) (list_any (eqb q) xs) e)

-- the bytes from a place to the end of its page
abbrev pub bytes_left : Option ℕ → ℕ
bytes_left None = 4097
bytes_left (Some a) = 4096 - a % 4096

-- how far a reading can go, with n pages for its links
abbrev pub reach : ℕ → Option ℕ → ℕ → ℕ
reach n place links = 4097 * (n - links) + bytes_left place

-- links that are pages, each once
pub record Linked (ls : List ℕ) : Type 0 where
  pub once : Distinct ls
  pub below : AllByRecursion (λ x. x < 2 ^ 34) ls

pub linked_none : Linked []
linked_none = record { once = tt; below = tt }

pub linked_more : (ls : List ℕ) (p : ℕ) → Linked ls → AllByRecursion (λ x. x ≢ p) ls → p < 2 ^ 34 → Linked (ls ++ p ∷ [])
linked_more ls p k n l = record { once = Distinct-push ls p k.once n; below = Each-append (λ x. x < 2 ^ 34) ls (p ∷ []) k.below (l, tt) }

pub few_links : (ls : List ℕ) → Linked ls → length ls ≤ 2 ^ 34
few_links ls k = room (2 ^ 34) ls k.once k.below

link_nearer : (m n : ℕ) (place : Option ℕ) (p a : ℕ) → a + 1 ≤ n → m ≡ a + 1 → reach n (Some (4096 * p)) m < reach n place a
link_nearer m n None p a l e = omega (arith, l, e)
link_nearer m n (Some b) p a l e = omega (arith, l, e)

pub reach_link : (ls : List ℕ) (p : ℕ) (place : Option ℕ) → Linked (ls ++ p ∷ []) → reach (2 ^ 34) (Some (4096 * p)) (length (ls ++ p ∷ [])) < reach (2 ^ 34) place (length ls)
reach_link ls p place k =
    let e : length (ls ++ p ∷ []) ≡ length ls + 1 = length-append ls (p ∷ []) in
    let l : length ls + 1 ≤ 2 ^ 34 = let f = few_links (ls ++ p ∷ []) k in omega (arith, e, f) in
    link_nearer (length (ls ++ p ∷ [])) (2 ^ 34) place p (length ls) l e

pub reach_next : (n m a : ℕ) → a % 4096 < 4088 → reach n (Some (a + 8)) m < reach n (Some a) m
reach_next n m a l = omega (arith, l)

module _ (M : Mem) (W : Wants) (all : List ℕ) (control : ℕ) (swap : Option ℕ) where
  abbrev Ends : Option ℕ → Earlier → ℕ → Type 0
  Ends place s w = ((n : ℕ) × (last : Earlier) × Faultless M W all control swap place s w n last) ⊎ ((n : ℕ) × (why : Why) × Faulty M W all control swap place s w n why)

  abbrev EndsWithin : ℕ → Type 0
  EndsWithin fuel = (place : Option ℕ) (s : Earlier) (w : ℕ) → Linked s.links → reach (2 ^ 34) place (length s.links) < fuel → Ends place s w

  below_limit : (p : ℕ) → leb (2 ^ 34) p ≡ false → p < 2 ^ 34
  below_limit p e = grind arith

  not_last : (a : ℕ) → leb 4088 (a % 4096) ≡ false → a % 4096 < 4088
  not_last a e = grind arith

  further : (place : Option ℕ) (s : Earlier) (w : ℕ) (i : Item) → decode w ≡ Some i → reason M W all control swap place s (Some i) ≡ None → ((p : ℕ) → i ≢ Done p) → Ends (Some (following place i)) (with_item s i) (word M (following place i)) → Ends place s w
  further place s w i e r d (inl k) = inl (suc k.0, k.1, (i, e, r, d, k.2))
  further place s w i e r d (inr k) = inr (suc k.0, k.1, (i, e, r, d, k.2))

  paired_links : (o : Option ℕ) (s : Earlier) (p : ℕ) → (with_pair o s p).links ≡ s.links
  paired_links None s p = refl
  paired_links (Some t) s p = refl

  along : (place : Option ℕ) (s : Earlier) (w : ℕ) (fuel : ℕ) → EndsWithin fuel → Linked s.links → reach (2 ^ 34) place (length s.links) < suc fuel → (i : Item) → decode w ≡ Some i → reason M W all control swap place s (Some i) ≡ None → Ends place s w
  along place s w fuel ih k l (Done p) e r = inl (0, s, (p, e, r, refl))
  along place s w fuel ih k l (Link p) e r =
      let h = none_holds (reasons M W all control swap place s (Link p)) r in
      let more = linked_more s.links p k (Each-from_has_not p s.links h.1.0) (below_limit p h.0) in
      let near = reach_link s.links p place more in
      further place s w (Link p) e r (λ q x. cc) (ih (Some (4096 * p)) (with_item s (Link p)) (word M (4096 * p)) more (omega (arith, near, l)))
  along None s w fuel ih k l (Destination p) e r = absurd (true≢false (none_holds (reasons M W all control swap None s (Destination p)) r).1.0)
  along None s w fuel ih k l (Source p) e r = absurd (true≢false (none_holds (reasons M W all control swap None s (Source p)) r).1.0)
  along (Some a) s w fuel ih k l (Destination p) e r =
      let h = none_holds (reasons M W all control swap (Some a) s (Destination p)) r in
      let near = reach_next (2 ^ 34) (length s.links) a (not_last a h.1.1.0) in
      further (Some a) s w (Destination p) e r (λ q x. cc) (ih (Some (a + 8)) (with_item s (Destination p)) (word M (a + 8)) k (omega (arith, near, l)))
  along (Some a) s w fuel ih k l (Source p) e r =
      let h = none_holds (reasons M W all control swap (Some a) s (Source p)) r in
      let near = reach_next (2 ^ 34) (length s.links) a (not_last a h.1.1.0) in
      let same = sym (paired_links s.next s p) in
      further (Some a) s w (Source p) e r (λ q x. cc)
      (ih (Some (a + 8)) (with_item s (Source p)) (word M (a + 8)) (subst Linked same k) (subst (λ ls. reach (2 ^ 34) (Some (a + 8)) (length ls) < fuel) same (omega (arith, near, l))))

  ends_within : (fuel : ℕ) → EndsWithin fuel
  ends_within zero place s w k l = absurd (omega (arith, l))
  ends_within (suc fuel) place s w k l = by_item (decode w) refl (ends_within fuel)
    where
      by_reason : (i : Item) → decode w ≡ Some i → (o : Option Why) → reason M W all control swap place s (Some i) ≡ o → EndsWithin fuel → Ends place s w
      by_reason i e None r ih = along place s w fuel ih k l i e r
      by_reason i e (Some why) r ih = inr (0, why, ap (reason M W all control swap place s) e ∙ r)

      by_item : (o : Option Item) → decode w ≡ o → EndsWithin fuel → Ends place s w
      by_item None e ih = inr (0, Flags, ap (reason M W all control swap place s) e)
      by_item (Some i) e ih = by_reason i e (reason M W all control swap place s (Some i)) refl ih

  one_fault : (n m : ℕ) (place : Option ℕ) (s : Earlier) (w : ℕ) (why also : Why) → Faulty M W all control swap place s w n why → Faulty M W all control swap place s w m also → (n ≡ m) × (why ≡ also)
  one_fault zero zero place s w why also f g = (refl, some_same why also (sym f ∙ g))
  one_fault zero (suc m) place s w why also f g = absurd (none-some why (sym g.2 ∙ ap (reason M W all control swap place s) (sym g.1) ∙ f))
  one_fault (suc n) zero place s w why also f g = absurd (none-some also (sym f.2 ∙ ap (reason M W all control swap place s) (sym f.1) ∙ g))
  one_fault (suc n) (suc m) place s w why also f g =
      let e : f.0 ≡ g.0 = some_same f.0 g.0 (sym f.1 ∙ g.1) in
      let t = one_fault n m (Some (following place g.0)) (with_item s g.0) (word M (following place g.0)) why also
      (subst (λ i. Faulty M W all control swap (Some (following place i)) (with_item s i) (word M (following place i)) n why) e f.4) g.4 in
      (ap suc t.0, t.1)

pub check_ends : CheckEnds
check_ends M W all head control swap l =
    let x = check_exact M W all head control swap l in (
      ⊎_elim (λ k. inl ((x.0 k.0 k.1 k.2).0, (x.0 k.0 k.1 k.2).1)) (λ k. inr k)
          (ends_within M W all control swap (suc (reach (2 ^ 34) None 0)) None nothing_earlier head linked_none (omega arith)),
      λ n why f. (
        λ is a. let t = x.1 is a in not_both_by M (reasons M W all control swap) n t.0 None nothing_earlier head why t.1 f t.3,
        λ m also g. one_fault M W all control swap n m None nothing_earlier head why also f g,
      ),
    )
