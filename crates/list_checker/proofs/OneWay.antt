-- A reading has one end, and a walk is a reading without an obstacle.
use Rattle.std.proofs.Common.{◌≡◌, ℕ, zero, suc, ◌+◌, ◌*◌, ◌^◌, ◌<◌, ◌++◌, List, [], ◌∷◌, Option, Some, None, refl, sym, ap, ◌∙◌, subst, arith, append_assoc, false}
use Rattle.std.specs.Prelude.{◌%◌, leb}
use Rattle.std.proofs.lemmas.Option.{none-some}
use Rattle.kx_pages.specs.declared.item.Item.{Item}
use Rattle.kx_pages.specs.declared.item.Item.TheVariants.{Link, Destination, Source, Done}
use Rattle.list_checker.specs.declared.fault.Why.{Why}
use Rattle.kx_pages.specs.Bytes.{Mem}
use Rattle.page_memory.specs.Memory.{word}
use Rattle.kx_pages.specs.Items.{code, decode}
use Rattle.list_checker.specs.Walk.{Reads, Walk, links}
use Rattle.kx_pages.specs.Lists.{Distinct}
use Rattle.list_checker.specs.Faults.{Reasons, Earlier, nothing_earlier, with_item, with_pair, following, why_by, walk_reasons, FaultyBy}
use Rattle.list_checker.specs.inner.Faults.{FaultlessBy}
use Rattle.kx_laws.proofs.Options.{some_same}
use Rattle.list_checker.proofs.Lists.{none_first}
use Rattle.list_checker.proofs.Checking.{decode-code}
use Rattle.kx_pages.proofs.Lists.{has_not-from_Each}
use Rattle.kx_pages.proofs.Counting.{Distinct-split}

pub not_both_by : (M : Mem) (R : Reasons) (n m : ℕ) (place : Option ℕ) (s : Earlier) (w : ℕ) (why : Why) (last : Earlier) → FaultyBy M R place s w n why → FaultlessBy M R place s w m last → ⊥
not_both_by M R zero zero place s w why last f k = none-some why (sym k.2 ∙ ap (why_by R place s) (sym k.1) ∙ f)
not_both_by M R zero (suc m) place s w why last f k = none-some why (sym k.2 ∙ ap (why_by R place s) (sym k.1) ∙ f)
not_both_by M R (suc n) zero place s w why last f k = f.3 k.0 (some_same f.0 (Done k.0) (sym f.1 ∙ k.1))
not_both_by M R (suc n) (suc m) place s w why last f k =
    let e : f.0 ≡ k.0 = some_same f.0 k.0 (sym f.1 ∙ k.1) in
    not_both_by M R n m (Some (following place k.0)) (with_item s k.0) (word M (following place k.0)) why last
    (subst (λ i. FaultyBy M R (Some (following place i)) (with_item s i) (word M (following place i)) n why) e f.4) k.4

paired_links : (o : Option ℕ) (s : Earlier) (p : ℕ) → (with_pair o s p).links ≡ s.links
paired_links None s p = refl
paired_links (Some t) s p = refl

in_limit : (p : ℕ) → p < 2 ^ 34 → leb (2 ^ 34) p ≡ false
in_limit p e = grind arith

not_in_last : (a : ℕ) → a % 4096 < 4088 → leb 4088 (a % 4096) ≡ false
not_in_last a e = grind arith

module _ (M : Mem) where
  abbrev Ends : Option ℕ → Earlier → ℕ → Type 0
  Ends place s w = (n : ℕ) × (last : Earlier) × FaultlessBy M walk_reasons place s w n last

  read_as : (a : ℕ) (i : Item) → word M a ≡ code i → decode (word M a) ≡ Some i
  read_as a i e = ap decode e ∙ decode-code i

  link_clear : (place : Option ℕ) (s : Earlier) (p : ℕ) (js : List Item) → p < 2 ^ 34 → Distinct (s.links ++ p ∷ links js) → why_by walk_reasons place s (Some (Link p)) ≡ None
  link_clear place s p js l d = none_first (walk_reasons place s (Link p)) (in_limit p l, (has_not-from_Each p s.links (Distinct-split s.links p (links js) d), tt))

  clear : (is : List Item) (a : ℕ) (s : Earlier) → Reads M a is → Distinct (s.links ++ links is) → Ends (Some a) s (word M a)
  clear [] a s r d = absurd r
  clear (Done p ∷ is) a s r d = (0, s, (p, read_as a (Done p) r.0, refl, refl))
  clear (Link p ∷ is) a s r d =
      let t = clear is (4096 * p) (with_item s (Link p)) r.2 (subst Distinct (sym (append_assoc s.links (p ∷ []) (links is))) d) in
      (suc t.0, t.1, (Link p, read_as a (Link p) r.0, link_clear (Some a) s p is r.1 d, (λ q e. cc), t.2))
  clear (Destination p ∷ is) a s r d =
      let t = clear is (a + 8) (with_item s (Destination p)) r.3 d in
      (suc t.0, t.1, (Destination p, read_as a (Destination p) r.0, none_first (walk_reasons (Some a) s (Destination p)) (in_limit p r.1, (refl, (not_in_last a r.2, tt))), (λ q e. cc), t.2))
  clear (Source p ∷ is) a s r d =
      let t = clear is (a + 8) (with_item s (Source p)) r.3 (subst (λ ls. Distinct (ls ++ links is)) (sym (paired_links s.next s p)) d) in
      (suc t.0, t.1, (Source p, read_as a (Source p) r.0, none_first (walk_reasons (Some a) s (Source p)) (in_limit p r.1, (refl, (not_in_last a r.2, tt))), (λ q e. cc), t.2))

  pub walk_clear : (head : ℕ) (is : List Item) → Walk M head is → Distinct (links is) → Ends None nothing_earlier head
  walk_clear head [] r d = absurd r
  walk_clear head (Destination p ∷ is) r d = absurd r
  walk_clear head (Source p ∷ is) r d = absurd r
  walk_clear head (Done p ∷ is) r d = (0, nothing_earlier, (p, ap decode r.0 ∙ decode-code (Done p), refl, refl))
  walk_clear head (Link p ∷ is) r d =
      let t = clear is (4096 * p) (with_item nothing_earlier (Link p)) r.2 d in
      (suc t.0, t.1, (Link p, ap decode r.0 ∙ decode-code (Link p), link_clear None nothing_earlier p is r.1 d, (λ q e. cc), t.2))

pub no_walk : (M : Mem) (head n : ℕ) (why : Why) → FaultyBy M walk_reasons None nothing_earlier head n why → (is : List Item) → Walk M head is → Distinct (links is) → ⊥
no_walk M head n why f is w d = let t = walk_clear M head is w d in not_both_by M walk_reasons n t.0 None nothing_earlier head why t.1 f t.2
