-- What context preserved asks of the links and pairs so far.
use Rattle.std.proofs.Common.{◌≡◌, ℕ, ◌++◌, List, [], ◌∷◌, Option, Some, None, refl, sym, false}
use Rattle.std.specs.List.{AllByRecursion}
use Rattle.std.specs.Prelude.{◌≢◌, eqb, ◌||◌, ◌&&◌}
use Rattle.std.proofs.lemmas.Bool.{or_parts, eqb-false, ne_eqb}
use Rattle.kx_pages.specs.Lists.{sources, has}
use Rattle.list_checker.specs.Walk.{PairsApart}
use Rattle.list_checker.specs.Faults.{is_swap, is_kept}
use Rattle.kx_pages.proofs.Lists.{Each-map, Each-both, Each-append, Each-left, Each-right, Each-from_has_not, has_not-from_Each, Each-from_sources, Each-sources}

pub record FineKept (s : ℕ) (ls : List ℕ) (qs : List (ℕ × ℕ)) : Type 0 where
  pub apart : PairsApart qs
  pub links_no_sources : AllByRecursion (λ q. AllByRecursion (λ l. q.1 ≢ l) ls) qs
  pub links_apart : AllByRecursion (λ l. l ≢ s) ls
  pub pairs_apart : AllByRecursion (λ q. (q.0 ≢ s) × (q.1 ≢ s)) qs

abbrev pub Keeps : Option ℕ → List ℕ → List (ℕ × ℕ) → Type 0
Keeps None ls qs = Unit {0}
Keeps (Some s) ls qs = FineKept s ls qs

pub keeps_none : (swap : Option ℕ) → Keeps swap [] []
keeps_none None = tt
keeps_none (Some s) = record { apart = tt; links_no_sources = tt; links_apart = tt; pairs_apart = tt }

pub keeps_link : (swap : Option ℕ) (ls : List ℕ) (qs : List (ℕ × ℕ)) (p : ℕ) → Keeps swap ls qs → (is_kept swap && has p (sources qs)) ≡ false → is_swap swap p ≡ false → Keeps swap (ls ++ p ∷ []) qs
keeps_link None ls qs p f a b = tt
keeps_link (Some s) ls qs p f a b = record {
  apart = f.apart;
  links_no_sources = Each-both qs (λ q x n. Each-append (λ l. q.1 ≢ l) ls (p ∷ []) x (n, tt)) f.links_no_sources (Each-from_sources (λ x. x ≢ p) qs (Each-from_has_not p (sources qs) a));
  links_apart = Each-append (λ l. l ≢ s) ls (p ∷ []) f.links_apart (eqb-false p s b, tt);
  pairs_apart = f.pairs_apart;
}

PairsApart-push : (qs : List (ℕ × ℕ)) (r : ℕ × ℕ) → PairsApart qs → AllByRecursion (λ q. (q.0 ≢ r.0) × (q.0 ≢ r.1) × (q.1 ≢ r.0) × (q.1 ≢ r.1)) qs → PairsApart (qs ++ r ∷ [])
PairsApart-push [] r d h = (tt, tt)
PairsApart-push (q ∷ qs) r d h = (Each-append (λ s. (q.0 ≢ s.0) × (q.0 ≢ s.1) × (q.1 ≢ s.0) × (q.1 ≢ s.1)) qs (r ∷ []) d.0 (h.0, tt), PairsApart-push qs r d.1 h.1)

PairsApart-split : (qs : List (ℕ × ℕ)) (r : ℕ × ℕ) (rs : List (ℕ × ℕ)) → PairsApart (qs ++ r ∷ rs) → AllByRecursion (λ q. (q.0 ≢ r.0) × (q.0 ≢ r.1) × (q.1 ≢ r.0) × (q.1 ≢ r.1)) qs
PairsApart-split [] r rs d = tt
PairsApart-split (q ∷ qs) r rs d = ((Each-right (λ s. (q.0 ≢ s.0) × (q.0 ≢ s.1) × (q.1 ≢ s.0) × (q.1 ≢ s.1)) qs (r ∷ rs) d.0).0, PairsApart-split qs r rs d.1)

pub keeps_pair : (swap : Option ℕ) (ls : List ℕ) (qs : List (ℕ × ℕ)) (t p : ℕ) → Keeps swap ls qs → AllByRecursion (λ q. (q.0 ≢ t) × (q.0 ≢ p)) qs → (is_kept swap && has p ls) ≡ false
    → (is_kept swap && (has t (sources qs) || has p (sources qs))) ≡ false → (is_swap swap t || is_swap swap p) ≡ false → Keeps swap ls (qs ++ (t, p) ∷ [])
keeps_pair None ls qs t p f u a b c = tt
keeps_pair (Some s) ls qs t p f u a b c =
    let m = or_parts (has t (sources qs)) (has p (sources qs)) b in
    let n = or_parts (eqb t s) (eqb p s) c in
    let v : AllByRecursion (λ q. (q.1 ≢ t) × (q.1 ≢ p)) qs = Each-both qs (λ q x y. (x, y)) (Each-from_sources (λ x. x ≢ t) qs (Each-from_has_not t (sources qs) m.0)) (Each-from_sources (λ x. x ≢ p) qs (Each-from_has_not p (sources qs) m.1)) in
    record {
      apart = PairsApart-push qs (t, p) f.apart (Each-both qs (λ q x y. (x.0, x.1, y.0, y.1)) u v);
      links_no_sources = Each-append (λ q. AllByRecursion (λ l. q.1 ≢ l) ls) qs ((t, p) ∷ []) f.links_no_sources (Each-map ls (λ l x y. x (sym y)) (Each-from_has_not p ls a), tt);
      links_apart = f.links_apart;
      pairs_apart = Each-append (λ q. (q.0 ≢ s) × (q.1 ≢ s)) qs ((t, p) ∷ []) f.pairs_apart ((eqb-false t s n.0, eqb-false p s n.1), tt);
    }

pub link_keeps : (swap : Option ℕ) (ls : List ℕ) (qs : List (ℕ × ℕ)) (p : ℕ) (ys : List ℕ) (rs : List (ℕ × ℕ)) → Keeps swap (ls ++ p ∷ ys) (qs ++ rs)
    → ((is_kept swap && has p (sources qs)) ≡ false) × (is_swap swap p ≡ false)
link_keeps None ls qs p ys rs f = (refl, refl)
link_keeps (Some s) ls qs p ys rs f = (
  has_not-from_Each p (sources qs) (Each-sources (λ x. x ≢ p) qs (Each-map qs (λ q x. (Each-right (λ l. q.1 ≢ l) ls (p ∷ ys) x).0) (Each-left (λ q. AllByRecursion (λ l. q.1 ≢ l) (ls ++ p ∷ ys)) qs rs f.links_no_sources))),
  ne_eqb p s (Each-right (λ l. l ≢ s) ls (p ∷ ys) f.links_apart).0,
)

pub pair_keeps : (swap : Option ℕ) (ls : List ℕ) (qs : List (ℕ × ℕ)) (t p : ℕ) (ys : List ℕ) (rs : List (ℕ × ℕ)) → Keeps swap (ls ++ ys) (qs ++ (t, p) ∷ rs)
    → ((is_kept swap && has p ls) ≡ false) × ((is_kept swap && (has t (sources qs) || has p (sources qs))) ≡ false) × ((is_swap swap t || is_swap swap p) ≡ false)
pair_keeps None ls qs t p ys rs f = (refl, refl, refl)
pair_keeps (Some s) ls qs t p ys rs f =
    let stay : AllByRecursion (λ l. p ≢ l) ls = Each-left (λ l. p ≢ l) ls ys (Each-right (λ q. AllByRecursion (λ l. q.1 ≢ l) (ls ++ ys)) qs ((t, p) ∷ rs) f.links_no_sources).0 in
    let a = PairsApart-split qs (t, p) rs f.apart in
    let c : (t ≢ s) × (p ≢ s) = (Each-right (λ q. (q.0 ≢ s) × (q.1 ≢ s)) qs ((t, p) ∷ rs) f.pairs_apart).0 in
    let first : has t (sources qs) ≡ false = has_not-from_Each t (sources qs) (Each-sources (λ x. x ≢ t) qs (Each-map qs (λ q x. x.2) a)) in
    let second : has p (sources qs) ≡ false = has_not-from_Each p (sources qs) (Each-sources (λ x. x ≢ p) qs (Each-map qs (λ q x. x.3) a)) in
    (has_not-from_Each p ls (Each-map ls (λ l x y. x (sym y)) stay), rw first second, rw (ne_eqb t s c.0) (ne_eqb p s c.1))
