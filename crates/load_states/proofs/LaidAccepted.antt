-- What a load lays is accepted.
use Rattle.std.proofs.Common.{◌≡◌, ℕ, zero, suc, ◌+◌, ◌*◌, ◌^◌, ◌<◌, ◌≤◌, List, [], ◌∷◌, ◌++◌, length, Some, None, refl, sym, ap, ◌∙◌, subst, ⊎_elim, inl, inr, arith, take, drop, Bool, true, false, cond}
use Rattle.std.specs.List.{AllByRecursion}
use Rattle.std.specs.Prelude.{◌≢◌, ◌⊎◌, ◌/◌, ◌%◌, unwrap_or, eqb, slice_index}
use Rattle.std.proofs.lemmas.List.{length-drop}
use Rattle.std.proofs.lemmas.Bool.{true≢false}
use Rattle.std.proofs.lemmas.Bool.Decides.{eqb_tells}
use Rattle.kx_pages.specs.Items.{code}
use Rattle.kx_pages.specs.Lists.{Has, count, destinations, sources}
use Rattle.kx_pages.specs.declared.item.Item.{Item}
use Rattle.kx_pages.specs.declared.item.Item.TheVariants.{Link, Destination, Source, Done}
use Rattle.kx_pages.specs.declared.image.Wish.{Wish}
use Rattle.kx_pages.specs.declared.image.Wish.TheVariants.{Plain, Kept}
use Rattle.kx_pages.specs.Bytes.{Mem, Wants}
use Rattle.list_checker.specs.Walk.{links, pairs_from, pairs, DestinationFirst, InOrder, PairsApart, Accepted, AcceptedKept}
use Rattle.kimage_list.specs.Load.{Loading, Request, Entry, Start, Move, begun, own_request, requests_from, requests, loading_after}
use Rattle.kimage_list.specs.inner.Load.{pages_of}
use Rattle.kimage_list.specs.Laying.{items, chain, link_pages, source_pages, put_all, lay, head_of, control_of, swap_of, list_of}
use Rattle.kimage_list.specs.inner.Laying.{Holds}
use Rattle.kimage_list.specs.inner.Drafts.{one, IsHome}
use Rattle.kimage_list.proofs.Lists.{keys, holds_all, keys-append, keys-link_pages, keys-source_pages, length-items, heads_same, nil_cons}
use Rattle.kimage_list.proofs.Takes.{Sound, wishes_among, others, served_sound}
use Rattle.load_states.proofs.LaidWords.{IsMove, lead, walks}
use Rattle.kx_pages.proofs.Lists.{Each-map, Each-both, Each-take, Each-drop}
use Rattle.kx_pages.proofs.Counting.{count-append, Each-from_no_count, Distinct-from_count}
use Rattle.kx_pages.specs.Needs.{first_count}
use Rattle.kx_pages.proofs.Lists.{Each-left, Each-right, Each-from_destinations, Each-from_sources}
use Rattle.kx_pages.proofs.Counting.{Each-from_count}

-- each page follows the one before it, or the start of its segment
abbrev pub Follows : ℕ → List Entry → Type 0
Follows t [] = Unit {0}
Follows t (Start p ∷ es) = (p < 2 ^ 34) × Follows p es
Follows t (Move p ∷ es) = (p ≡ t) × Follows (suc t) es

-- the first entry is a start
abbrev pub Begins : List Entry → Type 0
Begins [] = ⊥
Begins (Start p ∷ es) = Unit {0}
Begins (Move p ∷ es) = ⊥

-- entries of a kernel whose pages W has and D tells
pub record Plan (D : ℕ → Bool) (W : Wants) (es : List Entry) : Type 0 where
  pub follows : Follows 0 es
  pub begins : Begins es
  pub once : (x : ℕ) → count x (pages_of es) ≤ 1
  pub wanted : AllByRecursion (λ p. (D p ≡ true) × (bytes : List ℕ) × (W p ≡ Some bytes)) (pages_of es)
  pub only : (p : ℕ) (bytes : List ℕ) → W p ≡ Some bytes → Has p (pages_of es)

each_count : (xs ys : List ℕ) → ((x : ℕ) → count x xs + count x ys ≤ 1) → AllByRecursion (λ x. count x ys ≡ 0) xs
each_count [] ys h = tt
each_count (x ∷ xs) ys h = (grind (arith, h x), each_count xs ys (λ y. omega (arith, h y)))

-- the requests of the entries
wished-append : (xs ys : List Request) → wishes_among (xs ++ ys) ≡ wishes_among xs ++ wishes_among ys
wished-append [] ys = refl
wished-append (None ∷ xs) ys = wished-append xs ys
wished-append (Some d ∷ xs) ys = ap (λ zs. d ∷ zs) (wished-append xs ys)

others-append : (xs ys : List Request) → others (xs ++ ys) ≡ others xs + others ys
others-append [] ys = omega arith
others-append (None ∷ xs) ys = omega (arith, others-append xs ys)
others-append (Some d ∷ xs) ys = others-append xs ys

link_request : (b : Bool) → (wishes_among (cond b (None ∷ []) []) ≡ []) × (others (cond b (None ∷ []) []) ≡ cond b 1 0)
link_request true = (refl, refl)
link_request false = (refl, refl)

own : (e : Entry) (ys : List ℕ) → (wishes_among (own_request e) ++ pages_of [] ≡ pages_of (e ∷ [])) × (others (own_request e) ≡ 0)
own (Start p) ys = (refl, refl)
own (Move p) ys = (refl, refl)

pub wished-requests : (n : ℕ) (es : List Entry) → wishes_among (requests_from n es) ≡ pages_of es
wished-requests n [] = refl
wished-requests n (Start p ∷ es) =
    wished-append (cond (eqb (n % 511) 0) (None ∷ []) []) (requests_from (suc n) es)
    ∙ ap (λ ys. ys ++ wishes_among (requests_from (suc n) es)) (link_request (eqb (n % 511) 0)).0 ∙ wished-requests (suc n) es
wished-requests n (Move p ∷ es) =
    wished-append (cond (eqb (n % 511) 0) (None ∷ []) []) (Some p ∷ requests_from (suc n) es)
    ∙ ap (λ ys. ys ++ p ∷ wishes_among (requests_from (suc n) es)) (link_request (eqb (n % 511) 0)).0 ∙ ap (λ ys. p ∷ ys) (wished-requests (suc n) es)

one_quotient : (n : ℕ) → cond (eqb (n % 511) 0) 1 0 + (n + 510) / 511 ≡ (suc n + 510) / 511
one_quotient n = go (eqb_tells (n % 511) 0)
  where
    go : ((eqb (n % 511) 0 ≡ true) × (n % 511 ≡ 0)) ⊎ ((eqb (n % 511) 0 ≡ false) × (n % 511 ≢ 0)) → cond (eqb (n % 511) 0) 1 0 + (n + 510) / 511 ≡ (suc n + 510) / 511
    go (inl e) = rw e.0 (omega (arith, e.1))
    go (inr e) = rw e.0 (omega (arith, e.1))

-- one link page for each 511 entries
pub others-requests : (n : ℕ) (es : List Entry) → others (requests_from n es) + (n + 510) / 511 ≡ (n + length es + 510) / 511
others-requests n [] = omega arith
others-requests n (e ∷ es) =
    let ih = others-requests (suc n) es in
    let a = others-append (cond (eqb (n % 511) 0) (None ∷ []) []) (own_request e ++ requests_from (suc n) es) in
    let b = others-append (own_request e) (requests_from (suc n) es) in
    let c = (link_request (eqb (n % 511) 0)).1 in
    let d = (own e []).1 in
    let s : n + suc (length es) + 510 ≡ suc n + length es + 510 = omega arith in
    rw s (omega (arith, ih, a, b, c, d, one_quotient n))

source_holds : (M : Mem) (W : Wants) (qs : List (ℕ × ℕ)) → Holds M (source_pages W qs) → AllByRecursion (λ q. M q.1 ≡ unwrap_or (W q.0) []) qs
source_holds M W [] h = tt
source_holds M W (q ∷ qs) h = (h.0, source_holds M W qs h.1)

-- the items of a load
moves_only : (t : ℕ) (es : List Entry) (qs : List (ℕ × ℕ)) → Follows t es → AllByRecursion (λ q. q.1 < 2 ^ 34) qs → AllByRecursion IsMove (items es qs)
moves_only t [] qs o h = tt
moves_only t (Start p ∷ es) qs o h = (o.0, moves_only p es qs o.1 h)
moves_only t (Move p ∷ es) [] o h = moves_only (suc t) es [] o.1 h
moves_only t (Move p ∷ es) (q ∷ qs) o h = (h.0, moves_only (suc t) es qs o.1 h.1)

pairs-items : (t : ℕ) (es : List Entry) (qs : List (ℕ × ℕ)) → Follows t es → destinations qs ≡ pages_of es → pairs_from t (items es qs) ≡ qs
pairs-items t [] [] o e = refl
pairs-items t [] (q ∷ qs) o e = absurd (nil_cons e)
pairs-items t (Start p ∷ es) qs o e = pairs-items p es qs o.1 e
pairs-items t (Move p ∷ es) [] o e = absurd (nil_cons (sym e))
pairs-items t (Move p ∷ es) (q ∷ qs) o e =
    let s = heads_same (destinations qs) (pages_of es) q.0 p e in
    let ih = pairs-items (suc t) es qs o.1 s.1 in
    let here : t ≡ q.0 = sym o.0 ∙ sym s.0 in
    ap (λ x. (x, q.1) ∷ pairs_from (suc t) (items es qs)) here ∙ ap (λ ys. q ∷ ys) ih

links-moves : (is r : List Item) → AllByRecursion IsMove is → links (is ++ r) ≡ links r
links-moves [] r m = refl
links-moves (Link p ∷ is) r m = absurd m.0
links-moves (Done p ∷ is) r m = absurd m.0
links-moves (Destination p ∷ is) r m = links-moves is r m.1
links-moves (Source p ∷ is) r m = links-moves is r m.1

pub links-chained : (ls : List ℕ) (is : List Item) → AllByRecursion IsMove is → links (chain ls is) ≡ ls
links-chained [] is m = refl
links-chained (l ∷ ls) is m =
    ap (λ ys. l ∷ ys) (links-moves (take 511 is) (chain ls (drop 511 is)) (Each-take IsMove 511 is m) ∙ links-chained ls (drop 511 is) (Each-drop IsMove 511 is m))

-- what follows a page's words
pairs-split : (n : ℕ) (t : ℕ) (is : List Item) (r : List Item → List Item) → ((u : ℕ) → pairs_from u (r (drop n is)) ≡ pairs_from u (drop n is)) → pairs_from t (take n is ++ r (drop n is)) ≡ pairs_from t is
pairs-split zero t is r h = h t
pairs-split (suc n) t [] r h = h t
pairs-split (suc n) t (Link p ∷ is) r h = pairs-split n t is r h
pairs-split (suc n) t (Destination p ∷ is) r h = pairs-split n p is r h
pairs-split (suc n) t (Source p ∷ is) r h = ap (λ ys. (t, p) ∷ ys) (pairs-split n (suc t) is r h)
pairs-split (suc n) t (Done p ∷ is) r h = pairs-split n t is r h

pub pairs-chained : (ls : List ℕ) (t : ℕ) (is : List Item) → length is ≤ 511 * length ls → pairs_from t (chain ls is) ≡ pairs_from t is
pairs-chained [] t [] n = refl
pairs-chained [] t (i ∷ is) n = absurd (omega (arith, n))
pairs-chained (l ∷ ls) t is n =
    pairs-split 511 t is (chain ls) (λ u. pairs-chained ls u (drop 511 is) (omega (arith, n, length-drop 511 is)))

led-chained : (ls : List ℕ) (es : List Entry) (qs : List (ℕ × ℕ)) → Begins es → DestinationFirst (chain ls (items es qs))
led-chained [] es qs b = tt
led-chained (l ∷ ls) [] qs b = absurd b
led-chained (l ∷ ls) (Start p ∷ es) qs b = tt
led-chained (l ∷ ls) (Move p ∷ es) qs b = absurd b

-- a destination is no page that D denies
differ : (D : ℕ → Bool) (x y : ℕ) → D x ≡ true → D y ≡ false → x ≢ y
differ D x y t f e = true≢false (sym t ∙ ap D e ∙ f)

homes_in_order : (D : ℕ → Bool) (qs : List (ℕ × ℕ)) → AllByRecursion (λ q. D q.0 ≡ true) qs → AllByRecursion (IsHome D) qs → ((x : ℕ) → count x (destinations qs) ≤ 1) → InOrder qs
homes_in_order D [] t h c = tt
homes_in_order D (q ∷ qs) t h c =
    let z : count q.0 (destinations qs) ≡ 0 = grind (arith, c q.0) in
    let away : AllByRecursion (λ r. r.0 ≢ q.0) qs = Each-from_destinations (λ x. x ≢ q.0) qs (Each-from_no_count q.0 (destinations qs) z) in
    (Each-both qs (λ r n m. ((λ e. n (sym e)), ⊎_elim (λ s e. n (sym (e ∙ s))) (λ f. differ D q.0 r.1 t.0 f) m)) away h.1, homes_in_order D qs t.1 h.1 (λ x. omega (arith, c x)))

-- no page stands in two pairs
apart_pairs : (D : ℕ → Bool) (qs : List (ℕ × ℕ)) → AllByRecursion (λ q. D q.0 ≡ true) qs → AllByRecursion (IsHome D) qs → ((x : ℕ) → count x (destinations qs) ≤ 1) → ((x : ℕ) → count x (sources qs) ≤ 1) → PairsApart qs
apart_pairs D [] t h c s = tt
apart_pairs D (q ∷ qs) t h c s =
    let u = homes_in_order D (q ∷ qs) t h c in
    let z : count q.1 (sources qs) ≡ 0 = grind (arith, s q.1) in
    let away : AllByRecursion (λ r. r.1 ≢ q.1) qs = Each-from_sources (λ x. x ≢ q.1) qs (Each-from_no_count q.1 (sources qs) z) in
    let back : AllByRecursion (λ r. q.1 ≢ r.0) qs = ⊎_elim (λ m. Each-map qs (λ r a e. a.0 (sym m ∙ e)) u.0) (λ f. Each-map qs (λ r d e. differ D r.0 q.1 d f (sym e)) t.1) h.0 in
    let both : AllByRecursion (λ r. (q.1 ≢ r.0) × (r.1 ≢ q.1)) qs = Each-both qs (λ r a b. (a, b)) back away in
    (Each-both qs (λ r a b. (a.0, a.1, b.0, λ e. b.1 (sym e))) u.0 both, apart_pairs D qs t.1 h.1 (λ x. omega (arith, c x)) (λ x. omega (arith, s x)))

-- what a load comes to, by its control page, link pages and pairs
pub record Comes (D : ℕ → Bool) (es : List Entry) (c : ℕ) (ls : List ℕ) (qs : List (ℕ × ℕ)) : Type 0 where
  pub apart : (x : ℕ) → one x c + count x ls + count x (sources qs) ≤ 1
  pub below : (x : ℕ) → 1 ≤ count x ls + count x (sources qs) → x < 2 ^ 34
  pub control_free : D c ≡ false
  pub links_free : AllByRecursion (λ l. D l ≡ false) ls
  pub homes : AllByRecursion (IsHome D) qs
  pub order : destinations qs ≡ pages_of es
  pub room : length es ≤ 511 * length ls

module _ (M : Mem) (D : ℕ → Bool) (W : Wants) (es : List Entry) (c : ℕ) (ls : List ℕ) (qs : List (ℕ × ℕ)) (plan : Plan D W es) (k : Comes D es c ls qs) where
  abbrev M1 : Mem
  M1 = put_all M (link_pages ls (items es qs) ++ source_pages W qs)

  known : AllByRecursion (λ q. (D q.0 ≡ true) × (bytes : List ℕ) × (W q.0 ≡ Some bytes)) qs
  known = Each-from_destinations (λ p. (D p ≡ true) × (bytes : List ℕ) × (W p ≡ Some bytes)) qs (rw k.order plan.wanted)

  true_at : AllByRecursion (λ q. D q.0 ≡ true) qs
  true_at = Each-map qs (λ q h. h.0) known

  dest_once : (x : ℕ) → count x (destinations qs) ≤ 1
  dest_once x = rw k.order (plan.once x)

  are_moves : AllByRecursion IsMove (items es qs)
  are_moves = moves_only 0 es qs plan.follows (Each-from_sources (λ x. x < 2 ^ 34) qs (Each-from_count (λ x. x < 2 ^ 34) (sources qs) (λ x n. k.below x (omega (arith, n)))))

  pairs_are : pairs (chain ls (items es qs)) ≡ qs
  pairs_are = pairs-chained ls 0 (items es qs) (omega (arith, length-items es qs, k.room)) ∙ pairs-items 0 es qs plan.follows k.order

  links_are : links (chain ls (items es qs)) ≡ ls
  links_are = links-chained ls (items es qs) are_moves

  keys_once : (x : ℕ) → count x (keys (link_pages ls (items es qs) ++ source_pages W qs)) ≤ 1
  keys_once x =
      let e : keys (link_pages ls (items es qs) ++ source_pages W qs) ≡ ls ++ sources qs =
      keys-append (link_pages ls (items es qs)) (source_pages W qs) ∙ ap (λ ys. ys ++ keys (source_pages W qs)) (keys-link_pages ls (items es qs)) ∙ ap (λ ys. ls ++ ys) (keys-source_pages W qs) in
      rw e (omega (arith, count-append x ls (sources qs), k.apart x))

  holds : Holds M1 (link_pages ls (items es qs) ++ source_pages W qs)
  holds = holds_all M (link_pages ls (items es qs) ++ source_pages W qs) keys_once

  brings : AllByRecursion (λ q. W q.0 ≡ Some (M1 q.1)) qs
  brings = Each-both qs (λ q a b. a.2 ∙ ap Some (sym (b ∙ ap (λ o. unwrap_or o []) a.2))) known
      (source_holds M1 W qs (Each-right (λ x. M1 x.0 ≡ x.1) (link_pages ls (items es qs)) (source_pages W qs) holds))

  links_below : AllByRecursion (λ l. l < 2 ^ 34) ls
  links_below = Each-from_count (λ x. x < 2 ^ 34) ls (λ x n. k.below x (omega (arith, n)))

  accepted : Accepted M1 W (lead (chain ls (items es qs))) c (chain ls (items es qs))
  accepted = record {
    walk = walks M1 ls (items es qs) links_below are_moves (Each-left (λ x. M1 x.0 ≡ x.1) (link_pages ls (items es qs)) (source_pages W qs) holds);
    once = rw links_are (Distinct-from_count ls (λ x. omega (arith, k.apart x)));
    destination_first = led-chained ls es qs plan.begins;
    in_order = rw pairs_are (homes_in_order D qs true_at k.homes dest_once);
    whole = λ p b e. rw (pairs_are, k.order) (plan.only p b e);
    right_bytes = rw pairs_are brings;
    links_unwritten = rw (pairs_are, links_are) (Each-map qs (λ q t. Each-map ls (λ l f. differ D q.0 l t f) k.links_free) true_at);
    control_apart = (
      rw links_are (Each-from_no_count c ls (grind (arith, k.apart c))),
      rw pairs_are (Each-both qs (λ q t n. (differ D q.0 c t k.control_free, n)) true_at (Each-from_sources (λ x. x ≢ c) qs (Each-from_no_count c (sources qs) (grind (arith, k.apart c))))),
    );
  }

  -- the same with a swap page
  accepted_kept : (w : ℕ) → ((x : ℕ) → one x c + one x w + count x ls + count x (sources qs) ≤ 1) → D w ≡ false → AcceptedKept M1 W (lead (chain ls (items es qs))) c w (chain ls (items es qs))
  accepted_kept w apart free = record {
    plain = accepted;
    apart = rw pairs_are (apart_pairs D qs true_at k.homes dest_once (λ x. omega (arith, apart x)));
    links_no_sources = rw (pairs_are, links_are) (Each-from_sources (λ x. AllByRecursion (λ l. x ≢ l) ls) qs
        (Each-map (sources qs) (λ x z. Each-map ls (λ l n e. n (sym e)) (Each-from_no_count x ls z)) (each_count (sources qs) ls (λ x. omega (arith, apart x)))));
    swap_apart = (
      λ e. grind (arith, apart c, e),
      rw links_are (Each-from_no_count w ls (grind (arith, apart w))),
      rw pairs_are (Each-both qs (λ q t n. (differ D q.0 w t free, n)) true_at (Each-from_sources (λ x. x ≢ w) qs (Each-from_no_count w (sources qs) (grind (arith, apart w))))),
    );
  }

-- the requests of a load: for its pages, for the pages before the link pages, and for the link pages
pub wished_in : (w : Wish) (es : List Entry) → wishes_among (requests w es) ≡ pages_of es
wished_in Kept es = wished-requests 0 es
wished_in Plain es = wished-requests 0 es

pub others_in : (w : Wish) (es : List Entry) → others (requests w es) ≡ first_count w + (length es + 510) / 511
others_in Kept es = let h = others-requests 0 es in omega (arith, h)
others_in Plain es = let h = others-requests 0 es in omega (arith, h)

pub served_well : (wish : Wish) (D : ℕ → Bool) (es : List Entry) (pool : List ℕ) (l : Loading) → ((x : ℕ) → count x pool ≤ 1) → loading_after D wish es pool ≡ Some l
    → Sound D pool (pages_of es) (first_count wish + (length es + 510) / 511) l
served_well wish D es pool l once e =
    let s = served_sound D pool [] 0 (requests wish es) (begun pool) l once (record { conserved = λ x. omega arith; homes = tt; order = refl; free = tt; many = refl }) e in
    subst (λ ys. Sound D pool ys (first_count wish + (length es + 510) / 511) l) (wished_in wish es)
    (subst (λ n. Sound D pool (wishes_among (requests wish es)) n l) (let h : 0 + others (requests wish es) ≡ first_count wish + (length es + 510) / 511 = omega (arith, others_in wish es) in h) s)

lead_is : (ls : List ℕ) (is : List Item) → 1 ≤ length ls → lead (chain ls is) ≡ code (Link (slice_index ls 0))
lead_is [] is n = absurd (omega (arith, n))
lead_is (l ∷ ls) is n = refl

some_entries : (es : List Entry) → Begins es → 1 ≤ length es
some_entries [] b = absurd b
some_entries (e ∷ es) b = omega arith

module _ (M : Mem) (D : ℕ → Bool) (W : Wants) (es : List Entry) (pool : List ℕ) (l : Loading) (plan : Plan D W es) (once : (x : ℕ) → count x pool ≤ 1)
    (below : (x : ℕ) → 1 ≤ count x l.spare + count x (sources l.pairs) → x < 2 ^ 34) where
  pub plain_accepted : loading_after D Plain es pool ≡ Some l → Accepted (lay M W Plain es l) W (head_of Plain l) (control_of l) (list_of Plain es l)
  plain_accepted e = go l.spare refl (served_well Plain D es pool l once e)
    where
      go : (ys : List ℕ) → l.spare ≡ ys → Sound D pool (pages_of es) (1 + (length es + 510) / 511) l → Accepted (lay M W Plain es l) W (head_of Plain l) (control_of l) (list_of Plain es l)
      go [] f s = absurd (let n : 0 ≡ 1 + (length es + 510) / 511 = sym (ap length f) ∙ s.many in omega (arith, n))
      go (c ∷ ls) f s =
          let free : AllByRecursion (λ p. D p ≡ false) (c ∷ ls) = subst (AllByRecursion (λ p. D p ≡ false)) f s.free in
          let many : suc (length ls) ≡ 1 + (length es + 510) / 511 = sym (ap length f) ∙ s.many in
          let counted : (x : ℕ) → count x l.spare ≡ one x c + count x ls = λ x. ap (count x) f in
          let k : Comes D es c ls l.pairs = record {
            apart = λ x. omega (arith, s.conserved x, counted x, once x);
            below = λ x n. below x (omega (arith, counted x, n));
            control_free = free.0;
            links_free = free.1;
            homes = s.homes;
            order = s.order;
            room = omega (arith, many);
          } in
          let n : 1 ≤ length ls = omega (arith, k.room, some_entries es plan.begins) in
          rw (f, ← (lead_is ls (items es l.pairs) n)) (accepted M D W es c ls l.pairs plan k)

  pub kept_accepted : loading_after D Kept es pool ≡ Some l → AcceptedKept (lay M W Kept es l) W (head_of Kept l) (control_of l) (swap_of l) (list_of Kept es l)
  kept_accepted e = go l.spare refl (served_well Kept D es pool l once e)
    where
      go : (ys : List ℕ) → l.spare ≡ ys → Sound D pool (pages_of es) (2 + (length es + 510) / 511) l → AcceptedKept (lay M W Kept es l) W (head_of Kept l) (control_of l) (swap_of l) (list_of Kept es l)
      go [] f s = absurd (let n : 0 ≡ 2 + (length es + 510) / 511 = sym (ap length f) ∙ s.many in omega (arith, n))
      go (c ∷ []) f s = absurd (let n : 1 ≡ 2 + (length es + 510) / 511 = sym (ap length f) ∙ s.many in omega (arith, n, some_entries es plan.begins))
      go (c ∷ (w ∷ ls)) f s =
          let free : AllByRecursion (λ p. D p ≡ false) (c ∷ (w ∷ ls)) = subst (AllByRecursion (λ p. D p ≡ false)) f s.free in
          let many : suc (suc (length ls)) ≡ 2 + (length es + 510) / 511 = sym (ap length f) ∙ s.many in
          let counted : (x : ℕ) → count x l.spare ≡ one x c + (one x w + count x ls) = λ x. ap (count x) f in
          let k : Comes D es c ls l.pairs = record {
            apart = λ x. omega (arith, s.conserved x, counted x, once x);
            below = λ x n. below x (omega (arith, counted x, n));
            control_free = free.0;
            links_free = free.1.1;
            homes = s.homes;
            order = s.order;
            room = omega (arith, many);
          } in
          let n : 1 ≤ length ls = omega (arith, k.room, some_entries es plan.begins) in
          rw (f, ← (lead_is ls (items es l.pairs) n)) (accepted_kept M D W es c ls l.pairs plan k w (λ x. omega (arith, s.conserved x, counted x, once x)) free.1.0)
