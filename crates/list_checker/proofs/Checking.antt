-- First faults and acceptance.
use Rattle.std.proofs.Common.{◌≡◌, ℕ, zero, suc, ◌+◌, ◌*◌, ◌^◌, ◌<◌, List, [], ◌∷◌, ◌++◌, length, Option, Some, None, refl, sym, ap, ◌∙◌, subst, arith, append_assoc, append-nil, Bool, true, false}
use Rattle.std.specs.List.{AllByRecursion}
use Rattle.std.specs.Prelude.{◌≢◌, ◌%◌, eqb, leb, not, ◌||◌, ◌&&◌, map, unwrap_or}
use Rattle.std.proofs.lemmas.Option.{none-some}
use Rattle.std.proofs.lemmas.Bool.{or_parts, eqb-false, ne_eqb, true≢false}
use Rattle.kx_pages.specs.declared.item.Item.{Item}
use Rattle.kx_pages.specs.declared.item.Item.TheVariants.{Link, Destination, Source, Done}
use Rattle.list_checker.specs.declared.fault.Why.{Why}
use Rattle.list_checker.specs.declared.fault.Why.TheVariants.{Missing}
use Rattle.kx_pages.specs.Bytes.{Mem, Wants}
use Rattle.page_memory.specs.Memory.{word}
use Rattle.kx_pages.specs.Items.{code, decode}
use Rattle.kx_pages.specs.Lists.{Has, Distinct, destinations, sources, has}
use Rattle.list_checker.specs.Walk.{Reads, Walk, links, DestinationFirst, pairs_from, pairs, InOrder, Accepted, IsAccepted}
use Rattle.list_checker.specs.Faults.{Earlier, nothing_earlier, with_item, following, are_wanted, is_swap, is_kept, reasons, swap_meets_control}
use Rattle.list_checker.specs.inner.Faults.{Faultless}
use Rattle.list_checker.specs.inner.Laws.{AcceptedWith, CheckExact}
use Rattle.list_checker.proofs.Lists.{none_holds, none_first, equal-same_bytes, wanted_bytes, InOrder-push, InOrder-split}
use Rattle.list_checker.proofs.Kept.{Keeps, keeps_none, keeps_link, keeps_pair, link_keeps, pair_keeps}
use Rattle.kx_pages.proofs.Lists.{Each-map, Each-both, Each-append, Each-left, Each-right, Each-at, Each-from_Has, Has-from_has, has-from_Has, Each-from_has_not, has_not-from_Each, Each-from_destinations, Each-destinations}
use Rattle.kx_laws.proofs.Booleans.{not_false}
use Rattle.kx_pages.proofs.Counting.{Distinct-push, Distinct-split}

pub decode_is_code : (w : ℕ) (i : Item) → decode w ≡ Some i → w ≡ code i
decode_is_code w i e = grind arith

pub decode-code : (i : Item) → decode (code i) ≡ Some i
decode-code (Link p) = grind arith
decode-code (Destination p) = grind arith
decode-code (Source p) = grind arith
decode-code (Done p) = grind arith

-- what holds of the links and pairs so far
pub record Fine (M : Mem) (W : Wants) (control : ℕ) (swap : Option ℕ) (ls : List ℕ) (qs : List (ℕ × ℕ)) : Type 0 where
  pub once : Distinct ls
  pub in_order : InOrder qs
  pub right_bytes : AllByRecursion (λ q. W q.0 ≡ Some (M q.1)) qs
  pub stays : AllByRecursion (λ q. AllByRecursion (λ l. q.0 ≢ l) ls) qs
  pub links_apart : AllByRecursion (λ l. l ≢ control) ls
  pub pairs_apart : AllByRecursion (λ q. (q.0 ≢ control) × (q.1 ≢ control)) qs
  pub keeps : Keeps swap ls qs

abbrev pub so_far : List ℕ → List (ℕ × ℕ) → Option ℕ → Earlier
so_far ls qs o = record { links = ls; pairs = qs; next = o }

-- the swap page is not the control page
abbrev SwapApart : Option ℕ → ℕ → Type 0
SwapApart None control = Unit {0}
SwapApart (Some s) control = s ≢ control

module _ (M : Mem) (W : Wants) (all : List ℕ) (control : ℕ) (swap : Option ℕ) where
  fine_link : (ls : List ℕ) (qs : List (ℕ × ℕ)) (p : ℕ) → Fine M W control swap ls qs → has p ls ≡ false → (has p (destinations qs) || (is_kept swap && has p (sources qs))) ≡ false → eqb p control ≡ false → is_swap swap p ≡ false
      → Fine M W control swap (ls ++ p ∷ []) qs
  fine_link ls qs p f a b c d = let m = or_parts (has p (destinations qs)) ((is_kept swap && has p (sources qs))) b in record {
    once = Distinct-push ls p f.once (Each-from_has_not p ls a);
    in_order = f.in_order;
    right_bytes = f.right_bytes;
    stays = Each-both qs (λ q s n. Each-append (λ l. q.0 ≢ l) ls (p ∷ []) s (n, tt)) f.stays (Each-from_destinations (λ x. x ≢ p) qs (Each-from_has_not p (destinations qs) m.0));
    links_apart = Each-append (λ l. l ≢ control) ls (p ∷ []) f.links_apart (eqb-false p control c, tt);
    pairs_apart = f.pairs_apart;
    keeps = keeps_link swap ls qs p f.keeps m.1 d;
  }

  fine_pair : (ls : List ℕ) (qs : List (ℕ × ℕ)) (t p : ℕ) → Fine M W control swap ls qs → has t (destinations qs) ≡ false → has p (destinations qs) ≡ false → (has t ls || (is_kept swap && has p ls)) ≡ false → (eqb t control || eqb p control) ≡ false
      → (is_kept swap && (has t (sources qs) || has p (sources qs))) ≡ false → (is_swap swap t || is_swap swap p) ≡ false → are_wanted (W t) (M p) ≡ true → Fine M W control swap ls (qs ++ (t, p) ∷ [])
  fine_pair ls qs t p f a b c d g h e =
      let n = or_parts (eqb t control) (eqb p control) d in
      let m = or_parts (has t ls) ((is_kept swap && has p ls)) c in
      let u : AllByRecursion (λ q. (q.0 ≢ t) × (q.0 ≢ p)) qs = Each-both qs (λ q x y. (x, y)) (Each-from_destinations (λ x. x ≢ t) qs (Each-from_has_not t (destinations qs) a)) (Each-from_destinations (λ x. x ≢ p) qs (Each-from_has_not p (destinations qs) b)) in
      record {
        once = f.once;
        in_order = InOrder-push qs (t, p) f.in_order u;
        right_bytes = Each-append (λ q. W q.0 ≡ Some (M q.1)) qs ((t, p) ∷ []) f.right_bytes (wanted_bytes (W t) (M p) e, tt);
        stays = Each-append (λ q. AllByRecursion (λ l. q.0 ≢ l) ls) qs ((t, p) ∷ []) f.stays (Each-map ls (λ l x y. x (sym y)) (Each-from_has_not t ls m.0), tt);
        links_apart = f.links_apart;
        pairs_apart = Each-append (λ q. (q.0 ≢ control) × (q.1 ≢ control)) qs ((t, p) ∷ []) f.pairs_apart ((eqb-false t control n.0, eqb-false p control n.1), tt);
        keeps = keeps_pair swap ls qs t p f.keeps u m.1 g h;
      }

  -- what a faultless reading from an address comes to
  record Out (n a : ℕ) (ls : List ℕ) (qs : List (ℕ × ℕ)) (o : Option ℕ) (last : Earlier) : Type 0 where
    is : List Item
    many : length is ≡ suc n
    reads : Reads M a is
    destination_first : o ≡ None → DestinationFirst is
    fine : Fine M W control swap (ls ++ links is) (qs ++ pairs_from (unwrap_or o 0) is)
    whole : AllByRecursion (λ d. Has d (destinations (qs ++ pairs_from (unwrap_or o 0) is))) all
    links_seen : ls ++ links is ≡ last.links
    pairs_seen : qs ++ pairs_from (unwrap_or o 0) is ≡ last.pairs

  wholly : (qs : List (ℕ × ℕ)) (ds : List ℕ) → AllByRecursion (λ r. r.0 ≡ false) (map {B = Bool × Why} (λ d. (not (has d (destinations qs)), Missing d)) ds) → AllByRecursion (λ d. Has d (destinations qs)) ds
  wholly qs [] h = tt
  wholly qs (d ∷ ds) h = (Has-from_has d (destinations qs) (not_false (has d (destinations qs)) h.0), wholly qs ds h.1)

  below_limit : (p : ℕ) → leb (2 ^ 34) p ≡ false → p < 2 ^ 34
  below_limit p e = grind arith

  not_last : (a : ℕ) → leb 4088 (a % 4096) ≡ false → a % 4096 < 4088
  not_last a e = grind arith

  abbrev Goes_on : ℕ → Type 0
  Goes_on n = (a : ℕ) (ls : List ℕ) (qs : List (ℕ × ℕ)) (o : Option ℕ) (last : Earlier) → Fine M W control swap ls qs → Faultless M W all control swap (Some a) (so_far ls qs o) (word M a) n last → Out n a ls qs o last

  done_here : (a : ℕ) (ls : List ℕ) (qs : List (ℕ × ℕ)) (o : Option ℕ) (p : ℕ) (last : Earlier) → Fine M W control swap ls qs → word M a ≡ code (Done p) → AllByRecursion (λ r. r.0 ≡ false) (reasons M W all control swap (Some a) (so_far ls qs o) (Done p)) → so_far ls qs o ≡ last → Out 0 a ls qs o last
  done_here a ls qs o p last f w r e = record {
    is = Done p ∷ [];
    many = refl;
    reads = (w, refl);
    destination_first = λ _. tt;
    fine = rw (append-nil ls, append-nil qs) f;
    whole = rw (append-nil qs) (wholly qs all r.1);
    links_seen = append-nil ls ∙ ap (λ s. s.links) e;
    pairs_seen = append-nil qs ∙ ap (λ s. s.pairs) e;
  }

  item_here : (n a : ℕ) (ls : List ℕ) (qs : List (ℕ × ℕ)) (o : Option ℕ) (i : Item) (last : Earlier) → Goes_on n → Fine M W control swap ls qs → word M a ≡ code i → AllByRecursion (λ r. r.0 ≡ false) (reasons M W all control swap (Some a) (so_far ls qs o) i)
      → ((p : ℕ) → i ≢ Done p) → Faultless M W all control swap (Some (following (Some a) i)) (with_item (so_far ls qs o) i) (word M (following (Some a) i)) n last → Out (suc n) a ls qs o last
  item_here n a ls qs o (Done p) last on f w r d k = absurd (d p refl)
  item_here n a ls qs o (Link p) last on f w r d k =
      let z = or_parts (is_swap swap p) false r.1.1.1.1.0 in
      let t = on (4096 * p) (ls ++ p ∷ []) qs o last (fine_link ls qs p f r.1.0 r.1.1.0 r.1.1.1.0 z.0) k in
      let e = append_assoc ls (p ∷ []) (links t.is) in
      record {
        is = Link p ∷ t.is;
        many = ap suc t.many;
        reads = (w, below_limit p r.0, t.reads);
        destination_first = t.destination_first;
        fine = subst (λ ys. Fine M W control swap ys (qs ++ pairs_from (unwrap_or o 0) t.is)) e t.fine;
        whole = t.whole;
        links_seen = sym e ∙ t.links_seen;
        pairs_seen = t.pairs_seen;
      }
  item_here n a ls qs o (Destination p) last on f w r d k =
      let t = on (a + 8) ls qs (Some p) last f k in
      record {
        is = Destination p ∷ t.is;
        many = ap suc t.many;
        reads = (w, below_limit p r.0, not_last a r.1.1.0, t.reads);
        destination_first = λ _. tt;
        fine = t.fine;
        whole = t.whole;
        links_seen = t.links_seen;
        pairs_seen = t.pairs_seen;
      }
  item_here n a ls qs None (Source p) last on f w r d k = absurd (true≢false r.1.1.1.0)
  item_here n a ls qs (Some u) (Source p) last on f w r d k =
      let s = r.1.1.1 in
      let t = on (a + 8) ls (qs ++ (u, p) ∷ []) (Some (suc u)) last
      (fine_pair ls qs u p f s.1.0 s.1.1.0 s.1.1.1.0 s.1.1.1.1.0 s.1.1.1.1.1.0 s.1.1.1.1.1.1.0 (not_false (are_wanted (W u) (M p)) s.1.1.1.1.1.1.1.0)) k in
      let e = append_assoc qs ((u, p) ∷ []) (pairs_from (suc u) t.is) in
      record {
        is = Source p ∷ t.is;
        many = ap suc t.many;
        reads = (w, below_limit p r.0, not_last a r.1.1.0, t.reads);
        destination_first = λ z. absurd (none-some u (sym z));
        fine = subst (λ ys. Fine M W control swap (ls ++ links t.is) ys) e t.fine;
        whole = subst (λ ys. AllByRecursion (λ d. Has d (destinations ys)) all) e t.whole;
        links_seen = t.links_seen;
        pairs_seen = sym e ∙ t.pairs_seen;
      }

  goes_on : (n : ℕ) → Goes_on n
  goes_on zero a ls qs o last f k = done_here a ls qs o k.0 last f (decode_is_code (word M a) (Done k.0) k.1) (none_holds (reasons M W all control swap (Some a) (so_far ls qs o) (Done k.0)) k.2) k.3
  goes_on (suc n) a ls qs o last f k = item_here n a ls qs o k.0 last (goes_on n) f (decode_is_code (word M a) k.0 k.1) (none_holds (reasons M W all control swap (Some a) (so_far ls qs o) k.0) k.2) k.3 k.4

  fine_none : Fine M W control swap [] []
  fine_none = record { once = tt; in_order = tt; right_bytes = tt; stays = tt; links_apart = tt; pairs_apart = tt; keeps = keeps_none swap }

-- what was found, as the mode has it
accepted_as : (M : Mem) (W : Wants) (head control : ℕ) (swap : Option ℕ) (is : List Item) → Accepted M W head control is → Keeps swap (links is) (pairs is) → SwapApart swap control → IsAccepted M W head control swap is
accepted_as M W head control None is a k s = a
accepted_as M W head control (Some w) is a k s = record { plain = a; apart = k.apart; links_no_sources = k.links_no_sources; swap_apart = (s, k.links_apart, k.pairs_apart) }

swap_apart : (swap : Option ℕ) (control : ℕ) → is_swap swap control ≡ false → SwapApart swap control
swap_apart None control e = tt
swap_apart (Some s) control e = λ h. eqb-false control s e (sym h)

apart_swap : (swap : Option ℕ) (control : ℕ) → SwapApart swap control → is_swap swap control ≡ false
apart_swap None control e = refl
apart_swap (Some s) control e = ne_eqb control s (λ h. e (sym h))

module _ (M : Mem) (W : Wants) (all : List ℕ) (control : ℕ) (swap : Option ℕ) where
  abbrev Found : ℕ → ℕ → Earlier → Type 0
  Found head n last = AcceptedWith M W head control swap (suc n) last.links last.pairs

  found : ((p : ℕ) (bytes : List ℕ) → W p ≡ Some bytes → Has p all) → (head n : ℕ) (last : Earlier) → Faultless M W all control swap None nothing_earlier head n last → Found head n last
  found w head zero last k =
      let r = none_holds (reasons M W all control swap None nothing_earlier (Done k.0)) k.2 in
      let is = Done k.0 ∷ [] in
      let a : Accepted M W head control is = record {
        walk = (decode_is_code head (Done k.0) k.1, refl);
        once = tt;
        destination_first = tt;
        in_order = tt;
        whole = λ p b e. Each-at (λ d. Has d (destinations [])) all p (wholly M W all control swap [] all r.1) (w p b e);
        right_bytes = tt;
        links_unwritten = tt;
        control_apart = (tt, tt);
      } in
      (is, accepted_as M W head control swap is a (keeps_none swap) (swap_apart swap control r.0), refl, ap (λ s. s.links) k.3, ap (λ s. s.pairs) k.3)
  found w head (suc n) last k = on_head k.0 (decode_is_code head k.0 k.1) (none_holds (reasons M W all control swap None nothing_earlier k.0) k.2) k.3 k.4
    where
      on_head : (i : Item) → head ≡ code i → AllByRecursion (λ r. r.0 ≡ false) (reasons M W all control swap None nothing_earlier i) → ((p : ℕ) → i ≢ Done p) → Faultless M W all control swap (Some (following None i)) (with_item nothing_earlier i) (word M (following None i)) n last → Found head (suc n) last
      on_head (Done p) e r d m = absurd (d p refl)
      on_head (Destination p) e r d m = absurd (true≢false r.1.0)
      on_head (Source p) e r d m = absurd (true≢false r.1.0)
      on_head (Link p) e r d m =
          let z = or_parts (is_swap swap p) (is_swap swap control) r.1.1.1.1.0 in
          let t = goes_on M W all control swap n (4096 * p) (p ∷ []) [] None last (fine_link M W all control swap [] [] p (fine_none M W all control swap) r.1.0 r.1.1.0 r.1.1.1.0 z.0) m in
          let a : Accepted M W head control (Link p ∷ t.is) = record {
            walk = (e, below_limit M W all control swap p r.0, t.reads);
            once = t.fine.once;
            destination_first = t.destination_first refl;
            in_order = t.fine.in_order;
            whole = λ x b g. Each-at (λ d. Has d (destinations (pairs_from 0 t.is))) all x t.whole (w x b g);
            right_bytes = t.fine.right_bytes;
            links_unwritten = t.fine.stays;
            control_apart = (t.fine.links_apart, t.fine.pairs_apart);
          } in
          (Link p ∷ t.is, accepted_as M W head control swap (Link p ∷ t.is) a t.fine.keeps (swap_apart swap control z.1), ap suc t.many, t.links_seen, t.pairs_seen)

  in_limit : (p : ℕ) → p < 2 ^ 34 → leb (2 ^ 34) p ≡ false
  in_limit p e = grind arith

  not_in_last : (a : ℕ) → a % 4096 < 4088 → leb 4088 (a % 4096) ≡ false
  not_in_last a e = grind arith

  none_missing : (qs : List (ℕ × ℕ)) (ds : List ℕ) → AllByRecursion (λ d. Has d (destinations qs)) ds → AllByRecursion (λ r. r.0 ≡ false) (map {B = Bool × Why} (λ d. (not (has d (destinations qs)), Missing d)) ds)
  none_missing qs [] h = tt
  none_missing qs (d ∷ ds) h = (let e = has-from_Has d (destinations qs) h.0 in rw e refl, none_missing qs ds h.1)

  link_fits : (ls : List ℕ) (qs : List (ℕ × ℕ)) (p : ℕ) (ys : List ℕ) (rs : List (ℕ × ℕ)) → p < 2 ^ 34 → Fine M W control swap (ls ++ p ∷ ys) (qs ++ rs) → (place : Option ℕ) (o : Option ℕ) → swap_meets_control control swap place ≡ false → AllByRecursion (λ r. r.0 ≡ false) (reasons M W all control swap place (so_far ls qs o) (Link p))
  link_fits ls qs p ys rs l f place o z =
      let k = link_keeps swap ls qs p ys rs f.keeps in
      let first : has p (destinations qs) ≡ false = has_not-from_Each p (destinations qs) (Each-destinations (λ x. x ≢ p) qs (Each-map qs (λ q s. (Each-right (λ l. q.0 ≢ l) ls (p ∷ ys) s).0) (Each-left (λ q. AllByRecursion (λ l. q.0 ≢ l) (ls ++ p ∷ ys)) qs rs f.stays))) in
      (in_limit p l, (has_not-from_Each p ls (Distinct-split ls p ys f.once), (rw first k.0, (ne_eqb p control (Each-right (λ l. l ≢ control) ls (p ∷ ys) f.links_apart).0, (rw k.1 z, tt)))))

  source_fits : (ls : List ℕ) (qs : List (ℕ × ℕ)) (u p : ℕ) (ys : List ℕ) (rs : List (ℕ × ℕ)) (a : ℕ) → p < 2 ^ 34 → a % 4096 < 4088 → Fine M W control swap (ls ++ ys) (qs ++ (u, p) ∷ rs) → AllByRecursion (λ r. r.0 ≡ false) (reasons M W all control swap (Some a) (so_far ls qs (Some u)) (Source p))
  source_fits ls qs u p ys rs a l m f =
      let b : W u ≡ Some (M p) = (Each-right (λ q. W q.0 ≡ Some (M q.1)) qs ((u, p) ∷ rs) f.right_bytes).0 in
      let s = InOrder-split qs (u, p) rs f.in_order in
      let stay : AllByRecursion (λ l. u ≢ l) ls = Each-left (λ l. u ≢ l) ls ys (Each-right (λ q. AllByRecursion (λ l. q.0 ≢ l) (ls ++ ys)) qs ((u, p) ∷ rs) f.stays).0 in
      let c : (u ≢ control) × (p ≢ control) = (Each-right (λ q. (q.0 ≢ control) × (q.1 ≢ control)) qs ((u, p) ∷ rs) f.pairs_apart).0 in
      let ne : (eqb u control || eqb p control) ≡ false = rw (ne_eqb u control c.0) (ne_eqb p control c.1) in
      let k = pair_keeps swap ls qs u p ys rs f.keeps in
      let not_link : has u ls ≡ false = has_not-from_Each u ls (Each-map ls (λ l x y. x (sym y)) stay) in (
        in_limit p l,
        (
          refl,
          (
            not_in_last a m,
            (
              rw b refl,
              (
                has_not-from_Each u (destinations qs) (Each-destinations (λ x. x ≢ u) qs (Each-map qs (λ q x. x.0) s)),
                (
                  has_not-from_Each p (destinations qs) (Each-destinations (λ x. x ≢ p) qs (Each-map qs (λ q x. x.1) s)),
                  (rw not_link k.0, (ne, (k.1, (k.2, (rw (b, equal-same_bytes (M p)) refl, tt))))),
                ),
              ),
            ),
          ),
        ),
      )

  abbrev Back : ℕ → List ℕ → List (ℕ × ℕ) → Option ℕ → List Item → Type 0
  Back a ls qs o is = (n : ℕ) × (last : Earlier) × (length is ≡ suc n) × Faultless M W all control swap (Some a) (so_far ls qs o) (word M a) n last

  read_as : (a : ℕ) (i : Item) → word M a ≡ code i → decode (word M a) ≡ Some i
  read_as a i e = ap decode e ∙ decode-code i

  back : (is : List Item) (a : ℕ) (ls : List ℕ) (qs : List (ℕ × ℕ)) (o : Option ℕ) → Reads M a is → Fine M W control swap (ls ++ links is) (qs ++ pairs_from (unwrap_or o 0) is) → (o ≡ None → DestinationFirst is) → AllByRecursion (λ d. Has d (destinations (qs ++ pairs_from (unwrap_or o 0) is))) all → Back a ls qs o is
  back [] a ls qs o r f l w = absurd r
  back (Done p ∷ is) a ls qs o r f l w =
      let e : qs ++ pairs_from (unwrap_or o 0) is ≡ qs = ap (λ js. qs ++ pairs_from (unwrap_or o 0) js) r.1 ∙ append-nil qs in
      (0, so_far ls qs o, ap (λ js. suc (length js)) r.1, (p, read_as a (Done p) r.0, none_first (reasons M W all control swap (Some a) (so_far ls qs o) (Done p)) (refl, none_missing qs all (subst (λ ys. AllByRecursion (λ d. Has d (destinations ys)) all) e w)), refl))
  back (Link p ∷ is) a ls qs o r f l w =
      let t = back is (4096 * p) (ls ++ p ∷ []) qs o r.2 (subst (λ ys. Fine M W control swap ys (qs ++ pairs_from (unwrap_or o 0) is)) (sym (append_assoc ls (p ∷ []) (links is))) f) l w in
      (suc t.0, t.1, ap suc t.2, (Link p, read_as a (Link p) r.0, none_first (reasons M W all control swap (Some a) (so_far ls qs o) (Link p)) (link_fits ls qs p (links is) (pairs_from (unwrap_or o 0) is) r.1 f (Some a) o refl), (λ q e. cc), t.3))
  back (Destination p ∷ is) a ls qs o r f l w =
      let t = back is (a + 8) ls qs (Some p) r.3 f (λ z. absurd (none-some p (sym z))) w in
      (suc t.0, t.1, ap suc t.2, (Destination p, read_as a (Destination p) r.0, none_first (reasons M W all control swap (Some a) (so_far ls qs o) (Destination p)) (in_limit p r.1, (refl, (not_in_last a r.2, tt))), (λ q e. cc), t.3))
  back (Source p ∷ is) a ls qs None r f l w = absurd (l refl)
  back (Source p ∷ is) a ls qs (Some u) r f l w =
      let e = sym (append_assoc qs ((u, p) ∷ []) (pairs_from (suc u) is)) in
      let t = back is (a + 8) ls (qs ++ (u, p) ∷ []) (Some (suc u)) r.3 (subst (λ ys. Fine M W control swap (ls ++ links is) ys) e f) (λ z. absurd (none-some (suc u) (sym z))) (subst (λ ys. AllByRecursion (λ d. Has d (destinations ys)) all) e w) in
      (suc t.0, t.1, ap suc t.2, (Source p, read_as a (Source p) r.0, none_first (reasons M W all control swap (Some a) (so_far ls qs (Some u)) (Source p)) (source_fits ls qs u p (links is) (pairs_from (suc u) is) a r.1 r.2 f), (λ q e. cc), t.3))

  fine_of : (head : ℕ) (is : List Item) → Accepted M W head control is → Keeps swap (links is) (pairs is) → Fine M W control swap (links is) (pairs is)
  fine_of head is a k = record { once = a.once; in_order = a.in_order; right_bytes = a.right_bytes; stays = a.links_unwritten; links_apart = a.control_apart.0; pairs_apart = a.control_apart.1; keeps = k }

  faultless_as : ((p : ℕ) → Has p all → (bytes : List ℕ) × (W p ≡ Some bytes)) → (head : ℕ) (is : List Item) → Accepted M W head control is → Keeps swap (links is) (pairs is) → SwapApart swap control
      → (n : ℕ) × (last : Earlier) × (length is ≡ suc n) × Faultless M W all control swap None nothing_earlier head n last
  faultless_as w head is a k s = go is a.walk a.destination_first (fine_of head is a k) (Each-from_Has (λ d. Has d (destinations (pairs is))) all (λ d h. let b = w d h in a.whole d b.0 b.1))
    where
      go : (js : List Item) → Walk M head js → DestinationFirst js → Fine M W control swap (links js) (pairs js) → AllByRecursion (λ d. Has d (destinations (pairs js))) all → (n : ℕ) × (last : Earlier) × (length js ≡ suc n) × Faultless M W all control swap None nothing_earlier head n last
      go [] r l f h = absurd r
      go (Destination p ∷ js) r l f h = absurd r
      go (Source p ∷ js) r l f h = absurd r
      go (Done p ∷ js) r l f h =
          let e : pairs js ≡ [] = ap pairs r.1 in
          (0, nothing_earlier, ap (λ ks. suc (length ks)) r.1, (p, ap decode r.0 ∙ decode-code (Done p), none_first (reasons M W all control swap None nothing_earlier (Done p)) (apart_swap swap control s, none_missing [] all (subst (λ ys. AllByRecursion (λ d. Has d (destinations ys)) all) e h)), refl))
      go (Link p ∷ js) r l f h =
          let t = back js (4096 * p) (p ∷ []) [] None r.2 f (λ z. l) h in
          (suc t.0, t.1, ap suc t.2, (Link p, ap decode r.0 ∙ decode-code (Link p), none_first (reasons M W all control swap None nothing_earlier (Link p)) (link_fits [] [] p (links js) (pairs js) r.1 f None None (apart_swap swap control s)), (λ q e. cc), t.3))

faultless : (M : Mem) (W : Wants) (all : List ℕ) (control : ℕ) (swap : Option ℕ) → ((p : ℕ) → Has p all → (bytes : List ℕ) × (W p ≡ Some bytes)) → (head : ℕ) (is : List Item) → IsAccepted M W head control swap is
    → (n : ℕ) × (last : Earlier) × (length is ≡ suc n) × Faultless M W all control swap None nothing_earlier head n last
faultless M W all control None w head is a = faultless_as M W all control None w head is a tt tt
faultless M W all control (Some s) w head is a = faultless_as M W all control (Some s) w head is a.plain (record { apart = a.apart; links_no_sources = a.links_no_sources; links_apart = a.swap_apart.1; pairs_apart = a.swap_apart.2 }) a.swap_apart.0

pub check_exact : CheckExact
check_exact M W all head control swap l = (found M W all control swap l.whole head, faultless M W all control swap l.each head)
