-- One word of a reading, whatever it is for.
use Rattle.std.proofs.Common.{◌≡◌, ℕ, suc, ◌+◌, ◌*◌, ◌^◌, ◌<◌, ◌≤◌, ◌++◌, List, [], ◌∷◌, length, map, Option, Some, None, refl, sym, ap, ◌∙◌, subst, arith, append_assoc, append-nil, false}
use Rattle.std.specs.Prelude.{◌%◌, leb}
use Rattle.std.specs.BTreeSet.{BTreeSet, btree_set_len}
use Rattle.std.proofs.lemmas.Bool.{true≢false}
use Rattle.std.proofs.lemmas.Option.{none-some}
use Rattle.page_memory.specs.Contents.{Contents, at}
use Rattle.kx_pages.specs.declared.item.Item.{Item}
use Rattle.kx_pages.specs.declared.item.Item.TheVariants.{Link, Destination, Source, Done}
use Rattle.list_checker.specs.declared.fault.Why.{Why}
use Rattle.kx_pages.specs.Bytes.{Mem}
use Rattle.page_memory.specs.Memory.{word}
use Rattle.kx_pages.specs.Items.{code, decode}
use Rattle.list_checker.specs.Walk.{Reads, Walk, links}
use Rattle.kx_pages.specs.Lists.{Distinct}
use Rattle.list_checker.specs.Faults.{Earlier, nothing_earlier, with_item, with_pair, following, why_by, walk_reasons, FaultyBy}
use Rattle.list_checker.specs.inner.Checked.{Leads, IsPlace}
use Rattle.list_checker.specs.Reading.{words_from, IsWalk}
use Rattle.list_checker.specs.inner.Reading.{ShowsLinks, FitsLinks}
use Rattle.list_checker.proofs.Lists.{none_holds}
use Rattle.list_checker.proofs.Checking.{decode_is_code}
use Rattle.list_checker.proofs.Ending.{Linked, linked_none, linked_more, reach, reach_link, reach_next}
use Rattle.list_checker.proofs.OneWay.{no_walk}
use Rattle.kx_pages.proofs.Lists.{Each-from_has_not}

-- the items from a place on
abbrev From : Mem → Option ℕ → ℕ → List Item → Type 0
From M None w js = Walk M w js
From M (Some a) w js = Reads M a js

limit : (p : ℕ) → leb (2 ^ 34) p ≡ false → p < 2 ^ 34
limit p e = grind arith

not_last : (a : ℕ) → leb 4088 (a % 4096) ≡ false → a % 4096 < 4088
not_last a e = grind arith

pub paired_links : (o : Option ℕ) (s : Earlier) (p : ℕ) → (with_pair o s p).links ≡ s.links
paired_links None s p = refl
paired_links (Some t) s p = refl

pub record Next (M : Mem) (place : Option ℕ) (s : Earlier) (w : ℕ) (i : Item) : Type 0 where
  pub fits : FitsLinks s i
  pub leads : Leads place i
  pub linked : Linked (with_item s i).links
  pub nearer : reach (2 ^ 34) (Some (following place i)) (length (with_item s i).links) < reach (2 ^ 34) place (length s.links)
  pub goes : (js : List Item) → Reads M (following place i) js → From M place w (i ∷ js)
  pub once : (js : List Item) → Distinct ((with_item s i).links ++ links js) → Distinct (s.links ++ links (i ∷ js))

module _ (M : Mem) where
  next_of : (place : Option ℕ) (s : Earlier) (w : ℕ) (i : Item) → w ≡ code i → ((a : ℕ) → place ≡ Some a → word M a ≡ w) → why_by walk_reasons place s (Some i) ≡ None → ((p : ℕ) → i ≡ Done p → ⊥) → Linked s.links → ((a : ℕ) → place ≡ Some a → IsPlace a) → Next M place s w i
  next_of place s w (Done p) e v r d l h = absurd (d p refl)
  next_of place s w (Link p) e v r d l h =
      let t = none_holds (walk_reasons place s (Link p)) r in
      let more = linked_more s.links p l (Each-from_has_not p s.links t.1.0) (limit p t.0) in
      record {
        fits = t.1.0;
        leads = λ n. absurd (n p refl);
        linked = more;
        nearer = reach_link s.links p place more;
        goes = from_link place e v (limit p t.0);
        once = λ js k. subst Distinct (append_assoc s.links (p ∷ []) (links js)) k;
      }
    where
      from_link : (place : Option ℕ) → w ≡ code (Link p) → ((a : ℕ) → place ≡ Some a → word M a ≡ w) → p < 2 ^ 34 → (js : List Item) → Reads M (4096 * p) js → From M place w (Link p ∷ js)
      from_link None e v b js k = (e, b, k)
      from_link (Some a) e v b js k = (v a refl ∙ e, b, k)
  next_of None s w (Destination p) e v r d l h = absurd (true≢false (none_holds (walk_reasons None s (Destination p)) r).1.0)
  next_of None s w (Source p) e v r d l h = absurd (true≢false (none_holds (walk_reasons None s (Source p)) r).1.0)
  next_of (Some a) s w (Destination p) e v r d l h =
      let t = none_holds (walk_reasons (Some a) s (Destination p)) r in
      let z = not_last a t.1.1.0 in
      record {
        fits = tt;
        leads = λ n b y. let x : a ≡ b = grind (arith, y) in subst (λ x. IsPlace x × (x % 4096 < 4088)) x (h a refl, z);
        linked = l;
        nearer = reach_next (2 ^ 34) (length s.links) a z;
        goes = λ js k. (v a refl ∙ e, limit p t.0, z, k);
        once = λ js k. k;
      }
  next_of (Some a) s w (Source p) e v r d l h =
      let t = none_holds (walk_reasons (Some a) s (Source p)) r in
      let z = not_last a t.1.1.0 in
      let more = sym (paired_links s.next s p) in
      record {
        fits = tt;
        leads = λ n b y. let x : a ≡ b = grind (arith, y) in subst (λ x. IsPlace x × (x % 4096 < 4088)) x (h a refl, z);
        linked = subst Linked more l;
        nearer = subst (λ ls. reach (2 ^ 34) (Some (a + 8)) (length ls) < reach (2 ^ 34) (Some a) (length s.links)) more (reach_next (2 ^ 34) (length s.links) a z);
        goes = λ js k. (v a refl ∙ e, limit p t.0, z, k);
        once = λ js k. subst (λ ls. Distinct (ls ++ links js)) (sym more) k;
      }

words_step : (M : Mem) (place : Option ℕ) (w n : ℕ) (i : Item) → decode w ≡ Some i → words_from M place w (suc n) ≡ w ∷ words_from M (Some (following place i)) (word M (following place i)) n
words_step M place w n i e = rw e refl

module _ (m : Contents) (head : ℕ) where
  -- what holds where these words were read, word number k comes next, and it is w
  pub record Reached (k : ℕ) (place : Option ℕ) (c : BTreeSet ℕ) (w : ℕ) (ws : List ℕ) : Type 0 where
    pub s : Earlier
    pub shows : ShowsLinks c s
    pub whole : (js : List Item) → From (at m) place w js → Distinct (s.links ++ links js) → (is : List Item) × Walk (at m) head is × Distinct (links is) × (map code is ≡ ws ++ map code js)
    pub fault : (n : ℕ) (why : Why) → FaultyBy (at m) walk_reasons place s w n why → FaultyBy (at m) walk_reasons None nothing_earlier head (k + n) why
    pub words : (n : ℕ) → words_from (at m) None head (k + n) ≡ ws ++ words_from (at m) place w n
    pub linked : Linked s.links
    pub placed : (a : ℕ) → place ≡ Some a → IsPlace a
    pub here : (a : ℕ) → place ≡ Some a → word (at m) a ≡ w
    pub far : k + reach (2 ^ 34) place (length s.links) ≤ reach (2 ^ 34) None 0

  pub reached_first : (c : BTreeSet ℕ) → ShowsLinks c nothing_earlier → Reached 0 None c head []
  reached_first c h = record {
    s = nothing_earlier;
    shows = h;
    whole = λ js f d. (js, f, d, refl);
    fault = λ n why f. let e : n ≡ 0 + n = omega arith in subst (λ k. FaultyBy (at m) walk_reasons None nothing_earlier head k why) e f;
    words = λ n. let e : 0 + n ≡ n = omega arith in ap (words_from (at m) None head) e;
    linked = linked_none;
    placed = λ a e. absurd (none-some a e);
    here = λ a e. absurd (none-some a e);
    far = omega arith;
  }

  pub next_here : (k : ℕ) (place : Option ℕ) (c : BTreeSet ℕ) (w : ℕ) (ws : List ℕ) (i : Item) → (x : Reached k place c w ws) → decode w ≡ Some i → why_by walk_reasons place x.s (Some i) ≡ None → ((p : ℕ) → i ≡ Done p → ⊥) → Next (at m) place x.s w i
  next_here k place c w ws i x e r d = next_of (at m) place x.s w i (decode_is_code w i e) x.here r d x.linked x.placed

  pub reached_next : (k : ℕ) (place : Option ℕ) (c c' : BTreeSet ℕ) (w w' next : ℕ) (ws ws' : List ℕ) (i : Item) → (x : Reached k place c w ws) → decode w ≡ Some i → why_by walk_reasons place x.s (Some i) ≡ None → ((p : ℕ) → i ≡ Done p → ⊥)
      → (ShowsLinks c x.s → FitsLinks x.s i → ShowsLinks c' (with_item x.s i)) → next ≡ following place i → IsPlace next → w' ≡ word (at m) next → ws' ≡ ws ++ w ∷ [] → Reached (k + 1) (Some next) c' w' ws'
  reached_next k place c c' w w' next ws ws' i x e r d shows n is v u =
      let M = at m in
      let y = next_here k place c w ws i x e r d in
      let read : w' ≡ word M next = v ∙ refl in
      let there : w' ≡ word M (following place i) = read ∙ ap (word M) n in
      record {
        s = with_item x.s i;
        shows = shows x.shows y.fits;
        whole = λ js f h.
            let t = x.whole (i ∷ js) (y.goes js (subst (λ a. Reads M a js) n f)) (y.once js h) in
            (t.0, t.1, t.2, t.3 ∙ longer ws ws' w (code i) (map code js) (decode_is_code w i e) u);
        fault = λ j why f.
            let z : k + suc j ≡ k + 1 + j = omega arith in
            let f1 = subst (λ u. FaultyBy M walk_reasons (Some next) (with_item x.s i) u j why) there f in
            let f2 = subst (λ u. FaultyBy M walk_reasons (Some u) (with_item x.s i) (word M (following place i)) j why) n f1 in
            subst (λ u. FaultyBy M walk_reasons None nothing_earlier head u why) z (x.fault (suc j) why (i, e, r, d, f2));
        words = λ j.
            let z : k + 1 + j ≡ k + suc j = omega arith in
            ap (words_from M None head) z ∙ x.words (suc j) ∙ ap (λ xs. ws ++ xs) (words_step M place w j i e)
            ∙ ap (λ a. ws ++ w ∷ words_from M (Some a) (word M (following place i)) j) (sym n) ∙ ap (λ b. ws ++ w ∷ words_from M (Some next) b j) (sym there)
            ∙ longer ws ws' w w (words_from M (Some next) w' j) refl u;
        linked = y.linked;
        placed = λ a h. let z : next ≡ a = grind (arith, h) in subst IsPlace z is;
        here = λ a h. let z : next ≡ a = grind (arith, h) in subst (λ b. word M b ≡ w') z (sym read);
        far = let q = subst (λ u. reach (2 ^ 34) (Some u) (length (with_item x.s i).links) < reach (2 ^ 34) place (length x.s.links)) (sym n) y.nearer in omega (arith, q, x.far);
      }
    where
      longer : (ws ws' : List ℕ) (w v : ℕ) (xs : List ℕ) → w ≡ v → ws' ≡ ws ++ w ∷ [] → ws ++ v ∷ xs ≡ ws' ++ xs
      longer ws ws' w v xs e u = ap (λ b. ws ++ b ∷ xs) (sym e) ∙ sym (append_assoc ws (w ∷ []) xs) ∙ ap (λ ys. ys ++ xs) (sym u)

  pub reached_nearer : (k : ℕ) (place : Option ℕ) (c c' : BTreeSet ℕ) (w next : ℕ) (ws : List ℕ) (i : Item) → (x : Reached k place c w ws) → decode w ≡ Some i → why_by walk_reasons place x.s (Some i) ≡ None → ((p : ℕ) → i ≡ Done p → ⊥)
      → (ShowsLinks c x.s → FitsLinks x.s i → ShowsLinks c' (with_item x.s i)) → next ≡ following place i → reach (2 ^ 34) (Some next) (btree_set_len c') < reach (2 ^ 34) place (btree_set_len c)
  reached_nearer k place c c' w next ws i x e r d shows n =
      let y = next_here k place c w ws i x e r d in
      let q = subst (λ u. reach (2 ^ 34) (Some u) (length (with_item x.s i).links) < reach (2 ^ 34) place (length x.s.links)) (sym n) y.nearer in
      let q2 = subst (λ u. reach (2 ^ 34) (Some next) u < reach (2 ^ 34) place (length x.s.links)) (sym (shows x.shows y.fits).count) q in
      subst (λ u. reach (2 ^ 34) (Some next) (btree_set_len c') < reach (2 ^ 34) place u) (sym x.shows.count) q2

  pub ends_faulty : (k : ℕ) (place : Option ℕ) (c : BTreeSet ℕ) (w : ℕ) (ws ws' : List ℕ) (why : Why) → (x : Reached k place c w ws) → why_by walk_reasons place x.s (decode w) ≡ Some why → ws' ≡ ws ++ w ∷ [] → IsWalk (at m) head ws' (Some (record { word = k; why = why }))
  ends_faulty k place c w ws ws' why x e u =
      let z : k + 0 ≡ k = omega arith in
      let f = subst (λ u. FaultyBy (at m) walk_reasons None nothing_earlier head u why) z (x.fault 0 why e) in
      (f, u ∙ sym (x.words 0) ∙ ap (words_from (at m) None head) z, no_walk (at m) head k why f)

  pub ends_whole : (k : ℕ) (place : Option ℕ) (c : BTreeSet ℕ) (w p : ℕ) (ws ws' : List ℕ) → (x : Reached k place c w ws) → decode w ≡ Some (Done p) → ws' ≡ ws ++ w ∷ [] → IsWalk (at m) head ws' None
  ends_whole k place c w p ws ws' x e u =
      let t = x.whole (Done p ∷ []) (done_from place x.here) (subst Distinct (sym (append-nil x.s.links)) x.linked.once) in
      (t.0, t.1, t.2, t.3 ∙ ap (λ b. ws ++ b ∷ []) (sym (decode_is_code w (Done p) e)) ∙ sym u)
    where
      done_from : (place : Option ℕ) → ((a : ℕ) → place ≡ Some a → word (at m) a ≡ w) → From (at m) place w (Done p ∷ [])
      done_from None h = (decode_is_code w (Done p) e, refl)
      done_from (Some a) h = (h a refl ∙ decode_is_code w (Done p) e, refl)
