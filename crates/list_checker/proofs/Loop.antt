-- One word of the checker's loop.
use Rattle.std.proofs.Common.{◌≡◌, ℕ, suc, ◌+◌, ◌^◌, ◌<◌, ◌≤◌, List, length, map, Option, Some, None, refl, sym, ap, ◌∙◌, subst, arith, false}
use Rattle.std.specs.List.{AllByRecursion}
use Rattle.std.specs.Prelude.{◌%◌, leb}
use Rattle.std.specs.BTreeSet.{btree_set_len}
use Rattle.std.proofs.lemmas.Bool.{true≢false}
use Rattle.std.proofs.lemmas.Option.{none-some}
use Rattle.kx_pages.specs.declared.image.Image.{Image}
use Rattle.page_memory.specs.Contents.{Contents, at}
use Rattle.segments.specs.Values.{SegmentValue, want, pages}
use Rattle.segments.specs.inner.Rules.{IsBare}
use Rattle.kx_pages.specs.declared.item.Item.{Item}
use Rattle.kx_pages.specs.declared.item.Item.TheVariants.{Link, Destination, Source, Done}
use Rattle.list_checker.specs.declared.fault.Why.{Why}
use Rattle.list_checker.specs.declared.earlier.Accept.{Accept}
use Rattle.list_checker.specs.declared.earlier.Earlier.{Earlier as Sets}
use Rattle.page_memory.specs.Memory.{word}
use Rattle.kx_pages.specs.Items.{decode}
use Rattle.list_checker.specs.Faults.{Earlier, nothing_earlier, with_item, with_pair, following, is_wanted, reasons, pair_reasons, Faulty}
use Rattle.list_checker.specs.inner.Faults.{Faultless}
use Rattle.list_checker.specs.Checked.{as_pair, IsFirstFault}
use Rattle.list_checker.specs.inner.Checked.{Shows, why_refused, Fits, Leads, IsPlace, IsAccept}
use Rattle.list_checker.proofs.Lists.{none_holds}
use Rattle.list_checker.proofs.Checking.{check_exact}
use Rattle.list_checker.proofs.Ending.{Linked, linked_none, linked_more, reach, reach_link, reach_next, check_ends}
use Rattle.list_checker.proofs.Wanted.{wanted_below, parts_listed}
use Rattle.kx_pages.proofs.Lists.{Each-from_has_not}
use Rattle.kx_laws.proofs.Booleans.{not_false}
use Rattle.kx_pages.specs.Modes.{swap_page}

pub following_on : (place : Option ℕ) (a : ℕ) (i : Item) → place ≡ Some a → ((p : ℕ) → i ≡ Link p → ⊥) → following place i ≡ a + 8
following_on place a (Link p) e n = absurd (n p refl)
following_on None a (Destination p) e n = absurd (none-some a e)
following_on None a (Source p) e n = absurd (none-some a e)
following_on None a (Done p) e n = absurd (none-some a e)
following_on (Some b) a (Destination p) e n = let s : b ≡ a = grind (arith, e) in ap (λ x. x + 8) s
following_on (Some b) a (Source p) e n = let s : b ≡ a = grind (arith, e) in ap (λ x. x + 8) s
following_on (Some b) a (Done p) e n = let s : b ≡ a = grind (arith, e) in ap (λ x. x + 8) s

module _ (m : Contents) (S : List SegmentValue) (im : Image) where
  abbrev FaultyIn : Option ℕ → Earlier → ℕ → ℕ → Why → Type 0
  FaultyIn place s w n why = Faulty (at m) (want S) (pages S) im.control (swap_page im.mode) place s w n why

  abbrev FaultlessIn : Option ℕ → Earlier → ℕ → ℕ → Earlier → Type 0
  FaultlessIn place s w n last = Faultless (at m) (want S) (pages S) im.control (swap_page im.mode) place s w n last

  -- what holds after so many words, where word w comes next
  pub record Reached (words : ℕ) (place : Option ℕ) (c : Sets) (w : ℕ) : Type 0 where
    pub s : Earlier
    pub shows : Shows (swap_page im.mode) c s
    pub whole : (n : ℕ) (last : Earlier) → FaultlessIn place s w n last → FaultlessIn None nothing_earlier im.head (words + n) last
    pub fault : (n : ℕ) (why : Why) → FaultyIn place s w n why → FaultyIn None nothing_earlier im.head (words + n) why
    pub linked : Linked s.links
    pub placed : (a : ℕ) → place ≡ Some a → IsPlace a
    pub far : words + reach (2 ^ 34) place (length s.links) ≤ reach (2 ^ 34) None 0

  pub reached_first : (c : Sets) → Shows (swap_page im.mode) c nothing_earlier → Reached 0 None c im.head
  reached_first c h = record {
    s = nothing_earlier;
    shows = h;
    whole = λ n last f. let e : n ≡ 0 + n = omega arith in subst (λ k. FaultlessIn None nothing_earlier im.head k last) e f;
    fault = λ n why f. let e : n ≡ 0 + n = omega arith in subst (λ k. FaultyIn None nothing_earlier im.head k why) e f;
    linked = linked_none;
    placed = λ a e. absurd (none-some a e);
    far = omega arith;
  }

  -- what a word without a reason is
  pub record Next (place : Option ℕ) (s : Earlier) (i : Item) : Type 0 where
    pub fits : Fits s i
    pub leads : Leads place i
    pub linked : Linked (with_item s i).links
    pub nearer : reach (2 ^ 34) (Some (following place i)) (length (with_item s i).links) < reach (2 ^ 34) place (length s.links)

  limit : (p : ℕ) → leb (2 ^ 34) p ≡ false → p < 2 ^ 34
  limit p e = grind arith

  not_last : (a : ℕ) → leb 4088 (a % 4096) ≡ false → a % 4096 < 4088
  not_last a e = grind arith

  paired_links : (o : Option ℕ) (s : Earlier) (p : ℕ) → (with_pair o s p).links ≡ s.links
  paired_links None s p = refl
  paired_links (Some t) s p = refl

  paired_fits : IsBare S → (s : Earlier) (p : ℕ) (o : Option ℕ) → AllByRecursion (λ r. r.0 ≡ false) (pair_reasons (at m) (want S) (pages S) im.control (swap_page im.mode) o s p) → (d : ℕ) × (o ≡ Some d) × (d < 2 ^ 34)
  paired_fits k s p None t = absurd (true≢false t.0)
  paired_fits k s p (Some d) t = (d, refl, wanted_below S k d (not_false (is_wanted (want S d)) t.0))

  next_of : IsBare S → (place : Option ℕ) (s : Earlier) (i : Item) → why_refused m S im place s (Some i) ≡ None → ((p : ℕ) → i ≡ Done p → ⊥) → Linked s.links → ((a : ℕ) → place ≡ Some a → IsPlace a) → Next place s i
  next_of k place s (Done p) r d l h = absurd (d p refl)
  next_of k place s (Link p) r d l h =
      let t = none_holds (reasons (at m) (want S) (pages S) im.control (swap_page im.mode) place s (Link p)) r in
      let more = linked_more s.links p l (Each-from_has_not p s.links t.1.0) (limit p t.0) in
      record {
        fits = t.1.0;
        leads = λ n. absurd (n p refl);
        linked = more;
        nearer = reach_link s.links p place more;
      }
  next_of k None s (Destination p) r d l h = absurd (true≢false (none_holds (reasons (at m) (want S) (pages S) im.control (swap_page im.mode) None s (Destination p)) r).1.0)
  next_of k None s (Source p) r d l h = absurd (true≢false (none_holds (reasons (at m) (want S) (pages S) im.control (swap_page im.mode) None s (Source p)) r).1.0)
  next_of k (Some a) s (Destination p) r d l h =
      let t = none_holds (reasons (at m) (want S) (pages S) im.control (swap_page im.mode) (Some a) s (Destination p)) r in
      record {
        fits = tt;
        leads = λ n b e. let z : a ≡ b = grind (arith, e) in subst (λ x. IsPlace x × (x % 4096 < 4088)) z (h a refl, not_last a t.1.1.0);
        linked = l;
        nearer = reach_next (2 ^ 34) (length s.links) a (not_last a t.1.1.0);
      }
  next_of k (Some a) s (Source p) r d l h =
      let t = none_holds (reasons (at m) (want S) (pages S) im.control (swap_page im.mode) (Some a) s (Source p)) r in
      let z = not_last a t.1.1.0 in
      let more = sym (paired_links s.next s p) in
      record {
        fits = paired_fits k s p s.next t.1.1.1;
        leads = λ n b e. let z1 : a ≡ b = grind (arith, e) in subst (λ x. IsPlace x × (x % 4096 < 4088)) z1 (h a refl, z);
        linked = subst Linked more l;
        nearer = subst (λ ls. reach (2 ^ 34) (Some (a + 8)) (length ls) < reach (2 ^ 34) (Some a) (length s.links)) more (reach_next (2 ^ 34) (length s.links) a z);
      }

  pub reached_next : IsBare S → (words : ℕ) (place : Option ℕ) (c c' : Sets) (w w' next : ℕ) (i : Item) → (x : Reached words place c w) → decode w ≡ Some i → why_refused m S im place x.s (Some i) ≡ None → ((p : ℕ) → i ≡ Done p → ⊥)
      → (Shows (swap_page im.mode) c x.s → Fits x.s i → Shows (swap_page im.mode) c' (with_item x.s i)) → next ≡ following place i → IsPlace next → w' ≡ word (at m) next → Reached (words + 1) (Some next) c' w'
  reached_next k words place c c' w w' next i x e r d shows n is v =
      let y = next_of k place x.s i r d x.linked x.placed in
      let there : w' ≡ word (at m) (following place i) = v ∙ refl ∙ ap (word (at m)) n in
      record {
        s = with_item x.s i;
        shows = shows x.shows y.fits;
        whole = λ j last f.
            let z : words + suc j ≡ words + 1 + j = omega arith in
            let f1 = subst (λ u. FaultlessIn (Some next) (with_item x.s i) u j last) there f in
            let f2 = subst (λ u. FaultlessIn (Some u) (with_item x.s i) (word (at m) (following place i)) j last) n f1 in
            subst (λ u. FaultlessIn None nothing_earlier im.head u last) z (x.whole (suc j) last (i, e, r, d, f2));
        fault = λ j why f.
            let z : words + suc j ≡ words + 1 + j = omega arith in
            let f1 = subst (λ u. FaultyIn (Some next) (with_item x.s i) u j why) there f in
            let f2 = subst (λ u. FaultyIn (Some u) (with_item x.s i) (word (at m) (following place i)) j why) n f1 in
            subst (λ u. FaultyIn None nothing_earlier im.head u why) z (x.fault (suc j) why (i, e, r, d, f2));
        linked = y.linked;
        placed = λ a h. let z : next ≡ a = grind (arith, h) in subst IsPlace z is;
        far = let q = subst (λ u. reach (2 ^ 34) (Some u) (length (with_item x.s i).links) < reach (2 ^ 34) place (length x.s.links)) (sym n) y.nearer in omega (arith, q, x.far);
      }

  pub reached_nearer : IsBare S → (words : ℕ) (place : Option ℕ) (c c' : Sets) (w next : ℕ) (i : Item) → (x : Reached words place c w) → why_refused m S im place x.s (Some i) ≡ None → ((p : ℕ) → i ≡ Done p → ⊥)
      → (Shows (swap_page im.mode) c x.s → Fits x.s i → Shows (swap_page im.mode) c' (with_item x.s i)) → next ≡ following place i → reach (2 ^ 34) (Some next) (btree_set_len c'.links) < reach (2 ^ 34) place (btree_set_len c.links)
  reached_nearer k words place c c' w next i x r d shows n =
      let y = next_of k place x.s i r d x.linked x.placed in
      let q = subst (λ u. reach (2 ^ 34) (Some u) (length (with_item x.s i).links) < reach (2 ^ 34) place (length x.s.links)) (sym n) y.nearer in
      let q2 = subst (λ u. reach (2 ^ 34) (Some next) u < reach (2 ^ 34) place (length x.s.links)) (sym (shows x.shows y.fits).count) q in
      subst (λ u. reach (2 ^ 34) (Some next) (btree_set_len c'.links) < reach (2 ^ 34) place u) (sym x.shows.count) q2

  pub leads_on : IsBare S → (words : ℕ) (place : Option ℕ) (c : Sets) (w : ℕ) (i : Item) → (x : Reached words place c w) → why_refused m S im place x.s (Some i) ≡ None → ((p : ℕ) → i ≡ Done p → ⊥) → Leads place i
  leads_on k words place c w i x r d = (next_of k place x.s i r d x.linked x.placed).leads

  pub first_fault : IsBare S → (words : ℕ) (place : Option ℕ) (c : Sets) (w : ℕ) (why : Why) → (x : Reached words place c w) → why_refused m S im place x.s (decode w) ≡ Some why → IsFirstFault m S im words why
  first_fault k words place c w why x e =
      let z : words + 0 ≡ words = omega arith in
      let f = subst (λ u. FaultyIn None nothing_earlier im.head u why) z (x.fault 0 why e) in
      (f, ((check_ends (at m) (want S) (pages S) im.head im.control (swap_page im.mode) (parts_listed S k)).1 words why f).0)

  pub all_accepted : IsBare S → (words : ℕ) (place : Option ℕ) (c : Sets) (w p : ℕ) (a : Accept) → (x : Reached words place c w) → decode w ≡ Some (Done p) → why_refused m S im place x.s (Some (Done p)) ≡ None
      → a.words ≡ words + 1 → a.links ≡ btree_set_len c.links → a.pairs ≡ c.pairs → IsAccept m S im a
  all_accepted k words place c w p a x e r ws ls ps =
      let z : words + 0 ≡ words = omega arith in
      let f = subst (λ u. FaultlessIn None nothing_earlier im.head u x.s) z (x.whole 0 x.s (p, e, r, refl)) in
      let t = (check_exact (at m) (want S) (pages S) im.head im.control (swap_page im.mode) (parts_listed S k)).0 words x.s f in
      let n : suc words ≡ words + 1 = omega arith in
      (t.0, t.1, t.2 ∙ n ∙ sym ws, ap length t.3 ∙ sym x.shows.count ∙ sym ls, t.4 ∙ sym x.shows.pairs ∙ ap (λ v. map as_pair v.items) (sym ps))
