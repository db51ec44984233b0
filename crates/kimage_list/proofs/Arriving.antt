-- A page is loaded while a list is written.
use Rattle.std.proofs.Common.{◌≡◌, ℕ, ◌+◌, ◌≤◌, List, [], ◌∷◌, ◌++◌, length, Some, None, sym, ap, ◌∙◌, subst, ⊎_elim, inl, inr, arith, true, false, cond, length-append}
use Rattle.std.specs.Prelude.{◌≢◌, ◌⊎◌, ◌/◌, eqb, is_some, unwrap_or}
use Rattle.std.proofs.lemmas.List.{map-append}
use Rattle.std.proofs.lemmas.Bool.Decides.{eqb_tells}
use Rattle.page_memory.specs.Contents.{Contents, at}
use Rattle.page_memory.specs.inner.Contents.{IsHeld}
use Rattle.page_pool.specs.Pages.{Pages}
use Rattle.std.proofs.lemmas.Bool.{eqb-true}
use Rattle.kimage_list.proofs.Entering.{items-move, pages_of-move, number-front, number-new, next-entry, unsourced, apart, item_more, place_more, tight_more}
use Rattle.kimage_list.proofs.InHand.{count-first, moves}
use Rattle.kimage_list.proofs.Linking.{place-inside, sources-keys, word-still, word-apart}
use Rattle.kimage_list.proofs.Lists.{eqb-self}
use Rattle.kimage_list.proofs.OpenList.{holds-append}
use Rattle.kimage_list.proofs.Takes.{destinations-append, sources-append}
use Rattle.kimage_list.specs.inner.Drafts.{IsHome, Draft, Renders, HasRoom, IsNext, with_move, CanTake}
use Rattle.kimage_list.specs.Laying.{items, source_pages}
use Rattle.kimage_list.specs.inner.Laying.{Holds}
use Rattle.kimage_list.specs.Load.{Loading, Move, source_of}
use Rattle.kimage_list.specs.inner.Opening.{open_pages, entry_place, number}
use Rattle.kimage_list.specs.inner.Tables.{Slots, slot, place_in, source_in}
use Rattle.kx_pages.specs.Items.{code}
use Rattle.kx_pages.specs.Lists.{destinations, sources, count}
use Rattle.kx_pages.specs.declared.item.Item.TheVariants.{Source}
use Rattle.kx_pages.specs.Bytes.{page_of}
use Rattle.page_memory.specs.inner.Memory.{set_word}
use Rattle.kx_pages.proofs.Lists.{Each-append}
use Rattle.kx_pages.proofs.Counting.{count-append}

source_of-new : (p s : ℕ) (ps : List (ℕ × ℕ)) → count p (destinations ps) ≡ 0 → source_of p (ps ++ (p, s) ∷ []) ≡ Some s
source_of-new p s [] z = ap (λ b. cond b (Some s) None) (eqb-self p)
source_of-new p s (q ∷ ps) z = go (eqb_tells q.0 p) (source_of-new p s ps)
  where
    go : ((eqb q.0 p ≡ true) × (q.0 ≡ p)) ⊎ ((eqb q.0 p ≡ false) × (q.0 ≢ p)) → (count p (destinations ps) ≡ 0 → source_of p (ps ++ (p, s) ∷ []) ≡ Some s) → cond (eqb q.0 p) (Some q.1) (source_of p (ps ++ (p, s) ∷ [])) ≡ Some s
    go (inl u) ih =
        let k : count p (q.0 ∷ destinations ps) ≡ 1 + count p (destinations ps) = ap (λ b. cond b 1 0 + count p (destinations ps)) u.0 in
        absurd (omega (arith, k, z))
    go (inr u) ih =
        let k : count p (q.0 ∷ destinations ps) ≡ 0 + count p (destinations ps) = ap (λ b. cond b 1 0 + count p (destinations ps)) u.0 in
        rw u.0 (ih (omega (arith, k, z)))

source_of-old : (x p s : ℕ) (ps : List (ℕ × ℕ)) → p ≢ x → source_of x (ps ++ (p, s) ∷ []) ≡ source_of x ps
source_of-old x p s [] n = ⊎_elim (λ u. absurd (n u.1)) (λ u. ap (λ b. cond b (Some s) None) u.0) (eqb_tells p x)
source_of-old x p s (q ∷ ps) n = ap (cond (eqb q.0 x) (Some q.1)) (source_of-old x p s ps n)

module _ (e : Draft) (t : ℕ × Loading) (memory : Contents) (pool : Pages) (table : Slots) (next entries : ℕ) (w : Renders (record e { loading = t.1 }) (t.0 ∷ []) memory pool table next entries) (free : HasRoom e)
    (p : ℕ) (bytes : List ℕ) (n : IsNext e p bytes) (home : IsHome e.wanted (p, t.0)) (here : at memory t.0 ≡ page_of bytes) where
  mine : count t.0 (t.0 ∷ []) ≡ 1
  mine = count-first t.0 []

  in_spare : (x : ℕ) → count x t.1.spare ≡ count x e.first + count x e.links
  in_spare x = ap (count x) w.spare ∙ count-append x e.first e.links

  unlinked : count t.0 e.links ≡ 0
  unlinked = omega (arith, w.once t.0, mine, in_spare t.0)

  -- the page has a place in the table
  pub has_slot : is_some (slot table p) ≡ true
  has_slot = sym (w.tracks.wanted p) ∙ n.wanted

  -- the page is loaded
  pub arrived : (memory' : Contents) (table' : Slots) → at memory' ≡ set_word (at memory) next (code (Source t.0)) → ((q : ℕ) → IsHeld memory q → IsHeld memory' q)
      → slot table' p ≡ Some (Some (record { source = t.0; place = next })) → ((x : ℕ) → p ≢ x → slot table' x ≡ slot table x)
      → Renders (with_move e p t) [] memory' pool table' (next + 8) (entries + 1)
  arrived memory' table' m stay new old = record {
    tracks = record {
      left = w.tracks.left;
      filed = w.tracks.filed;
      wanted = λ x. wanted x (eqb_tells p x);
      loaded = λ x. sourced x (eqb_tells p x);
      once = w.tracks.once;
    };
    order = destinations-append t.1.pairs ((p, t.0) ∷ []) ∙ ap (λ ys. ys ++ p ∷ []) w.order ∙ sym (pages_of-move e.entries p);
    spare = w.spare;
    tight = tight_more (record e { loading = t.1 }) (t.0 ∷ []) memory pool table next entries w free (Move p);
    homes = Each-append (IsHome e.wanted) t.1.pairs ((p, t.0) ∷ []) w.homes (home, tt);
    once = λ x. omega (arith, w.once x, ap (count x) (sources-append t.1.pairs ((p, t.0) ∷ [])), count-append x (sources t.1.pairs) (t.0 ∷ []));
    within = λ x. omega (arith, w.within x, ap (count x) (sources-append t.1.pairs ((p, t.0) ∷ [])), count-append x (sources t.1.pairs) (t.0 ∷ []));
    held = λ x h. stay x (w.held x h);
    below = w.below;
    list = subst (λ is. Holds (at memory') (open_pages e.links is)) (sym (items-move e.entries t.1.pairs p t.0 w.order))
        (subst (λ N. Holds N (open_pages e.links (items e.entries t.1.pairs ++ Source t.0 ∷ []))) (sym m)
        (item_more (record e { loading = t.1 }) (t.0 ∷ []) memory pool table next entries w free (at memory) (Source t.0) w.list));
    loaded = subst (Holds (at memory')) (sym (map-append (λ q. (q.1, unwrap_or (e.bytes q.0) [])) t.1.pairs ((p, t.0) ∷ [])))
        (subst (λ N. Holds N (source_pages e.bytes t.1.pairs ++ (t.0, unwrap_or (e.bytes p) []) ∷ [])) (sym m)
        (holds-append (set_word (at memory) next (code (Source t.0))) (source_pages e.bytes t.1.pairs) ((t.0, unwrap_or (e.bytes p) []) ∷ [])
        (word-still (at memory) next (code (Source t.0)) (source_pages e.bytes t.1.pairs) (sources-keys e.bytes (next / 4096) t.1.pairs (unsourced (record e { loading = t.1 }) (t.0 ∷ []) memory pool table next entries w free)) w.loaded)
        (word-apart (at memory) next (code (Source t.0)) t.0 (away t.0 unlinked) ∙ here ∙ ap (λ o. unwrap_or o []) (sym n.same), tt)));
    others = λ y z.
        let many : count y (sources (t.1.pairs ++ (p, t.0) ∷ [])) ≡ count y (sources t.1.pairs) + count y (t.0 ∷ []) = ap (count y) (sources-append t.1.pairs ((p, t.0) ∷ [])) ∙ count-append y (sources t.1.pairs) (t.0 ∷ []) in
        ap (λ N. N y) m ∙ word-apart (at memory) next (code (Source t.0)) y (away y (omega (arith, z))) ∙ w.others y (omega (arith, z, many));
    places = λ x a h. placed x a h (eqb_tells p x);
    place = place_more (record e { loading = t.1 }) (t.0 ∷ []) memory pool table next entries w free (Move p);
    many = ap (λ k. k + 1) w.many ∙ sym (length-append e.entries (Move p ∷ []));
  }
    where
      away : (y : ℕ) → count y e.links ≡ 0 → next / 4096 ≢ y
      away y z = apart (record e { loading = t.1 }) (t.0 ∷ []) memory pool table next entries w free y z

      wanted : (x : ℕ) → ((eqb p x ≡ true) × (p ≡ x)) ⊎ ((eqb p x ≡ false) × (p ≢ x)) → e.wanted x ≡ is_some (slot table' x)
      wanted x (inl u) = ap e.wanted (sym u.1) ∙ n.wanted ∙ sym (ap is_some new) ∙ ap (λ y. is_some (slot table' y)) u.1
      wanted x (inr u) = w.tracks.wanted x ∙ ap is_some (sym (old x u.1))

      sourced : (x : ℕ) → ((eqb p x ≡ true) × (p ≡ x)) ⊎ ((eqb p x ≡ false) × (p ≢ x)) → source_in (slot table' x) ≡ source_of x (t.1.pairs ++ (p, t.0) ∷ [])
      sourced x (inl u) =
          ap (λ y. source_in (slot table' y)) (sym u.1) ∙ ap source_in new ∙ sym (source_of-new p t.0 t.1.pairs (ap (count p) w.order ∙ n.new))
          ∙ ap (λ y. source_of y (t.1.pairs ++ (p, t.0) ∷ [])) u.1
      sourced x (inr u) = ap source_in (old x u.1) ∙ w.tracks.loaded x ∙ sym (source_of-old x p t.0 t.1.pairs u.1)

      placed : (x a : ℕ) → place_in (slot table' x) ≡ Some a → ((eqb p x ≡ true) × (p ≡ x)) ⊎ ((eqb p x ≡ false) × (p ≢ x)) → a ≡ entry_place e.links (number x (e.entries ++ Move p ∷ []))
      placed x a h (inl u) =
          let f : Some next ≡ Some a = sym (ap place_in new) ∙ ap (λ y. place_in (slot table' y)) u.1 ∙ h in
          let g : next ≡ a = cc in
          sym g ∙ w.place ∙ next-entry e.links (length e.entries) w.tight free ∙ ap (entry_place e.links) (sym (number-new p e.entries n.new)) ∙ ap (λ y. entry_place e.links (number y (e.entries ++ Move p ∷ []))) u.1
      placed x a h (inr u) =
          let g : place_in (slot table x) ≡ Some a = ap place_in (sym (old x u.1)) ∙ h in
          w.places x a g ∙ ap (entry_place e.links) (sym (number-front x e.entries (Move p ∷ []) (place-inside (record e { loading = t.1 }) (t.0 ∷ []) memory pool table next entries w x a g)))

-- a page that was taken for p is p's own or no destination
pub home_of : (e : Draft) (memory : Contents) (pool : Pages) (table : Slots) (next entries : ℕ) (w : Renders e [] memory pool table next entries) (p : ℕ) (t : ℕ × Loading) → CanTake e (Some p) t → IsHome e.wanted (p, t.0)
home_of e memory pool table next entries w p t can =
    let k = moves e memory pool table next entries w (Some p) t can in
    ⊎_elim (λ h. inl (sym (eqb-true p t.0 h))) (λ h. inr h) k.serves

-- the page in hand is held
pub hand_held : (e : Draft) (t : ℕ × Loading) (memory : Contents) (pool : Pages) (table : Slots) (next entries : ℕ) → Renders (record e { loading = t.1 }) (t.0 ∷ []) memory pool table next entries → IsHeld memory t.0
hand_held e t memory pool table next entries w = w.held t.0 (omega (arith, w.within t.0, count-first t.0 []))

pub in_hand : (x : ℕ) → 1 ≤ count x (x ∷ [])
in_hand x = omega (arith, count-first x [])
