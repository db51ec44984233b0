-- An entry is added while a list is written.
use Rattle.std.proofs.Common.{◌≡◌, ℕ, suc, ◌+◌, ◌-◌, ◌*◌, ◌^◌, ◌<◌, ◌≤◌, List, [], ◌∷◌, ◌++◌, length, Some, refl, sym, ap, ◌∙◌, subst, ⊎_elim, inl, inr, arith, Bool, true, false, cond, length-append}
use Rattle.std.specs.Prelude.{◌≢◌, ◌⊎◌, ◌/◌, ◌%◌, eqb, slice_index}
use Rattle.std.proofs.lemmas.Bool.Decides.{eqb_tells}
use Rattle.page_memory.specs.Contents.{Contents, at}
use Rattle.page_memory.specs.inner.Contents.{IsHeld}
use Rattle.page_pool.specs.Pages.{Pages}
use Rattle.kimage_list.proofs.Exchange.{still, keys_are}
use Rattle.kimage_list.proofs.Linking.{items-full, place-inside, next-listed, sources-keys, word-still, word-apart}
use Rattle.kimage_list.proofs.Lists.{heads_same, nil_cons}
use Rattle.kimage_list.proofs.OpenList.{entry_added}
use Rattle.kimage_list.proofs.Room.{room}
use Rattle.kimage_list.specs.inner.Drafts.{Draft, Renders, HasRoom, IsSteady, with_start}
use Rattle.kimage_list.specs.Laying.{items, source_pages}
use Rattle.kimage_list.specs.inner.Laying.{Holds}
use Rattle.kimage_list.specs.Load.{Entry, Start, Move}
use Rattle.kimage_list.specs.inner.Load.{pages_of}
use Rattle.kimage_list.specs.inner.Opening.{open_pages, entry_place, next_place, Tight, number}
use Rattle.kimage_list.specs.inner.Tables.{Slots, slot, place_in}
use Rattle.kx_pages.specs.Items.{code}
use Rattle.kx_pages.specs.Lists.{Distinct, destinations, sources, count}
use Rattle.kx_pages.specs.declared.item.Item.{Item}
use Rattle.kx_pages.specs.declared.item.Item.TheVariants.{Destination, Source}
use Rattle.kx_pages.specs.Bytes.{Mem}
use Rattle.page_memory.specs.Memory.{put}
use Rattle.page_memory.specs.inner.Memory.{set_word}
use Rattle.kx_pages.proofs.Counting.{count-append, Each-from_no_count, Distinct-from_count, Each-from_count}
use Rattle.page_memory.proofs.Laws.{put-apart}

items-start : (es : List Entry) (ps : List (ℕ × ℕ)) (p : ℕ) → destinations ps ≡ pages_of es → items (es ++ Start p ∷ []) ps ≡ items es ps ++ Destination p ∷ []
items-start [] ps p o = refl
items-start (Start t ∷ es) ps p o = ap (λ is. Destination t ∷ is) (items-start es ps p o)
items-start (Move t ∷ es) [] p o = absurd (nil_cons (sym o))
items-start (Move t ∷ es) (q ∷ ps) p o = ap (λ is. Source q.1 ∷ is) (items-start es ps p (heads_same (destinations ps) (pages_of es) q.0 t o).1)

pub items-move : (es : List Entry) (ps : List (ℕ × ℕ)) (p s : ℕ) → destinations ps ≡ pages_of es → items (es ++ Move p ∷ []) (ps ++ (p, s) ∷ []) ≡ items es ps ++ Source s ∷ []
items-move [] [] p s o = refl
items-move [] (q ∷ ps) p s o = absurd (nil_cons o)
items-move (Start t ∷ es) ps p s o = ap (λ is. Destination t ∷ is) (items-move es ps p s o)
items-move (Move t ∷ es) [] p s o = absurd (nil_cons (sym o))
items-move (Move t ∷ es) (q ∷ ps) p s o = ap (λ is. Source q.1 ∷ is) (items-move es ps p s (heads_same (destinations ps) (pages_of es) q.0 t o).1)

pub pages_of-start : (es : List Entry) (p : ℕ) → pages_of (es ++ Start p ∷ []) ≡ pages_of es
pages_of-start [] p = refl
pages_of-start (Start t ∷ es) p = pages_of-start es p
pages_of-start (Move t ∷ es) p = ap (λ ys. t ∷ ys) (pages_of-start es p)

pub pages_of-move : (es : List Entry) (p : ℕ) → pages_of (es ++ Move p ∷ []) ≡ pages_of es ++ p ∷ []
pages_of-move [] p = refl
pages_of-move (Start t ∷ es) p = pages_of-move es p
pages_of-move (Move t ∷ es) p = ap (λ ys. t ∷ ys) (pages_of-move es p)

pub number-front : (x : ℕ) (es fs : List Entry) → number x es < length es → number x (es ++ fs) ≡ number x es
number-front x [] fs h = absurd (omega (arith, h))
number-front x (Start t ∷ es) fs h = ap suc (number-front x es fs (omega (arith, h)))
number-front x (Move t ∷ es) fs h = go (eqb t x) refl (number-front x es fs)
  where
    go : (b : Bool) → eqb t x ≡ b → (number x es < length es → number x (es ++ fs) ≡ number x es) → cond (eqb t x) 0 (suc (number x (es ++ fs))) ≡ cond (eqb t x) 0 (suc (number x es))
    go true e ih = rw e refl
    go false e ih =
        let k : number x (Move t ∷ es) ≡ suc (number x es) = ap (λ b. cond b 0 (suc (number x es))) e in
        rw e (ap suc (ih (omega (arith, h, k))))

pub number-new : (p : ℕ) (es : List Entry) → count p (pages_of es) ≡ 0 → number p (es ++ Move p ∷ []) ≡ length es
number-new p [] z = ap (λ b. cond b 0 1) (same p)
  where
    same : (x : ℕ) → eqb x x ≡ true
    same x = ⊎_elim (λ t. t.0) (λ t. absurd (t.1 refl)) (eqb_tells x x)
number-new p (Start t ∷ es) z = ap suc (number-new p es z)
number-new p (Move t ∷ es) z = go (eqb_tells t p) (number-new p es)
  where
    go : ((eqb t p ≡ true) × (t ≡ p)) ⊎ ((eqb t p ≡ false) × (t ≢ p)) → (count p (pages_of es) ≡ 0 → number p (es ++ Move p ∷ []) ≡ length es) → cond (eqb t p) 0 (suc (number p (es ++ Move p ∷ []))) ≡ suc (length es)
    go (inl u) ih =
        let k : count p (pages_of (Move t ∷ es)) ≡ 1 + count p (pages_of es) = ap (λ b. cond b 1 0 + count p (pages_of es)) u.0 in
        absurd (omega (arith, k, z))
    go (inr u) ih =
        let k : count p (pages_of (Move t ∷ es)) ≡ 0 + count p (pages_of es) = ap (λ b. cond b 1 0 + count p (pages_of es)) u.0 in
        rw u.0 (ap suc (ih (omega (arith, k, z))))

next_place-more : (ls : List ℕ) (n : ℕ) → Tight ls n → n < 511 * length ls → next_place ls (n + 1) ≡ next_place ls n + 8
next_place-more [] n t h = absurd (omega (arith, h))
next_place-more (l ∷ []) n t h = omega arith
next_place-more (l ∷ (j ∷ ls)) n t h =
    let e : n + 1 - 511 ≡ (n - 511) + 1 = omega (arith, t.0) in
    ap (next_place (j ∷ ls)) e ∙ next_place-more (j ∷ ls) (n - 511) (omega (arith, t.0), omega (arith, t.1)) (omega (arith, h, t.0))

pub next-entry : (ls : List ℕ) (n : ℕ) → Tight ls n → n < 511 * length ls → next_place ls n ≡ entry_place ls n
next-entry [] n t h = absurd (omega (arith, h))
next-entry (l ∷ []) n t h =
    let d : n / 511 ≡ 0 = omega (arith, h) in
    let r : n % 511 ≡ n = omega (arith, h) in
    sym (ap (λ x. 4096 * slice_index (l ∷ []) x + 8 * (n % 511)) d ∙ ap (λ x. 4096 * l + 8 * x) r)
next-entry (l ∷ (j ∷ ls)) n t h =
    let d : n / 511 ≡ suc ((n - 511) / 511) = omega (arith, t.0) in
    let r : n % 511 ≡ (n - 511) % 511 = omega (arith, t.0) in
    next-entry (j ∷ ls) (n - 511) (omega (arith, t.0), omega (arith, t.1)) (omega (arith, h, t.0))
    ∙ sym (ap (λ x. 4096 * slice_index (l ∷ (j ∷ ls)) x + 8 * (n % 511)) d ∙ ap (λ x. 4096 * slice_index (j ∷ ls) ((n - 511) / 511) + 8 * x) r)

module _ (d : Draft) (hand : List ℕ) (memory : Contents) (pool : Pages) (table : Slots) (next entries : ℕ) (w : Renders d hand memory pool table next entries) (free : HasRoom d) where
  pub in_spare : (x : ℕ) → count x d.loading.spare ≡ count x d.first + count x d.links
  in_spare x = ap (count x) w.spare ∙ count-append x d.first d.links

  pub listed : 1 ≤ count (next / 4096) d.links
  listed = subst (λ a. 1 ≤ count (a / 4096) d.links) (sym w.place) (next-listed d.links (length d.entries) w.tight (omega (arith, free)))

  pub next_held : IsHeld memory (next / 4096)
  next_held = w.held (next / 4096) (omega (arith, listed, in_spare (next / 4096), w.within (next / 4096)))

  pub next_low : next / 4096 < 2 ^ 34
  next_low = w.below (next / 4096) (omega (arith, listed, in_spare (next / 4096), w.within (next / 4096)))

  pub next_aligned : next % 8 ≡ 0
  next_aligned = omega (arith, w.place, aligned d.links (length d.entries))
    where
      aligned : (ls : List ℕ) (n : ℕ) → next_place ls n % 8 ≡ 0
      aligned [] n = refl
      aligned (l ∷ []) n = omega arith
      aligned (l ∷ (j ∷ ls)) n = aligned (j ∷ ls) (n - 511)

  pub entries_low : entries < 511 * 2 ^ 34
  entries_low =
      let few = room (2 ^ 34) d.links (λ x. omega (arith, w.once x, in_spare x)) (Each-from_count (λ x. x < 2 ^ 34) d.links (λ x h. w.below x (omega (arith, h, in_spare x, w.within x)))) in
      omega (arith, few, free, w.many)

  pub unsourced : count (next / 4096) (sources d.loading.pairs) ≡ 0
  unsourced = omega (arith, listed, w.once (next / 4096), in_spare (next / 4096))

  pub apart : (y : ℕ) → count y d.links ≡ 0 → next / 4096 ≢ y
  apart y z f = let m : count (next / 4096) d.links ≡ 0 = ap (λ x. count x d.links) f ∙ z in omega (arith, m, listed)

  distinct : Distinct d.links
  distinct = Distinct-from_count d.links (λ x. omega (arith, w.once x, in_spare x))

  size : length (items d.entries d.loading.pairs) ≡ length d.entries
  size = items-full d.entries d.loading.pairs w.order

  -- an item more, in a memory N that holds the list
  pub item_more : (N : Mem) (i : Item) → Holds N (open_pages d.links (items d.entries d.loading.pairs)) → Holds (set_word N next (code i)) (open_pages d.links (items d.entries d.loading.pairs ++ i ∷ []))
  item_more N i h =
      let is = items d.entries d.loading.pairs in
      let place : next_place d.links (length (items d.entries d.loading.pairs)) ≡ next = ap (next_place d.links) size ∙ sym w.place in
      subst (λ a. Holds (set_word N a (code i)) (open_pages d.links (is ++ i ∷ []))) place
      (entry_added N d.links is i (omega (arith, size, w.tight.0), omega (arith, size, w.tight.1)) (omega (arith, size, free)) distinct h)

  pub place_more : (e : Entry) → next + 8 ≡ next_place d.links (length (d.entries ++ e ∷ []))
  place_more e =
      let n : length (d.entries ++ e ∷ []) ≡ length d.entries + 1 = length-append d.entries (e ∷ []) in
      ap (λ a. a + 8) w.place ∙ sym (ap (next_place d.links) n ∙ next_place-more d.links (length d.entries) w.tight free)

  pub tight_more : (e : Entry) → Tight d.links (length (d.entries ++ e ∷ []))
  tight_more e = (omega (arith, w.tight.0, length-append d.entries (e ∷ [])), omega (arith, free, length-append d.entries (e ∷ [])))

  places_more : (e : Entry) (x a : ℕ) → place_in (slot table x) ≡ Some a → a ≡ entry_place d.links (number x (d.entries ++ e ∷ []))
  places_more e x a h = w.places x a h ∙ ap (entry_place d.links) (sym (number-front x d.entries (e ∷ []) (place-inside d hand memory pool table next entries w x a h)))

  pub entered : (p : ℕ) (memory' : Contents) → at memory' ≡ set_word (at memory) next (code (Destination p)) → ((q : ℕ) → IsHeld memory q → IsHeld memory' q) → Renders (with_start d p) hand memory' pool table (next + 8) (entries + 1)
  entered p memory' e stay = record {
    tracks = w.tracks;
    order = w.order ∙ sym (pages_of-start d.entries p);
    spare = w.spare;
    tight = tight_more (Start p);
    homes = w.homes;
    once = w.once;
    within = w.within;
    held = λ x h. stay x (w.held x h);
    below = w.below;
    list = subst (λ is. Holds (at memory') (open_pages d.links is)) (sym (items-start d.entries d.loading.pairs p w.order))
        (subst (λ N. Holds N (open_pages d.links (items d.entries d.loading.pairs ++ Destination p ∷ []))) (sym e) (item_more (at memory) (Destination p) w.list));
    loaded = subst (λ N. Holds N (source_pages d.bytes d.loading.pairs)) (sym e)
        (word-still (at memory) next (code (Destination p)) (source_pages d.bytes d.loading.pairs) (sources-keys d.bytes (next / 4096) d.loading.pairs unsourced) w.loaded);
    others = λ y z. ap (λ N. N y) e ∙ word-apart (at memory) next (code (Destination p)) y (apart y (omega (arith, z))) ∙ w.others y z;
    places = places_more (Start p);
    place = place_more (Start p);
    many = ap (λ n. n + 1) w.many ∙ sym (length-append d.entries (Start p ∷ []));
  }

  pub steady_more : (e : Entry) → 511 * length d.links < length (d.entries ++ e ∷ []) + 511
  steady_more e = omega (arith, w.tight.0, length-append d.entries (e ∷ []))

  pub steady_start : (p : ℕ) → IsSteady (with_start d p)
  steady_start p = steady_more (Start p)

pub same_writes : (d : Draft) (hand : List ℕ) (memory : Contents) (pool pool' : Pages) (table table' : Slots) (next next' entries entries' : ℕ) → pool ≡ pool' → table ≡ table' → next ≡ next' → entries ≡ entries'
    → Renders d hand memory pool table next entries → Renders d hand memory pool' table' next' entries'
same_writes d hand memory pool pool' table table' next next' entries entries' a b e f w =
    subst (λ x. Renders d hand memory pool' table' next' x) f (subst (λ x. Renders d hand memory pool' table' x entries) e (subst (λ x. Renders d hand memory pool' x next entries) b (subst (λ x. Renders d hand memory x table next entries) a w)))

-- a page in hand may be written
pub filled_in : (d : Draft) (hand : List ℕ) (memory memory' : Contents) (pool : Pages) (table : Slots) (next entries p : ℕ) (bytes : (List ℕ)) → Renders d hand memory pool table next entries → 1 ≤ count p hand
    → at memory' ≡ put (at memory) p bytes → ((q : ℕ) → IsHeld memory q → IsHeld memory' q) → Renders d hand memory' pool table next entries
filled_in d hand memory memory' pool table next entries p bytes w h e stay =
    let spare = ap (count p) w.spare ∙ count-append p d.first d.links in
    let unlinked : count p d.links ≡ 0 = omega (arith, w.once p, h, spare) in
    let unsourced : count p (sources d.loading.pairs) ≡ 0 = omega (arith, w.once p, h) in
    record {
      tracks = w.tracks;
      order = w.order;
      spare = w.spare;
      tight = w.tight;
      homes = w.homes;
      once = w.once;
      within = w.within;
      held = λ x g. stay x (w.held x g);
      below = w.below;
      list = subst (λ N. Holds N (open_pages d.links (items d.entries d.loading.pairs))) (sym e)
          (still (at memory) p bytes (open_pages d.links (items d.entries d.loading.pairs)) (keys_are d.links (items d.entries d.loading.pairs) p (Each-from_no_count p d.links unlinked)) w.list);
      loaded = subst (λ N. Holds N (source_pages d.bytes d.loading.pairs)) (sym e)
          (still (at memory) p bytes (source_pages d.bytes d.loading.pairs) (sources-keys d.bytes p d.loading.pairs unsourced) w.loaded);
      others = λ y z. ap (λ N. N y) e ∙ put-apart (at memory) p y bytes (λ f. away y f (omega (arith, z))) ∙ w.others y z;
      places = w.places;
      place = w.place;
      many = w.many;
    }
  where
    away : (y : ℕ) → p ≡ y → count y hand ≡ 0 → ⊥
    away y f z = let m : count p hand ≡ 0 = ap (λ x. count x hand) f ∙ z in omega (arith, m, h)
