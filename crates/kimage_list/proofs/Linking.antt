-- A link page is added while a list is written.
use Rattle.std.proofs.Common.{◌≡◌, ℕ, zero, suc, ◌+◌, ◌-◌, ◌*◌, ◌^◌, ◌<◌, ◌≤◌, List, [], ◌∷◌, ◌++◌, length, Option, Some, None, refl, sym, ap, ◌∙◌, subst, inl, inr, arith, true, false, length-append, append_assoc}
use Rattle.std.specs.List.{AllByRecursion}
use Rattle.std.specs.Prelude.{◌≢◌, ◌⊎◌, ◌/◌, ◌%◌, eqb, slice_index}
use Rattle.std.proofs.lemmas.Option.{none-some}
use Rattle.std.proofs.lemmas.Bool.Decides.{eqb_tells}
use Rattle.page_memory.specs.Contents.{Contents, at}
use Rattle.page_memory.specs.inner.Contents.{IsHeld}
use Rattle.page_pool.specs.Pages.{Pages}
use Rattle.kimage_list.proofs.Exchange.{still}
use Rattle.kimage_list.proofs.InHand.{count-first}
use Rattle.kimage_list.proofs.Lists.{heads_same, nil_cons}
use Rattle.kimage_list.proofs.OpenList.{next_page, first_link, link_added}
use Rattle.kimage_list.specs.inner.Drafts.{one, Draft, Renders, with_link, IsFull, HeadIs}
use Rattle.kimage_list.specs.Laying.{items, source_pages}
use Rattle.kimage_list.specs.inner.Laying.{Holds}
use Rattle.kimage_list.specs.Load.{Loading, Entry, Start, Move, source_of}
use Rattle.kimage_list.specs.inner.Load.{pages_of}
use Rattle.kimage_list.specs.inner.Opening.{open_pages, entry_place, next_place, Tight, number}
use Rattle.kimage_list.specs.inner.Tables.{Slots, slot, place_in, source_in}
use Rattle.kimage_list.specs.declared.table.PageSource.{PageSource}
use Rattle.kx_pages.specs.Items.{code}
use Rattle.kx_pages.specs.Lists.{Distinct, destinations, sources, count}
use Rattle.kx_pages.specs.declared.item.Item.TheVariants.{Link}
use Rattle.kx_pages.specs.Bytes.{page_of, Mem, Wants}
use Rattle.page_memory.specs.inner.Contents.{page_with_word}
use Rattle.page_memory.specs.Memory.{put}
use Rattle.page_memory.specs.inner.Memory.{set_word}
use Rattle.kx_pages.proofs.Lists.{Each-map}
use Rattle.kx_pages.proofs.Counting.{count-append, Each-from_no_count, Distinct-from_count}
use Rattle.page_memory.proofs.Laws.{put-apart}
use Rattle.std.proofs.lemmas.List.{nil_from_length}

-- each entry has its item
pub items-full : (es : List Entry) (ps : List (ℕ × ℕ)) → destinations ps ≡ pages_of es → length (items es ps) ≡ length es
items-full [] ps o = refl
items-full (Start t ∷ es) ps o = ap suc (items-full es ps o)
items-full (Move t ∷ es) [] o = absurd (nil_cons (sym o))
items-full (Move t ∷ es) (p ∷ ps) o = ap suc (items-full es ps (heads_same (destinations ps) (pages_of es) p.0 t o).1)

-- a loaded page has an entry
pub number-inside : (es : List Entry) (ps : List (ℕ × ℕ)) (q s : ℕ) → destinations ps ≡ pages_of es → source_of q ps ≡ Some s → number q es < length es
number-inside [] [] q s o e = absurd (none-some s e)
number-inside [] (p ∷ ps) q s o e = absurd (nil_cons o)
number-inside (Start t ∷ es) ps q s o e = omega (arith, number-inside es ps q s o e)
number-inside (Move t ∷ es) [] q s o e = absurd (none-some s e)
number-inside (Move t ∷ es) (p ∷ ps) q s o e =
    let hs = heads_same (destinations ps) (pages_of es) p.0 t o in
    go hs.0 (eqb_tells t q) (eqb_tells p.0 q) (λ f. number-inside es ps q s hs.1 f)
  where
    go : p.0 ≡ t → ((eqb t q ≡ true) × (t ≡ q)) ⊎ ((eqb t q ≡ false) × (t ≢ q)) → ((eqb p.0 q ≡ true) × (p.0 ≡ q)) ⊎ ((eqb p.0 q ≡ false) × (p.0 ≢ q)) → (source_of q ps ≡ Some s → number q es < length es) → number q (Move t ∷ es) < length (Move t ∷ es)
    go h (inl u) v ih = rw u.0 (omega arith)
    go h (inr u) (inl v) ih = absurd (u.1 (sym h ∙ v.1))
    go h (inr u) (inr v) ih = let i = ih (rw v.0 at e) in rw u.0 (omega (arith, i))

index-front : (ls : List ℕ) (k i : ℕ) → i < length ls → slice_index (ls ++ k ∷ []) i ≡ slice_index ls i
index-front [] k i h = absurd (omega (arith, h))
index-front (l ∷ ls) k zero h = refl
index-front (l ∷ ls) k (suc i) h = index-front ls k i (omega (arith, h))

pub place-front : (ls : List ℕ) (k n : ℕ) → n < 511 * length ls → entry_place (ls ++ k ∷ []) n ≡ entry_place ls n
place-front ls k n h =
    let i : n / 511 < length ls = omega (arith, h) in
    ap (λ x. 4096 * x + 8 * (n % 511)) (index-front ls k (n / 511) i)

next_place-link : (ls : List ℕ) (k n : ℕ) → n ≡ 511 * length ls → next_place (ls ++ k ∷ []) n ≡ 4096 * k
next_place-link [] k n e = omega (arith, e)
next_place-link (l ∷ []) k n e = omega (arith, e)
next_place-link (l ∷ (j ∷ ls)) k n e = next_place-link (j ∷ ls) k (n - 511) (omega (arith, e))

-- what source pages keep when another page is written
pub sources-keys : (W : Wants) (p : ℕ) (ps : List (ℕ × ℕ)) → count p (sources ps) ≡ 0 → AllByRecursion (λ x. x.0 ≢ p) (source_pages W ps)
sources-keys W p [] h = tt
sources-keys W p (q ∷ ps) h = let a = Each-from_no_count p (q.1 ∷ sources ps) h in (a.0, sources-keys W p ps (omega (arith, h)))

pub word-still : (N : Mem) (a v : ℕ) (xs : List (ℕ × (List ℕ))) → AllByRecursion (λ x. x.0 ≢ a / 4096) xs → Holds N xs → Holds (set_word N a v) xs
word-still N a v xs n h = still N (a / 4096) (page_with_word (N (a / 4096)) (a % 4096) v) xs n h

pub word-apart : (N : Mem) (a v y : ℕ) → a / 4096 ≢ y → set_word N a v y ≡ N y
word-apart N a v y n = put-apart N (a / 4096) y (page_with_word (N (a / 4096)) (a % 4096) v) n

place-source : (o : Option (Option PageSource)) (a : ℕ) → place_in o ≡ Some a → (s : ℕ) × (source_in o ≡ Some s)
place-source None a e = absurd (none-some a e)
place-source (Some None) a e = absurd (none-some a e)
place-source (Some (Some x)) a e = (x.source, refl)

-- a place that the table tells is an entry's
pub place-inside : (d : Draft) (hand : List ℕ) (memory : Contents) (pool : Pages) (table : Slots) (next entries : ℕ) → Renders d hand memory pool table next entries → (x a : ℕ) → place_in (slot table x) ≡ Some a → number x d.entries < length d.entries
place-inside d hand memory pool table next entries w x a e =
    let s = place-source (slot table x) a e in
    number-inside d.entries d.loading.pairs x s.0 w.order (sym (w.tracks.loaded x) ∙ s.1)

no_entries : (es : List Entry) → length es ≡ 0 → es ≡ []
no_entries [] e = refl
no_entries (x ∷ es) e = absurd (omega (arith, e))

-- the page of the next place is a link page
pub next-listed : (ls : List ℕ) (n : ℕ) → Tight ls n → 1 ≤ length ls → 1 ≤ count (next_place ls n / 4096) ls
next-listed [] n t h = absurd (omega (arith, h))
next-listed (l ∷ ls) n t h = next_page l ls n (λ y. 1 ≤ count y (l ∷ ls)) t (all (l ∷ ls))
  where
    more : (xs : List ℕ) (x : ℕ) (ys : List ℕ) → AllByRecursion (λ y. 1 ≤ count y xs) ys → AllByRecursion (λ y. 1 ≤ count y (x ∷ xs)) ys
    more xs x ys h = Each-map ys (λ y g. omega (arith, g)) h

    all : (xs : List ℕ) → AllByRecursion (λ y. 1 ≤ count y xs) xs
    all [] = tt
    all (x ∷ xs) = (omega (arith, count-first x xs), more xs x xs (all xs))

module _ (d : Draft) (t : ℕ × Loading) (memory : Contents) (pool : Pages) (table : Slots) (next entries : ℕ) (w : Renders (record d { loading = t.1 }) (t.0 ∷ []) memory pool table next entries) (full : IsFull d) where
  k : ℕ
  k = t.0

  hand : (x : ℕ) → count x (t.0 ∷ []) ≡ one x t.0
  hand x = omega arith

  mine : count t.0 (t.0 ∷ []) ≡ 1
  mine = count-first t.0 []

  in_spare : (x : ℕ) → count x t.1.spare ≡ count x d.first + count x d.links
  in_spare x = ap (count x) w.spare ∙ count-append x d.first d.links

  unlinked : count t.0 d.links ≡ 0
  unlinked = omega (arith, w.once t.0, mine, in_spare t.0)

  unsourced : count t.0 (sources t.1.pairs) ≡ 0
  unsourced = omega (arith, w.once t.0, mine)

  pub link_held : IsHeld memory t.0
  link_held = w.held t.0 (omega (arith, w.within t.0, mine))

  -- the place of the word that leads to the link page
  pub next_listed : entries ≢ 0 → 1 ≤ count (next / 4096) d.links
  next_listed n =
      let some : 1 ≤ length d.links = omega (arith, full, w.many, n) in
      subst (λ a. 1 ≤ count (a / 4096) d.links) (sym w.place) (next-listed d.links (length d.entries) w.tight some)

  pub next_held : entries ≢ 0 → IsHeld memory (next / 4096)
  next_held n = w.held (next / 4096) (omega (arith, next_listed n, in_spare (next / 4096), w.within (next / 4096)))

  pub next_low : entries ≢ 0 → next / 4096 < 2 ^ 34
  next_low n = w.below (next / 4096) (omega (arith, next_listed n, in_spare (next / 4096), w.within (next / 4096)))

  pub next_aligned : next % 8 ≡ 0
  next_aligned = omega (arith, w.place, aligned d.links (length d.entries))
    where
      aligned : (ls : List ℕ) (n : ℕ) → next_place ls n % 8 ≡ 0
      aligned [] n = refl
      aligned (l ∷ []) n = omega arith
      aligned (l ∷ (j ∷ ls)) n = aligned (j ∷ ls) (n - 511)

  pub relinked : (memory' : Contents) → ((q : ℕ) → IsHeld memory q → IsHeld memory' q)
      → Holds (at memory') (open_pages (d.links ++ t.0 ∷ []) (items d.entries t.1.pairs))
      → Holds (at memory') (source_pages d.bytes t.1.pairs)
      → ((y : ℕ) → t.0 ≢ y → count y d.links ≡ 0 → at memory' y ≡ at memory y)
      → Renders (with_link d t) [] memory' pool table (4096 * t.0) entries
  relinked memory' stay list loaded others = record {
    tracks = record { left = w.tracks.left; filed = w.tracks.filed; wanted = w.tracks.wanted; loaded = w.tracks.loaded; once = w.tracks.once };
    order = w.order;
    spare = ap (λ ys. ys ++ t.0 ∷ []) w.spare ∙ append_assoc d.first d.links (t.0 ∷ []);
    tight = (omega (arith, full, length-append d.links (t.0 ∷ [])), omega (arith, full, length-append d.links (t.0 ∷ [])));
    homes = w.homes;
    once = λ x. omega (arith, w.once x, count-append x t.1.spare (t.0 ∷ []));
    within = λ x. omega (arith, w.within x, count-append x t.1.spare (t.0 ∷ []));
    held = λ x h. stay x (w.held x h);
    below = w.below;
    list = list;
    loaded = loaded;
    others = λ y z.
        let n : t.0 ≢ y = λ e. away y e (omega (arith, z, count-append y d.links (t.0 ∷ []))) in
        others y n (omega (arith, z, count-append y d.links (t.0 ∷ []))) ∙ w.others y (omega (arith, z, count-append y d.links (t.0 ∷ [])));
    places = λ x a e.
        let i = place-inside (record d { loading = t.1 }) (t.0 ∷ []) memory pool table next entries w x a e in
        w.places x a e ∙ sym (place-front d.links t.0 (number x d.entries) (omega (arith, i, full)));
    place = sym (next_place-link d.links t.0 (length d.entries) full);
    many = w.many;
  }
    where
      away : (y : ℕ) → t.0 ≡ y → count y (t.0 ∷ []) ≡ 0 → ⊥
      away y e z = let m : count t.0 (t.0 ∷ []) ≡ 0 = ap (λ x. count x (t.0 ∷ [])) e ∙ z in omega (arith, m, mine)

  -- the first link page
  pub first : (memory' : Contents) → entries ≡ 0 → at memory' ≡ put (at memory) t.0 (page_of []) → ((q : ℕ) → IsHeld memory q → IsHeld memory' q) → Renders (with_link d t) [] memory' pool table (4096 * t.0) entries
  first memory' z e stay =
      let es : d.entries ≡ [] = no_entries d.entries (omega (arith, w.many, z)) in
      let ls : d.links ≡ [] = nil_from_length d.links (omega (arith, w.many, z, full)) in
      let pages : open_pages (t.0 ∷ []) [] ≡ open_pages (d.links ++ t.0 ∷ []) (items d.entries t.1.pairs) =
      ap (λ xs. open_pages (xs ++ t.0 ∷ []) []) (sym ls) ∙ ap (λ xs. open_pages (d.links ++ t.0 ∷ []) (items xs t.1.pairs)) (sym es) in
      relinked memory' stay
      (subst (λ N. Holds N (open_pages (d.links ++ t.0 ∷ []) (items d.entries t.1.pairs))) (sym e) (subst (Holds (put (at memory) t.0 (page_of []))) pages (first_link (at memory) t.0)))
      (subst (λ N. Holds N (source_pages d.bytes t.1.pairs)) (sym e) (still (at memory) t.0 (page_of []) (source_pages d.bytes t.1.pairs) (sources-keys d.bytes t.0 t.1.pairs unsourced) w.loaded))
      (λ y n c. ap (λ N. N y) e ∙ put-apart (at memory) t.0 y (page_of []) n)

  -- a later link page
  pub later : (memory' : Contents) → entries ≢ 0 → at memory' ≡ set_word (put (at memory) t.0 (page_of [])) next (code (Link t.0)) → ((q : ℕ) → IsHeld memory q → IsHeld memory' q) → Renders (with_link d t) [] memory' pool table (4096 * t.0) entries
  later memory' n e stay =
      let N' = put (at memory) t.0 (page_of []) in
      let listed = next_listed n in
      let free : count (next / 4096) (sources t.1.pairs) ≡ 0 = omega (arith, listed, w.once (next / 4096), in_spare (next / 4096)) in
      relinked memory' stay
      (subst (λ N. Holds N (open_pages (d.links ++ t.0 ∷ []) (items d.entries t.1.pairs))) (sym e) (list d.links refl))
      (subst (λ N. Holds N (source_pages d.bytes t.1.pairs)) (sym e) (word-still N' next (code (Link t.0)) (source_pages d.bytes t.1.pairs) (sources-keys d.bytes (next / 4096) t.1.pairs free)
      (still (at memory) t.0 (page_of []) (source_pages d.bytes t.1.pairs) (sources-keys d.bytes t.0 t.1.pairs unsourced) w.loaded)))
      (λ y m c. ap (λ N. N y) e ∙ word-apart N' next (code (Link t.0)) y (λ f. unlisted y f c listed) ∙ put-apart (at memory) t.0 y (page_of []) m)
    where
      unlisted : (y : ℕ) → next / 4096 ≡ y → count y d.links ≡ 0 → 1 ≤ count (next / 4096) d.links → ⊥
      unlisted y f c l = let m : count (next / 4096) d.links ≡ 0 = ap (λ x. count x d.links) f ∙ c in omega (arith, m, l)

      list : (ls : List ℕ) → d.links ≡ ls → Holds (set_word (put (at memory) t.0 (page_of [])) next (code (Link t.0))) (open_pages (d.links ++ t.0 ∷ []) (items d.entries t.1.pairs))
      list [] l = absurd (omega (arith, ap length l, full, w.many, n))
      list (j ∷ ls) l =
          let is = items d.entries t.1.pairs in
          let full' : length (items d.entries t.1.pairs) ≡ length d.entries = items-full d.entries t.1.pairs w.order in
          let size : length (items d.entries t.1.pairs) ≡ 511 * length (j ∷ ls) = full' ∙ full ∙ ap (λ xs. 511 * length xs) l in
          let distinct : Distinct (j ∷ ls) = subst Distinct l (Distinct-from_count d.links (λ x. omega (arith, w.once x, in_spare x))) in
          let apart : AllByRecursion (λ y. y ≢ t.0) (j ∷ ls) = subst (AllByRecursion (λ y. y ≢ t.0)) l (Each-from_no_count t.0 d.links unlinked) in
          let held : Holds (at memory) (open_pages (j ∷ ls) is) = subst (λ xs. Holds (at memory) (open_pages xs is)) l w.list in
          let place : next_place (j ∷ ls) (length is) ≡ next = ap (next_place (j ∷ ls)) full' ∙ ap (λ xs. next_place xs (length d.entries)) (sym l) ∙ sym w.place in
          subst (λ xs. Holds (set_word (put (at memory) t.0 (page_of [])) next (code (Link t.0))) (open_pages (xs ++ t.0 ∷ []) is)) (sym l)
          (subst (λ a. Holds (set_word (put (at memory) t.0 (page_of [])) a (code (Link t.0))) (open_pages ((j ∷ ls) ++ t.0 ∷ []) is)) place (link_added (at memory) j ls is t.0 size distinct apart held))

pub head_first : (d : Draft) (k h entries : ℕ) → entries ≡ length d.entries → IsFull d → entries ≡ 0 → h ≡ code (Link k) → HeadIs (d.links ++ k ∷ []) h
head_first d k h entries m full z e =
    let ls : d.links ≡ [] = nil_from_length d.links (omega (arith, m, z, full)) in
    let P : List ℕ → Type 0 = λ xs. HeadIs (xs ++ k ∷ []) h in
    subst P (sym ls) e

pub head_later : (ls : List ℕ) (k h : ℕ) → 1 ≤ length ls → HeadIs ls h → HeadIs (ls ++ k ∷ []) h
head_later [] k h n e = absurd (omega (arith, n))
head_later (l ∷ ls) k h n e = e
