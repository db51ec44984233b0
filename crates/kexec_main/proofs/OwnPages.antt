-- A load by the rules uses as many pages as it counts, each of them once.
use Rattle.std.proofs.Common.{◌≡◌, ◌∙◌, ℕ, zero, suc, ◌+◌, ◌*◌, ◌/◌, ◌≤◌, List, [], ◌∷◌, ◌++◌, length, take, drop, ap, arith, refl, subst, sym}
use Rattle.std.specs.List.{AllByRecursion}
use Rattle.std.specs.Prelude.{is_some, slice_index}
use Rattle.std.proofs.lemmas.List.{length-drop, length-take-le}
use Rattle.kx_pages.specs.Lists.{Distinct, Has, count, destinations, sources}
use Rattle.kx_pages.specs.Modes.{swap_page}
use Rattle.kx_pages.specs.Needs.{first_count}
use Rattle.kx_pages.specs.declared.image.Image.{Image}
use Rattle.kx_pages.specs.declared.image.Wish.{Wish}
use Rattle.kx_pages.specs.declared.image.Wish.TheVariants.{Plain, Kept}
use Rattle.kx_pages.specs.declared.item.Item.{Item}
use Rattle.kx_pages.specs.declared.item.Item.TheVariants.{Destination, Done, Link, Source}
use Rattle.kx_pages.proofs.Counting.{Distinct-from_count, Each-from_count, count-append, no_longer}
use Rattle.kx_pages.proofs.Lists.{Each-drop, Each-take}
use Rattle.page_memory.specs.Contents.{at}
use Rattle.kx_pages.specs.Bytes.{Mem}
use Rattle.segments.specs.Values.{is_destination, need, want}
use Rattle.segments.proofs.Laws.{AreSegments-from_IsBare}
use Rattle.kimage_list.specs.Laying.{chain, items, links_of, list_of, mode_with}
use Rattle.kimage_list.specs.Load.{Entry, Move, Start}
use Rattle.kimage_list.specs.inner.Load.{pages_of}
use Rattle.kimage_list.proofs.Enough.{has_of_count}
use Rattle.kimage_list.proofs.Lists.{heads_same, length-items, nil_cons}
use Rattle.kimage_list.proofs.Takes.{Sound}
use Rattle.list_checker.specs.Walk.{links, pairs, pairs_from}
use Rattle.list_checker.proofs.Unique.{walk_same}
use Rattle.load_states.specs.Fillings.{IsSealed}
use Rattle.load_states.specs.Loads.{entries_of}
use Rattle.load_states.specs.Ready.{Told}
use Rattle.load_states.specs.States.{Load}
use Rattle.load_states.proofs.Exact.{loads_exactly}
use Rattle.load_states.proofs.LaidAccepted.{pairs-chained, served_well}
use Rattle.load_states.proofs.Outside.{walk_in}
use Rattle.kexec_plan.proofs.Bare.{planned_bare}
use Rattle.kexec_main.specs.inner.TooFew.{NoLoadOverFewer, UsesEachPageOnce, pages_used, swap_pages}
use Rattle.load_commands.proofs.Drawn.{OnLink, on_items}

-- the link pages of a chain over words without a link
links_among : (is r : List Item) → AllByRecursion (OnLink (λ p. ⊥)) is → links (is ++ r) ≡ links r
links_among [] r h = refl
links_among (Link p ∷ is) r h = absurd h.0
links_among (Destination p ∷ is) r h = links_among is r h.1
links_among (Source p ∷ is) r h = links_among is r h.1
links_among (Done p ∷ is) r h = links_among is r h.1

links_in : (ls : List ℕ) (is : List Item) → AllByRecursion (OnLink (λ p. ⊥)) is → links (chain ls is) ≡ ls
links_in [] is h = refl
links_in (l ∷ ls) is h =
    ap (λ ys. l ∷ ys) (links_among (take 511 is) (chain ls (drop 511 is)) (Each-take (OnLink (λ p. ⊥)) 511 is h) ∙ links_in ls (drop 511 is) (Each-drop (OnLink (λ p. ⊥)) 511 is h))

-- the sources of the words of entries are those of the pairs
sources_among : (t : ℕ) (es : List Entry) (qs : List (ℕ × ℕ)) → destinations qs ≡ pages_of es → sources (pairs_from t (items es qs)) ≡ sources qs
sources_among t [] [] e = refl
sources_among t [] (q ∷ qs) e = absurd (nil_cons e)
sources_among t (Start p ∷ es) qs e = sources_among p es qs e
sources_among t (Move p ∷ es) [] e = absurd (nil_cons (sym e))
sources_among t (Move p ∷ es) (q ∷ qs) e = ap (λ ys. q.1 ∷ ys) (sources_among (suc t) es qs (heads_same (destinations qs) (pages_of es) q.0 p e).1)

-- the control page, the swap page and the others
all_spare : (v : Wish) (xs ys : List ℕ) (n : ℕ) → length xs ≡ first_count v + n
    → slice_index xs 0 ∷ (swap_pages (swap_page (mode_with v (slice_index xs 1))) ++ (drop (first_count v) xs ++ ys)) ≡ xs ++ ys
all_spare Plain [] ys n e = absurd (omega (arith, e))
all_spare Plain (x ∷ xs) ys n e = refl
all_spare Kept [] ys n e = absurd (omega (arith, e))
all_spare Kept (x ∷ []) ys n e = absurd (omega (arith, e))
all_spare Kept (x ∷ y ∷ xs) ys n e = refl

-- lists in which the same numbers stand, each once, are of one length
same_length : (xs ys : List ℕ) → ((x : ℕ) → count x xs ≡ count x ys) → ((x : ℕ) → count x ys ≤ 1) → length xs ≡ length ys
same_length xs ys same once =
    let a = no_longer xs ys (Distinct-from_count xs (λ x. omega (arith, same x, once x))) (Each-from_count (λ x. Has x ys) xs (λ x n. has_of_count x ys (omega (arith, n, same x)))) in
    let b = no_longer ys xs (Distinct-from_count ys once) (Each-from_count (λ x. Has x xs) ys (λ x n. has_of_count x xs (omega (arith, n, same x)))) in
    omega (arith, a, b)

count-take : (x n : ℕ) (xs : List ℕ) → count x (take n xs) ≤ count x xs
count-take x zero xs = omega arith
count-take x (suc n) [] = omega arith
count-take x (suc n) (y ∷ xs) = omega (arith, count-take x n xs)

module _ (M : Mem) (pool : List ℕ) (wish : Wish) (s : Load) (k : IsSealed M pool wish s.segments s) where
  abbrev es : List Entry
  es = entries_of s.segments

  abbrev ls : List ℕ
  ls = links_of wish k.loading

  well : Sound (is_destination s.segments) pool (pages_of es) (first_count wish + (length es + 510) / 511) k.loading
  well = served_well wish (is_destination s.segments) es pool k.loading k.once k.requests

  module _ (words link_count : ℕ) (qs : List (ℕ × ℕ)) (t : Told s words link_count qs) where
    items_are : t.items ≡ list_of wish es k.loading
    items_are =
        walk_same (at s.memory) s.image.head t.items (list_of wish es k.loading)
        (walk_in (at s.memory) (want s.segments) s.image.head s.image.control (swap_page s.image.mode) t.items t.accepted)
        (walk_in (at s.memory) (want s.segments) s.image.head s.image.control (swap_page s.image.mode) (list_of wish es k.loading) k.accepted)

    links_are : links t.items ≡ ls
    links_are = ap links items_are ∙ links_in ls (items es k.loading.pairs) (on_items (λ p. ⊥) es k.loading.pairs)

    room : length (items es k.loading.pairs) ≤ 511 * length ls
    room = omega (arith, length-items es k.loading.pairs, length-drop (first_count wish) k.loading.spare, well.many)

    sources_are : sources qs ≡ sources k.loading.pairs
    sources_are =
        ap sources (sym t.same_pairs ∙ ap pairs items_are ∙ pairs-chained ls 0 (items es k.loading.pairs) room)
        ∙ sources_among 0 es k.loading.pairs well.order

    used_are : pages_used s.image t.items qs ≡ k.loading.spare ++ sources k.loading.pairs
    used_are =
        ap (λ (i : Image). i.control ∷ (swap_pages (swap_page i.mode) ++ (links t.items ++ sources qs))) k.image
        ∙ (λ j. slice_index k.loading.spare 0 ∷ (swap_pages (swap_page (mode_with wish (slice_index k.loading.spare 1))) ++ (links_are j ++ sources_are j)))
        ∙ all_spare wish k.loading.spare (sources k.loading.pairs) ((length es + 510) / 511) well.many

    used_count : (x : ℕ) → count x (pages_used s.image t.items qs) ≡ count x (take (need wish s.segments) pool)
    used_count x = ap (count x) used_are ∙ count-append x k.loading.spare (sources k.loading.pairs) ∙ k.in_use x

    in_pool : (x : ℕ) → count x (take (need wish s.segments) pool) ≤ count x pool
    in_pool x = count-take x (need wish s.segments) pool

    used_once : Distinct (pages_used s.image t.items qs)
    used_once = Distinct-from_count (pages_used s.image t.items qs) (λ x. omega (arith, used_count x, in_pool x, k.once x))

    used_usable : AllByRecursion (λ q. Has q pool) (pages_used s.image t.items qs)
    used_usable = Each-from_count (λ q. Has q pool) (pages_used s.image t.items qs) (λ x n. has_of_count x pool (omega (arith, n, used_count x, in_pool x)))

    used_many : need wish s.segments ≤ length pool → length (pages_used s.image t.items qs) ≡ need wish s.segments
    used_many enough =
        same_length (pages_used s.image t.items qs) (take (need wish s.segments) pool) used_count (λ x. omega (arith, in_pool x, k.once x))
        ∙ length-take-le (need wish s.segments) pool enough

pub uses_each_page_once : UsesEachPageOnce
uses_each_page_once = λ wish i p c l t.
    let sealed : IsSealed (at i.memory) i.usable wish c.load.segments c.load = subst (λ ss. IsSealed (at i.memory) i.usable wish ss c.load) (sym l.laid.segments) l.laid in
    let enough : need wish c.load.segments ≤ length i.usable = subst (λ ss. need wish ss ≤ length i.usable) (sym l.laid.segments) l.enough in (
      used_once (at i.memory) i.usable wish c.load sealed c.words c.links c.pairs t,
      used_many (at i.memory) i.usable wish c.load sealed c.words c.links c.pairs t enough ∙ ap (need wish) l.laid.segments,
      used_usable (at i.memory) i.usable wish c.load sealed c.words c.links c.pairs t,
    )

pub no_load_over_fewer : NoLoadOverFewer
no_load_over_fewer = λ wish i p load planned few sealed.
    let segments = AreSegments-from_IsBare p.segments (planned_bare i.request i.map p planned) in
    let fits = (loads_exactly wish p.segments i.usable segments sealed.once).0 (ap is_some sealed.requests) in
    omega (arith, few, fits)
