-- The pages that a load uses were drawn.
use Rattle.std.proofs.Common.{◌≡◌, ◌∙◌, ℕ, zero, suc, ◌+◌, ◌/◌, ◌<◌, ◌≤◌, List, [], ◌∷◌, length, take, drop, Some, ap, arith, refl, subst, sym}
use Rattle.std.specs.List.{AllByRecursion}
use Rattle.std.proofs.lemmas.List.{take-append-drop}
use Rattle.kx_pages.specs.Lists.{Has, count, sources}
use Rattle.kx_pages.specs.Modes.{swap_page}
use Rattle.kx_pages.specs.Needs.{first_count}
use Rattle.kx_pages.specs.declared.image.Image.{Image}
use Rattle.kx_pages.specs.declared.image.Wish.{Wish}
use Rattle.kx_pages.specs.declared.image.Wish.TheVariants.{Plain, Kept}
use Rattle.kx_pages.specs.declared.item.Item.{Item}
use Rattle.kx_pages.specs.declared.item.Item.TheVariants.{Destination, Done, Link, Source}
use Rattle.kx_pages.proofs.Counting.{Each-from_count, count-append, count-at}
use Rattle.kx_pages.proofs.Lists.{Each-append, Each-drop, Each-from_Has, Each-from_sources, Each-take}
use Rattle.page_memory.specs.Contents.{at}
use Rattle.segments.specs.Values.{is_destination, need, want}
use Rattle.kimage_list.specs.Laying.{chain, control_of, items, links_of, list_of}
use Rattle.kimage_list.specs.Load.{Entry, Move, Start}
use Rattle.kimage_list.proofs.Enough.{has_of_count}
use Rattle.list_checker.specs.Walk.{links}
use Rattle.list_checker.proofs.Unique.{walk_same}
use Rattle.load_states.specs.Fillings.{IsSealed}
use Rattle.load_states.specs.Loads.{entries_of}
use Rattle.load_states.specs.Ready.{Told}
use Rattle.load_states.specs.States.{Checked}
use Rattle.load_states.proofs.LaidAccepted.{served_well}
use Rattle.load_states.proofs.Outside.{no_source, no_swap, walk_in}
use Rattle.kexec_plan.specs.Requests.{Plan}
use Rattle.load_commands.specs.Inputs.{LoadInputs}
use Rattle.load_commands.specs.Loading.{IsLoaded}
use Rattle.load_commands.specs.NormalLoad.{drawn_pages}

-- the link pages of a list are those over which it was chained
abbrev pub OnLink : (ℕ → Type 0) → Item → Type 0
OnLink P (Link p) = P p
OnLink P (Destination p) = Unit {0}
OnLink P (Source p) = Unit {0}
OnLink P (Done p) = Unit {0}

each_link : (P : ℕ → Type 0) (is : List Item) → AllByRecursion (OnLink P) is → AllByRecursion P (links is)
each_link P [] h = tt
each_link P (Link p ∷ is) h = (h.0, each_link P is h.1)
each_link P (Destination p ∷ is) h = each_link P is h.1
each_link P (Source p ∷ is) h = each_link P is h.1
each_link P (Done p ∷ is) h = each_link P is h.1

pub on_items : (P : ℕ → Type 0) (es : List Entry) (qs : List (ℕ × ℕ)) → AllByRecursion (OnLink P) (items es qs)
on_items P [] qs = tt
on_items P (Start p ∷ es) qs = (tt, on_items P es qs)
on_items P (Move p ∷ es) [] = on_items P es []
on_items P (Move p ∷ es) (q ∷ qs) = (tt, on_items P es qs)

on_chain : (P : ℕ → Type 0) (ls : List ℕ) (is : List Item) → AllByRecursion P ls → AllByRecursion (OnLink P) is → AllByRecursion (OnLink P) (chain ls is)
on_chain P [] is a h = (tt, tt)
on_chain P (l ∷ ls) is a h =
    (a.0, Each-append (OnLink P) (take 511 is) (chain ls (drop 511 is)) (Each-take (OnLink P) 511 is h) (on_chain P ls (drop 511 is) a.1 (Each-drop (OnLink P) 511 is h)))

none_left : (q : ℕ) (xs : List ℕ) → (count q xs ≡ 0 → ⊥) → Has q xs
none_left q xs h = go (count q xs) refl
  where
    go : (n : ℕ) → count q xs ≡ n → Has q xs
    go zero e = absurd (h e)
    go (suc n) e = has_of_count q xs (omega (arith, e))

count-drop : (x n : ℕ) (xs : List ℕ) → count x (drop n xs) ≤ count x xs
count-drop x n xs = omega (arith, count-append x (take n xs) (drop n xs), ap (count x) (take-append-drop n xs))

module _ (wish : Wish) (i : LoadInputs) (p : Plan) (c : Checked) (l : IsLoaded wish i p c.load) where
  abbrev drawn : List ℕ
  drawn = drawn_pages wish i p

  sealed : IsSealed (at i.memory) i.usable wish c.load.segments c.load
  sealed = subst (λ ss. IsSealed (at i.memory) i.usable wish ss c.load) (sym l.laid.segments) l.laid

  same_drawn : take (need wish c.load.segments) i.usable ≡ drawn
  same_drawn = ap (λ ss. take (need wish ss) i.usable) l.laid.segments

  -- a page that was taken for no destination
  spare_drawn : (q : ℕ) → 1 ≤ count q l.laid.loading.spare → Has q drawn
  spare_drawn q n = has_of_count q drawn (omega (arith, n, l.laid.in_use q))

  spare_size : length l.laid.loading.spare ≡ first_count wish + (length (entries_of p.segments) + 510) / 511
  spare_size = (served_well wish (is_destination p.segments) (entries_of p.segments) i.usable l.laid.loading l.laid.once l.laid.requests).many

  first_drawn : Has (control_of l.laid.loading) drawn
  first_drawn = spare_drawn (control_of l.laid.loading) (count-at l.laid.loading.spare 0 (some_first wish (length l.laid.loading.spare) ((length (entries_of p.segments) + 510) / 511) spare_size))
    where
      some_first : (v : Wish) (n m : ℕ) → n ≡ first_count v + m → 0 < n
      some_first Plain n m e = omega (arith, e)
      some_first Kept n m e = omega (arith, e)

  pub control_drawn : Has c.load.image.control drawn
  control_drawn = subst (λ q. Has q drawn) (ap (λ (i : Image). i.control) (sym l.laid.image)) first_drawn

  pub swap_drawn : (swap : ℕ) → swap_page c.load.image.mode ≡ Some swap → Has swap drawn
  swap_drawn swap e = none_left swap drawn (λ z. no_swap (at i.memory) i.usable wish c.load sealed swap swap e (ap (count swap) same_drawn ∙ z) refl)

  pub sources_drawn : Told c.load c.words c.links c.pairs → AllByRecursion (λ q. Has q.1 drawn) c.pairs
  sources_drawn told =
      Each-from_sources (λ q. Has q drawn) c.pairs (Each-from_Has (λ q. Has q drawn) (sources c.pairs)
      (λ q h. none_left q drawn (λ z. no_source (at i.memory) i.usable wish c.load sealed c.words c.links c.pairs told q (ap (count q) same_drawn ∙ z) h)))

  same_items : (told : Told c.load c.words c.links c.pairs) → told.items ≡ list_of wish (entries_of c.load.segments) sealed.loading
  same_items told =
      walk_same (at c.load.memory) c.load.image.head told.items (list_of wish (entries_of c.load.segments) sealed.loading)
      (walk_in (at c.load.memory) (want c.load.segments) c.load.image.head c.load.image.control (swap_page c.load.image.mode) told.items told.accepted)
      (walk_in (at c.load.memory) (want c.load.segments) c.load.image.head c.load.image.control (swap_page c.load.image.mode) (list_of wish (entries_of c.load.segments) sealed.loading) sealed.accepted)

  pub links_drawn : (told : Told c.load c.words c.links c.pairs) → AllByRecursion (λ q. Has q drawn) (links told.items)
  links_drawn told =
      let ls = links_of wish sealed.loading in
      let each : AllByRecursion (λ q. Has q drawn) ls =
      Each-from_count (λ q. Has q drawn) ls
      (λ q n. has_of_count q drawn (omega (arith, n, count-drop q (first_count wish) sealed.loading.spare, sealed.in_use q, ap (count q) same_drawn))) in
      subst (λ is. AllByRecursion (λ q. Has q drawn) (links is)) (sym (same_items told))
      (each_link (λ q. Has q drawn) (list_of wish (entries_of c.load.segments) sealed.loading)
      (on_chain (λ q. Has q drawn) ls (items (entries_of c.load.segments) sealed.loading.pairs) each (on_items (λ q. Has q drawn) (entries_of c.load.segments) sealed.loading.pairs)))
