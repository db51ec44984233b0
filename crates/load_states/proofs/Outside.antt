-- Which pages the list of a sealed load uses.
use Rattle.std.proofs.Common.{◌≡◌, ℕ, suc, ◌+◌, ◌*◌, ◌<◌, ◌≤◌, ◌/◌, List, [], ◌∷◌, length, take, Option, Some, None, sym, ap, ◌∙◌, subst, inl, inr, arith}
use Rattle.std.specs.Prelude.{◌≢◌, slice_index}
use Rattle.std.proofs.lemmas.List.{length-drop}
use Rattle.kx_laws.proofs.Options.{none_some, some_same}
use Rattle.kx_pages.specs.Lists.{Has, count, sources}
use Rattle.kx_pages.specs.declared.image.Wish.{Wish}
use Rattle.kx_pages.specs.declared.image.Wish.TheVariants.{Plain, Kept}
use Rattle.kx_pages.specs.declared.item.Item.{Item}
use Rattle.page_memory.specs.Contents.{at}
use Rattle.kx_pages.specs.Bytes.{Mem, Wants}
use Rattle.segments.specs.Values.{is_destination, need, want}
use Rattle.kimage_list.specs.Load.{Entry, Move, Start}
use Rattle.kimage_list.specs.Laying.{items, links_of, list_of, load_mode}
use Rattle.kimage_list.proofs.Lists.{length-items}
use Rattle.list_checker.specs.Walk.{Walk, IsAccepted, pairs, pairs_from}
use Rattle.list_checker.proofs.Unique.{walk_same}
use Rattle.load_states.specs.Fillings.{IsSealed}
use Rattle.load_states.specs.Loads.{entries_of}
use Rattle.load_states.specs.Ready.{Told}
use Rattle.load_states.specs.inner.Ready.{IsToGoBack}
use Rattle.load_states.specs.inner.Runs.{RestoresOthers}
use Rattle.load_states.specs.States.{Checked, Load, swap_of}
use Rattle.load_states.specs.inner.States.{Returned}
use Rattle.load_states.proofs.LaidAccepted.{pairs-chained, served_well}
use Rattle.load_states.proofs.Ready.{Undoes, swap_is}
use Rattle.kx_pages.proofs.Counting.{count-from_Has, count-at}
use Rattle.kx_pages.specs.Needs.{first_count}
use Rattle.kx_pages.specs.Modes.{swap_page}

-- an accepted list is a walk
pub walk_in : (M : Mem) (W : Wants) (head control : ℕ) (swap : Option ℕ) (is : List Item) → IsAccepted M W head control swap is → Walk M head is
walk_in M W head control None is a = a.walk
walk_in M W head control (Some w) is a = a.plain.walk

-- the sources of a list's words are those of its pairs
sources_items : (t : ℕ) (es : List Entry) (qs : List (ℕ × ℕ)) (p : ℕ) → Has p (sources (pairs_from t (items es qs))) → Has p (sources qs)
sources_items t [] qs p h = absurd h
sources_items t (Start s ∷ es) qs p h = sources_items s es qs p h
sources_items t (Move s ∷ es) [] p h = sources_items t es [] p h
sources_items t (Move s ∷ es) (q ∷ qs) p (inl e) = inl e
sources_items t (Move s ∷ es) (q ∷ qs) p (inr h) = inr (sources_items (suc t) es qs p h)

module _ (M : Mem) (pool : List ℕ) (wish : Wish) (s : Load) (k : IsSealed M pool wish s.segments s) where
  es : List Entry
  es = entries_of s.segments

  spare_size : length k.loading.spare ≡ first_count wish + (length (entries_of s.segments) + 510) / 511
  spare_size = (served_well wish (is_destination s.segments) (entries_of s.segments) pool k.loading k.once k.requests).many

  room : length (items (entries_of s.segments) k.loading.pairs) ≤ 511 * length (links_of wish k.loading)
  room = omega (arith, length-items (entries_of s.segments) k.loading.pairs, length-drop (first_count wish) k.loading.spare, spare_size)

  -- a page outside the first ones of the pool is no source of the list
  pub no_source : (words links : ℕ) (qs : List (ℕ × ℕ)) → Told s words links qs → (p : ℕ) → count p (take (need wish s.segments) pool) ≡ 0 → Has p (sources qs) → ⊥
  no_source words links qs t p z h =
      let same = walk_same (at s.memory) s.image.head t.items (list_of wish (entries_of s.segments) k.loading)
      (walk_in (at s.memory) (want s.segments) s.image.head s.image.control (swap_page s.image.mode) t.items t.accepted)
      (walk_in (at s.memory) (want s.segments) s.image.head s.image.control (swap_page s.image.mode) (list_of wish (entries_of s.segments) k.loading) k.accepted) in
      let pairs_are = sym t.same_pairs ∙ ap pairs same ∙ pairs-chained (links_of wish k.loading) 0 (items (entries_of s.segments) k.loading.pairs) room in
      let used = count-from_Has p (sources k.loading.pairs) (sources_items 0 (entries_of s.segments) k.loading.pairs p (subst (λ qs. Has p (sources qs)) pairs_are h)) in
      omega (arith, used, k.in_use p, z)

  -- nor the swap page
  pub no_swap : (swap p : ℕ) → swap_page s.image.mode ≡ Some swap → count p (take (need wish s.segments) pool) ≡ 0 → p ≢ swap
  no_swap swap p e z same = by_wish wish k.loading.spare spare_size (ap (λ i. swap_page i.mode) (sym k.image) ∙ e) (ap (λ q. count q (take (need wish s.segments) pool)) (sym same) ∙ z) (k.in_use swap)
    where
      by_wish : (v : Wish) (xs : List ℕ) → length k.loading.spare ≡ first_count v + (length (entries_of s.segments) + 510) / 511 → swap_page (load_mode v k.loading) ≡ Some swap
          → count swap (take (need wish s.segments) pool) ≡ 0 → count swap k.loading.spare + count swap (sources k.loading.pairs) ≡ count swap (take (need wish s.segments) pool) → ⊥
      by_wish Plain xs n e z u = none_some None swap (λ i. None) e
      by_wish Kept xs n e z u =
          let w : slice_index k.loading.spare 1 ≡ swap = some_same (slice_index k.loading.spare 1) swap e in
          let some_entries : 1 ≤ length k.loading.spare = omega (arith, n) in
          let two : 1 < length k.loading.spare = omega (arith, n) in
          let c : 1 ≤ count (slice_index k.loading.spare 1) k.loading.spare = count-at k.loading.spare 1 two in
          let d : 1 ≤ count swap k.loading.spare = subst (λ x. 1 ≤ count x k.loading.spare) w c in
          omega (arith, d, u, z)

-- the second run restores every page that the load did not take
pub restores_others : (c : Checked) (r : Returned) → IsToGoBack c → Undoes c (at r.load.memory) → RestoresOthers c r
restores_others c r back undoes M pool wish s sealed told same touched p z =
    let swap : swap_page s.image.mode ≡ Some (swap_of c.load) =
    ap (λ (t : Load). swap_page t.image.mode) (sym same) ∙ ap (λ mode. swap_page mode) back.kept.mode ∙ ap (λ w. Some w) (sym (swap_is back.before c back.swap back.items back.kept)) in
    undoes.undone (at s.memory) touched p (no_swap M pool wish s sealed (swap_of c.load) p swap z) (no_source M pool wish s sealed c.words c.links c.pairs told p z)
    ∙ sealed.others p z
