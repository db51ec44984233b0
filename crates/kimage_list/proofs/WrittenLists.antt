-- The list of a load that was asked for all its pages.
use Rattle.std.proofs.Common.{◌≡◌, ℕ, ◌+◌, ◌≤◌, List, [], ◌∷◌, ◌++◌, length, Option, Some, None, refl, sym, ap, ◌∙◌, subst, arith, take, drop, length-append, true}
use Rattle.std.specs.Prelude.{◌/◌, is_some, slice_index}
use Rattle.std.proofs.lemmas.Bool.{false≢true}
use Rattle.page_memory.specs.Contents.{at}
use Rattle.std.proofs.lemmas.List.{take-append-drop}
use Rattle.kimage_list.specs.declared.table.PageSource.{PageSource}
use Rattle.kx_pages.specs.declared.image.Mode.{Mode}
use Rattle.kx_pages.specs.declared.image.Image.{Image}
use Rattle.kx_pages.specs.Lists.{Has, has, count, sources}
use Rattle.kx_pages.specs.Items.{code}
use Rattle.kx_pages.specs.declared.item.Item.TheVariants.{Link}
use Rattle.kimage_list.specs.inner.Load.{pages_of}
use Rattle.kimage_list.specs.Laying.{items, source_pages, put_all, link_pages, lay, head_of, links_of, control_of, load_mode}
use Rattle.kimage_list.specs.inner.Tables.{slot, source_in}
use Rattle.kimage_list.specs.inner.Drafts.{Draft, HasLink, laid_by, HeadIs}
use Rattle.kimage_list.specs.inner.Calls.{IsWritten}
use Rattle.kimage_list.specs.declared.written.Written.{Written}
use Rattle.page_pool.specs.Pages.{is_filed, usable_of}
use Rattle.kimage_list.specs.inner.Writers.{History, Writer, StandsAt, IsAwaited, draft_of, is_wanted, need, pages_in}
use Rattle.kimage_list.proofs.Lists.{keys, keys-append, keys-source_pages, keys-link_pages, put_all_other}
use Rattle.kimage_list.proofs.Counting.{counted_fit}
use Rattle.kimage_list.proofs.Going.{all_drawn}
use Rattle.kimage_list.proofs.Spanned.{each-pages_in, pages-once}
use Rattle.kx_pages.proofs.Lists.{Each-map, length-destinations}
use Rattle.kx_pages.proofs.Counting.{count-append}
use Rattle.kimage_list.proofs.Standings.{links_are, length-entries, few_pages}
use Rattle.kimage_list.proofs.MakingRoom.{need_is}
use Rattle.kimage_list.proofs.Awaiting.{has_destination}

abbrev pub image_with : ℕ → Mode → ℕ → Image
image_with a m c = record { head = a; mode = m; control = c }

module _ (h : History) (w : Writer) (s : StandsAt h w) (started_all : w.segments_left ≡ 0) (loaded_all : (d : ℕ) → IsAwaited w d → ⊥) where
  d : Draft
  d = draft_of h s.loading s.inside.first s.inside.links

  -- each wanted page has an entry
  every : (p : ℕ) → is_wanted h p ≡ true → Has p (pages_of h.entries)
  every p t = go (slot w.table p) refl
    where
      go : (o : Option (Option PageSource)) → slot w.table p ≡ o → Has p (pages_of h.entries)
      go None e = absurd (false≢true (sym (s.inside.writes.tracks.wanted p ∙ ap is_some e) ∙ t))
      go (Some None) e = absurd (loaded_all p e)
      go (Some (Some x)) e = subst (Has p) s.inside.writes.order (has_destination p x.source s.loading.pairs (sym (s.inside.writes.tracks.loaded p) ∙ ap source_in e))

  all_pages : length (pages_of h.entries) ≡ length (pages_in h.wanted)
  all_pages = omega (arith, few_pages h s.loading w s.inside, counted_fit (pages_in h.wanted) (pages_of h.entries) (λ x. pages-once 0 h.wanted x s.inside.apart) (Each-map (pages_in h.wanted) every (each-pages_in h.wanted)))

  entry_count : length h.entries ≡ h.segments + length (pages_in h.wanted)
  entry_count = omega (arith, length-entries h.entries, all_pages, s.segments_left, started_all)

  link_count : length s.inside.links ≡ (h.segments + length (pages_in h.wanted) + 510) / 511
  link_count = omega (arith, entry_count, s.inside.steady, s.inside.under_way.within)

  pub has_link : HasLink (draft_of h s.loading s.inside.first s.inside.links)
  has_link = omega (arith, link_count, s.inside.some)

  pair_count : length s.loading.pairs ≡ length (pages_in h.wanted)
  pair_count = sym (length-destinations s.loading.pairs) ∙ ap length s.inside.writes.order ∙ all_pages

  spare_count : length s.loading.spare ≡ length s.inside.first + length s.inside.links
  spare_count = ap length s.inside.writes.spare ∙ length-append s.inside.first s.inside.links

  taken_all : length s.loading.spare + length s.loading.pairs ≡ need h
  taken_all = omega (arith, spare_count, pair_count, link_count, need_is h s.inside.first s.inside.first_pages)

  drawn_all : (s.loading.filed ≡ []) × (s.loading.left ≡ drop (need h) h.pool)
  drawn_all = all_drawn h.pool (pages_in h.wanted) (need h) (draft_of h s.loading s.inside.first s.inside.links) s.inside.under_way every taken_all

  -- the pages in use are the first usable ones of the pool
  in_use : (x : ℕ) → count x s.loading.spare + count x (sources s.loading.pairs) ≡ count x (take (need h) h.pool)
  in_use x =
      omega (arith, s.inside.under_way.counts.conserved x, ap (count x) drawn_all.0, ap (count x) drawn_all.1, count-append x (take (need h) h.pool) (drop (need h) h.pool), ap (count x) (take-append-drop (need h) h.pool))

  links_same : links_of h.wish s.loading ≡ s.inside.links
  links_same = links_are h.wish s.loading.spare s.inside.first s.inside.links s.inside.writes.spare s.inside.first_pages

  in_links : (x : ℕ) → count x s.loading.spare ≡ count x s.inside.first + count x s.inside.links
  in_links x = ap (count x) s.inside.writes.spare ∙ count-append x s.inside.first s.inside.links

  head_is : (ls : List ℕ) (n : ℕ) → HeadIs ls n → 1 ≤ length ls → n ≡ code (Link (slice_index ls 0))
  head_is [] n e m = absurd (omega (arith, m))
  head_is (l ∷ ls) n e m = e

  unused : (p : ℕ) → count p (take (need h) h.pool) ≡ 0 → lay h.before h.bytes h.wish h.entries s.loading p ≡ h.before p
  unused p z = put_all_other h.before (link_pages (links_of h.wish s.loading) (items h.entries s.loading.pairs) ++ source_pages h.bytes s.loading.pairs) p (omega (arith, named, in_use p, in_links p, ap (count p) links_same, z))
    where
      named : count p (keys (link_pages (links_of h.wish s.loading) (items h.entries s.loading.pairs) ++ source_pages h.bytes s.loading.pairs)) ≡ count p (links_of h.wish s.loading) + count p (sources s.loading.pairs)
      named =
          ap (count p) (keys-append (link_pages (links_of h.wish s.loading) (items h.entries s.loading.pairs)) (source_pages h.bytes s.loading.pairs))
          ∙ count-append p (keys (link_pages (links_of h.wish s.loading) (items h.entries s.loading.pairs))) (keys (source_pages h.bytes s.loading.pairs))
          ∙ ap (λ ys. count p ys + count p (keys (source_pages h.bytes s.loading.pairs))) (keys-link_pages (links_of h.wish s.loading) (items h.entries s.loading.pairs))
          ∙ ap (λ ys. count p (links_of h.wish s.loading) + count p ys) (keys-source_pages h.bytes s.loading.pairs)

  pub list_written : (r : Written) → ((p : ℕ) → at r.memory p ≡ laid_by (draft_of h s.loading s.inside.first s.inside.links) p) → r.pool ≡ w.pool
      → r.image ≡ record { head = w.head; mode = w.mode; control = w.control } → IsWritten h r
  list_written r memory pool image =
      let laid_there : (p : ℕ) → at r.memory p ≡ lay h.before h.bytes h.wish h.entries s.loading p = λ p. memory p ∙ ap (λ ls. put_all h.before (link_pages ls (items h.entries s.loading.pairs) ++ source_pages h.bytes s.loading.pairs) p) (sym links_same) in
      record {
        loading = s.loading;
        requests = s.requests;
        image = image ∙ same_image w.head (head_of h.wish s.loading) w.mode (load_mode h.wish s.loading) w.control (control_of s.loading) (head_is s.inside.links w.head s.inside.head has_link ∙ ap (λ ls. code (Link (slice_index ls 0))) (sym links_same)) s.mode s.control;
        memory = laid_there;
        usable = ap usable_of pool ∙ s.left ∙ drawn_all.1;
        in_use = in_use;
        unfiled = λ p. ap (λ v. is_filed v p) pool ∙ s.filed p ∙ ap (has p) drawn_all.0;
        once = s.inside.under_way.counts.once;
        below = s.inside.writes.below;
        others = λ p z. laid_there p ∙ unused p z;
      }
    where
      same_image : (a b : ℕ) (m n : Mode) (c d : ℕ) → a ≡ b → m ≡ n → c ≡ d → image_with a m c ≡ image_with b n d
      same_image a b m n c d e f g = λ i. record { head = e i; mode = f i; control = g i }
