-- Where the writer stands: what is kept inside tells all, and what one entry more asks for.
use Rattle.std.proofs.Common.{◌≡◌, ℕ, zero, suc, ◌+◌, ◌<◌, ◌≤◌, List, [], ◌∷◌, ◌++◌, length, Option, Some, None, refl, sym, ap, ◌∙◌, subst, arith, drop, append_assoc, append-nil, Bool, cond}
use Rattle.std.specs.Prelude.{◌%◌, eqb, slice_index, replicate}
use Rattle.std.proofs.Math.Seq.{drop-append_seam}
use Rattle.page_memory.specs.Contents.{Contents, at}
use Rattle.page_pool.specs.Pages.{Pages}
use Rattle.kx_pages.specs.Lists.{Has, count, sources}
use Rattle.kx_pages.specs.declared.item.Item.{Item}
use Rattle.kx_pages.specs.declared.image.Wish.{Wish}
use Rattle.kx_pages.specs.declared.image.Wish.TheVariants.{Plain, Kept}
use Rattle.kimage_list.specs.Load.{Loading, Request, Entry, Start, Move, own_request, requests_from, requests, begun, take_page, give_page, serve, loading_after}
use Rattle.kimage_list.specs.inner.Load.{pages_of, starts}
use Rattle.kimage_list.specs.Laying.{items, source_pages, links_of, mode_with}
use Rattle.kimage_list.specs.inner.Opening.{open_pages, laid_so_far}
use Rattle.kimage_list.specs.inner.Tables.{Slots}
use Rattle.kimage_list.specs.inner.Drafts.{Draft, Renders}
use Rattle.kimage_list.specs.inner.Writers.{History, Writer, StandsAt, IsOpen, KeepsPages, draft_of, is_wanted, pages_in, destination_after}
use Rattle.kimage_list.proofs.Lists.{keys, keys-append, keys-source_pages}
use Rattle.kimage_list.proofs.Counting.{counted_fit}
use Rattle.kimage_list.proofs.Parts.{served-append, requests-append}
use Rattle.kimage_list.proofs.OpenList.{holds-append}
use Rattle.kimage_list.proofs.Finishing.{all_put}
use Rattle.kx_pages.proofs.Lists.{Each-map}
use Rattle.kx_pages.proofs.Counting.{count-append}
use Rattle.kx_pages.specs.Needs.{first_count}

keys-open_pages : (ls : List ℕ) (is : List Item) → keys (open_pages ls is) ≡ ls
keys-open_pages [] is = refl
keys-open_pages (l ∷ ls) is = ap (λ zs. l ∷ zs) (keys-open_pages ls (drop 511 is))

-- memory is what is laid so far
laid_open : (d : Draft) (memory : Contents) (pool : Pages) (table : Slots) (next entries : ℕ) → Renders d [] memory pool table next entries → (p : ℕ) → at memory p ≡ laid_so_far d.before d.bytes d.links d.entries d.loading.pairs p
laid_open d memory pool table next entries w =
    let list = open_pages d.links (items d.entries d.loading.pairs) in
    let from = source_pages d.bytes d.loading.pairs in
    all_put (at memory) d.before (list ++ from) (λ x. omega (arith, named x, w.once x, in_spare x)) (holds-append (at memory) list from w.list w.loaded) (λ x z. w.others x (omega (arith, z, named x)))
  where
    in_spare : (x : ℕ) → count x d.loading.spare ≡ count x d.first + count x d.links
    in_spare x = ap (count x) w.spare ∙ count-append x d.first d.links

    named : (x : ℕ) → count x (keys (open_pages d.links (items d.entries d.loading.pairs) ++ source_pages d.bytes d.loading.pairs)) ≡ count x d.links + count x (sources d.loading.pairs)
    named x =
        ap (count x) (keys-append (open_pages d.links (items d.entries d.loading.pairs)) (source_pages d.bytes d.loading.pairs))
        ∙ count-append x (keys (open_pages d.links (items d.entries d.loading.pairs))) (keys (source_pages d.bytes d.loading.pairs))
        ∙ ap (λ ys. count x ys + count x (keys (source_pages d.bytes d.loading.pairs))) (keys-open_pages d.links (items d.entries d.loading.pairs))
        ∙ ap (λ ys. count x d.links + count x ys) (keys-source_pages d.bytes d.loading.pairs)

index-left : (xs ys : List ℕ) (i : ℕ) → i < length xs → slice_index (xs ++ ys) i ≡ slice_index xs i
index-left [] ys i h = absurd (omega (arith, h))
index-left (x ∷ xs) ys zero h = refl
index-left (x ∷ xs) ys (suc i) h = index-left xs ys i (omega (arith, h))

pub some-first : (wish : Wish) → 1 ≤ first_count wish
some-first Plain = omega arith
some-first Kept = omega arith

mode-left : (wish : Wish) (xs ys : List ℕ) → length xs ≡ first_count wish → mode_with wish (slice_index xs 1) ≡ mode_with wish (slice_index (xs ++ ys) 1)
mode-left Plain xs ys n = refl
mode-left Kept xs ys n = ap (mode_with Kept) (sym (index-left xs ys 1 (omega (arith, n))))

pub links_are : (wish : Wish) (spare first links : List ℕ) → spare ≡ first ++ links → length first ≡ first_count wish → drop (first_count wish) spare ≡ links
links_are wish spare first links e n = ap (drop (first_count wish)) e ∙ ap (λ m. drop m (first ++ links)) (sym n) ∙ drop-append_seam first links

-- what is kept inside tells all
pub stands_at : (h : History) (l : Loading) (w : Writer) → loading_after (is_wanted h) h.wish h.entries h.pool ≡ Some l → IsOpen h l w → w.segments_left + starts h.entries ≡ h.segments → w.destination ≡ destination_after None h.entries → StandsAt h w
stands_at h l w requests o segments destination = record {
  loading = l;
  requests = requests;
  left = o.writes.tracks.left;
  filed = o.writes.tracks.filed;
  memory = λ p. laid_open (draft_of h l o.first o.links) w.memory w.pool w.table w.next w.entries o.writes p ∙ ap (λ ls. laid_so_far h.before h.bytes ls h.entries l.pairs p) (sym links);
  control = o.control ∙ sym (ap (λ xs. slice_index xs 0) o.writes.spare ∙ index-left o.first o.links 0 (omega (arith, o.first_pages, some-first h.wish)));
  mode = o.mode ∙ mode-left h.wish o.first o.links o.first_pages ∙ sym (ap (λ xs. mode_with h.wish (slice_index xs 1)) o.writes.spare);
  segments_left = segments;
  destination = destination;
  inside = o;
}
  where
    links : links_of h.wish l ≡ o.links
    links = links_are h.wish l.spare o.first o.links o.writes.spare o.first_pages

pub length-entries : (es : List Entry) → length es ≡ starts es + length (pages_of es)
length-entries [] = refl
length-entries (Start p ∷ es) = omega (arith, length-entries es)
length-entries (Move p ∷ es) = omega (arith, length-entries es)

pub starts-append : (es fs : List Entry) → starts (es ++ fs) ≡ starts es + starts fs
starts-append [] fs = omega arith
starts-append (Start p ∷ es) fs = omega (arith, starts-append es fs)
starts-append (Move p ∷ es) fs = starts-append es fs

pub after-append : (o : Option ℕ) (es fs : List Entry) → destination_after o (es ++ fs) ≡ destination_after (destination_after o es) fs
after-append o [] fs = refl
after-append o (Start p ∷ es) fs = after-append (Some p) es fs
after-append o (Move p ∷ es) fs = after-append (Some (suc p)) es fs

-- the request of a link page that comes before entry number n
abbrev pub link_request : ℕ → List Request
link_request n = cond (eqb (n % 511) 0) (None ∷ []) []

-- one entry more is its requests more
requests-more : (wish : Wish) (es : List Entry) (e : Entry) → requests wish (es ++ e ∷ []) ≡ requests wish es ++ (link_request (length es) ++ own_request e)
requests-more wish es e =
    let first : List Request = replicate (first_count wish) None in
    ap (λ rs. first ++ rs) (requests-append 0 es (e ∷ []) ∙ ap (λ n. requests_from 0 es ++ requests_from n (e ∷ [])) zero-more ∙ ap (λ rs. requests_from 0 es ++ (link_request (length es) ++ rs)) (append-nil (own_request e)))
    ∙ sym (append_assoc first (requests_from 0 es) (link_request (length es) ++ own_request e))
  where
    zero-more : 0 + length es ≡ length es
    zero-more = omega arith

pub loaded-more : (D : ℕ → Bool) (wish : Wish) (es : List Entry) (e : Entry) (pool : List ℕ) (l m o : Loading) → loading_after D wish es pool ≡ Some l → serve D (link_request (length es)) l ≡ Some m → serve D (own_request e) m ≡ Some o → loading_after D wish (es ++ e ∷ []) pool ≡ Some o
loaded-more D wish es e pool l m o f g k =
    ap (λ rs. serve D rs (begun pool)) (requests-more wish es e)
    ∙ served-append D (requests wish es) (link_request (length es) ++ own_request e) (begun pool) l f
    ∙ served-append D (link_request (length es)) (own_request e) l m g ∙ k

pub one_served : (D : ℕ → Bool) (r : Request) (l : Loading) (t : ℕ × Loading) → take_page D r l ≡ Some t → serve D (r ∷ []) l ≡ Some (give_page r t)
one_served D r l t g = rw (g, serve) refl

-- no page stands twice among the entries, and each is wanted
pub few_pages : (h : History) (l : Loading) (w : Writer) (o : IsOpen h l w) → length (pages_of h.entries) ≤ length (pages_in h.wanted)
few_pages h l w o = counted_fit (pages_of h.entries) (pages_in h.wanted) o.under_way.counts.spent o.under_way.counts.inside

pub starts_few : (h : History) (w : Writer) → StandsAt h w → starts h.entries ≤ h.segments
starts_few h w s = omega (arith, s.segments_left)

pub pages_kept : (h : History) (w : Writer) (s : StandsAt h w) → KeepsPages h s.loading
pages_kept h w s =
    let k = s.inside.under_way.counts in
    record {
      drawn = k.front;
      ends = k.ends;
      in_use = λ x. omega (arith, k.conserved x, ap (count x) k.ends, count-append x k.front s.loading.left);
      filed = Each-map s.loading.filed (λ p a. (a.0, λ g. a.1 (subst (Has p) (sym k.order) g))) k.files;
      sources = k.homes;
    }
