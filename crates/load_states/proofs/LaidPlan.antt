-- The entries of segments.
use Rattle.std.proofs.Common.{◌≡◌, ℕ, zero, suc, ◌+◌, ◌/◌, ◌<◌, ◌≤◌, List, [], ◌∷◌, ◌++◌, length, Some, refl, sym, ap, ◌∙◌, subst, arith, true}
use Rattle.std.specs.List.{range_with_len, AllByRecursion}
use Rattle.kx_pages.specs.Lists.{Has, count}
use Rattle.kx_pages.specs.declared.image.Wish.TheVariants.{Plain, Kept}
use Rattle.segments.specs.Values.{SegmentValue, is_destination, want, page_count, pages_of_segment, pages}
use Rattle.segments.specs.inner.Shape.{AreSegments, IsPlaced}
use Rattle.segments.proofs.Laws.{is_destination-from_Has, want-from_Has, Has-from_want, Distinct-pages}
use Rattle.kimage_list.specs.Load.{Entry, Start, Move, page_entries}
use Rattle.kimage_list.specs.inner.Load.{pages_of}
use Rattle.load_states.specs.Loads.{entries_of}
use Rattle.load_states.specs.inner.Loads.{LoadIsAccepted}
use Rattle.load_states.proofs.LaidAccepted.{Follows, Begins, Plan, plain_accepted, kept_accepted}
use Rattle.kx_pages.proofs.Lists.{Each-from_Has}
use Rattle.kx_pages.proofs.Counting.{count-from_Distinct}

pub pages_of-append : (es fs : List Entry) → pages_of (es ++ fs) ≡ pages_of es ++ pages_of fs
pages_of-append [] fs = refl
pages_of-append (Start p ∷ es) fs = pages_of-append es fs
pages_of-append (Move p ∷ es) fs = ap (λ ys. p ∷ ys) (pages_of-append es fs)

pub pages_of-range : (n p : ℕ) → pages_of (page_entries p n) ≡ range_with_len p n
pages_of-range zero p = refl
pages_of-range (suc n) p = let e : suc p ≡ p + 1 = omega arith in ap (λ ys. p ∷ ys) (pages_of-range n (suc p) ∙ ap (λ q. range_with_len q n) e)

-- the pages of the entries are those of the segments
pub pages_of-entries_of : (ss : List SegmentValue) → pages_of (entries_of ss) ≡ pages ss
pages_of-entries_of [] = refl
pages_of-entries_of (s ∷ ss) =
    pages_of-append (page_entries (s.mem / 4096) (page_count s)) (entries_of ss)
    ∙ ap (λ ys. ys ++ pages_of (entries_of ss)) (pages_of-range (page_count s) (s.mem / 4096)) ∙ ap (λ ys. pages_of_segment s ++ ys) (pages_of-entries_of ss)

follows-pages : (n p : ℕ) (es : List Entry) → ((t : ℕ) → Follows t es) → Follows p (page_entries p n ++ es)
follows-pages zero p es h = h p
follows-pages (suc n) p es h = (refl, follows-pages n (suc p) es h)

follows-entries : (ss : List SegmentValue) (t : ℕ) → AllByRecursion IsPlaced ss → Follows t (entries_of ss)
follows-entries [] t k = tt
follows-entries (s ∷ ss) t k = (
  omega (arith, k.0.starts, k.0.below),
  follows-pages (page_count s) (s.mem / 4096) (entries_of ss) (λ u. follows-entries ss u k.1),
)

begins-entries : (ss : List SegmentValue) → 0 < length ss → Begins (entries_of ss)
begins-entries [] n = absurd (omega (arith, n))
begins-entries (s ∷ ss) n = tt

-- segments are a plan of a load
pub plan_of : (ss : List SegmentValue) → AreSegments ss → Plan (is_destination ss) (want ss) (entries_of ss)
plan_of ss k =
    let same = pages_of-entries_of ss in
    let P : ℕ → Type 0 = λ p. (is_destination ss p ≡ true) × (bytes : List ℕ) × (want ss p ≡ Some bytes) in
    record {
      follows = follows-entries ss 0 k.placed;
      begins = begins-entries ss k.some;
      once = λ x. subst (λ ys. count x ys ≤ 1) (sym same) (count-from_Distinct x (pages ss) (Distinct-pages ss k.placed k.apart));
      wanted = subst (AllByRecursion P) (sym same) (Each-from_Has P (pages ss) (λ p h. let w = want-from_Has ss p k.placed h in (is_destination-from_Has ss p k.placed h, w.0, w.1)));
      only = λ p bytes e. subst (Has p) (sym same) (Has-from_want ss p bytes k.placed e);
    }

pub load_is_accepted : LoadIsAccepted
load_is_accepted M Plain ss pool l k once below e = plain_accepted M (is_destination ss) (want ss) (entries_of ss) pool l (plan_of ss k) once below e
load_is_accepted M Kept ss pool l k once below e = kept_accepted M (is_destination ss) (want ss) (entries_of ss) pool l (plan_of ss k) once below e
