-- A draft stays under way.
use Rattle.std.proofs.Common.{◌≡◌, ℕ, ◌+◌, ◌*◌, ◌≤◌, List, [], ◌∷◌, ◌++◌, length, Option, Some, None, refl, sym, ap, ◌∙◌, subst, inl, inr, arith, drop, length-append, append_assoc, append-nil, Bool, true, false}
use Rattle.std.specs.List.{AllByRecursion}
use Rattle.std.specs.Prelude.{◌≢◌, ◌⊎◌, ◌/◌, ◌%◌, eqb}
use Rattle.std.proofs.Math.Seq.{drop-append_seam}
use Rattle.std.proofs.lemmas.Bool.Decides.{eqb_tells}
use Rattle.kimage_list.proofs.Counting.{Full, full_on, none_filed}
use Rattle.kimage_list.proofs.Enough.{full_of, always_takes, wished-inside, wished-once}
use Rattle.kimage_list.proofs.Entering.{pages_of-start, pages_of-move}
use Rattle.kimage_list.proofs.Takes.{wishes_among, others, taken_took}
use Rattle.kimage_list.specs.inner.Counted.{Counts, Allowed, UnderWay}
use Rattle.kimage_list.specs.inner.Laws.{RoomIsThere, PageIsThere, StartIsThere, AllDrawn, OpensUnderWay}
use Rattle.kimage_list.specs.inner.Drafts.{initial, with_first, Draft, CanTake, with_link, with_move, Room, RoomBy, HasRoom}
use Rattle.kimage_list.specs.Load.{Loading, Start, Move, take_page, give_page}
use Rattle.kimage_list.specs.inner.Load.{pages_of}
use Rattle.kx_pages.specs.Lists.{Has, count}
use Rattle.kx_pages.specs.Bytes.{Mem, Wants}

-- the counts after a request
step_counts : (pool all : List ℕ) (need : ℕ) (d e : Draft) (r : Option ℕ) (t : ℕ × Loading) → Counts pool all d → take_page d.wanted r d.loading ≡ Some t → e.loading ≡ give_page r t → e.wanted ≡ d.wanted
    → pages_of e.entries ≡ pages_of d.entries ++ wishes_among (r ∷ []) → Allowed r all (pages_of d.entries) (length d.loading.spare) need → Counts pool all e
step_counts pool all need d e r t k g l w es a =
    let spent = pages_of d.entries in
    let f = full_on d.wanted pool spent (length d.loading.spare) r d.loading t k.once (full_of pool all d k) g in
    let f1 = subst (λ D. Full D pool (spent ++ wishes_among (r ∷ [])) (length d.loading.spare + others (r ∷ [])) (give_page r t)) (sym w) f in
    let f2 = subst (λ x. Full e.wanted pool (spent ++ wishes_among (r ∷ [])) (length d.loading.spare + others (r ∷ [])) x) (sym l) f1 in
    let P : List ℕ → Type 0 = λ ys. AllByRecursion (λ p. Has p all) ys in
    let Q : List ℕ → Type 0 = λ ys. (x : ℕ) → count x ys ≤ 1 in
    record {
      once = k.once;
      conserved = f2.sound.conserved;
      homes = f2.sound.homes;
      order = f2.sound.order ∙ sym es;
      files = f2.files;
      sizes = f2.sizes;
      front = f2.ends.0;
      ends = f2.ends.1;
      free = f2.sound.free;
      wanted = λ p h. k.wanted p (ap (λ D. D p) (sym w) ∙ h);
      inside = subst P (sym es) (wished-inside r all spent (length d.loading.spare) need a k.inside);
      spent = subst Q (sym es) (wished-once r all spent (length d.loading.spare) need a k.spent);
    }

pub start_is_there : StartIsThere
start_is_there pool all need p e u room = record {
  counts = record {
    once = u.counts.once;
    conserved = u.counts.conserved;
    homes = u.counts.homes;
    order = u.counts.order ∙ sym (pages_of-start e.entries p);
    files = u.counts.files;
    sizes = u.counts.sizes;
    front = u.counts.front;
    ends = u.counts.ends;
    free = u.counts.free;
    wanted = u.counts.wanted;
    inside = let P : List ℕ → Type 0 = λ ys. AllByRecursion (λ p. Has p all) ys in subst P (sym (pages_of-start e.entries p)) u.counts.inside;
    spent = let Q : List ℕ → Type 0 = λ ys. (x : ℕ) → count x ys ≤ 1 in subst Q (sym (pages_of-start e.entries p)) u.counts.spent;
  };
  enough = u.enough;
  room = u.room;
  spare = u.spare;
  within = omega (arith, room, length-append e.entries (Start p ∷ []));
}

given_spare : (p : ℕ) (d : Draft) (t : ℕ × Loading) → take_page d.wanted (Some p) d.loading ≡ Some t → (pool all : List ℕ) → Counts pool all d → t.1.spare ≡ d.loading.spare
given_spare p d t g pool all k = (taken_took d.wanted (Some p) d.loading t k.homes (λ x. omega (arith, k.conserved x, k.once x)) g).spared

pub page_is_there : PageIsThere
page_is_there pool all need p e u room inside new fits =
    let a : Allowed (Some p) all (pages_of e.entries) (length e.loading.spare) need = (inside, new, fits) in
    let t = always_takes pool all need e (Some p) u.counts u.enough u.room a in (
      t.0,
      t.1,
      record {
        counts = step_counts pool all need e (with_move e p t.0) (Some p) t.0 u.counts t.1.gives refl refl (pages_of-move e.entries p) a;
        enough = u.enough;
        room = u.room;
        spare = given_spare p e t.0 t.1.gives pool all u.counts ∙ u.spare;
        within = omega (arith, room, length-append e.entries (Move p ∷ []));
      },
    )

none_spare : (d : Draft) (t : ℕ × Loading) → take_page d.wanted None d.loading ≡ Some t → (pool all : List ℕ) → Counts pool all d → t.1.spare ≡ d.loading.spare
none_spare d t g pool all k = (taken_took d.wanted None d.loading t k.homes (λ x. omega (arith, k.conserved x, k.once x)) g).spared

pub room_is_there : RoomIsThere
room_is_there pool all segments d u steady more = go (eqb_tells (length d.entries % 511) 0)
  where
    go : ((eqb (length d.entries % 511) 0 ≡ true) × (length d.entries % 511 ≡ 0)) ⊎ ((eqb (length d.entries % 511) 0 ≡ false) × (length d.entries % 511 ≢ 0))
        → (e : Draft) × Room d e × UnderWay pool all (length all + (segments + length all + 510) / 511 + length d.first) e × HasRoom e × (e.entries ≡ d.entries) × (e.first ≡ d.first)
    go (inr n) = (d, (steady, subst (λ b. RoomBy b d d) (sym n.0) refl), u, omega (arith, n.1, u.within, steady), refl, refl)
    go (inl n) =
        let need = length all + (segments + length all + 510) / 511 + length d.first in
        let full : length d.entries ≡ 511 * length d.links = omega (arith, n.1, u.within, steady) in
        let size : length d.loading.spare ≡ length d.first + length d.links = ap length u.spare ∙ length-append d.first d.links in
        let a : length d.loading.spare + 1 + length all ≤ length all + (segments + length all + 510) / 511 + length d.first = omega (arith, size, full, more) in
        let t = always_takes pool all need d None u.counts u.enough u.room a in (
          with_link d t.0,
          (steady, subst (λ b. RoomBy b d (with_link d t.0)) (sym n.0) (t.0, t.1, refl)),
          record {
            counts = step_counts pool all need d (with_link d t.0) None t.0 u.counts t.1.gives refl refl (sym (append-nil (pages_of d.entries))) a;
            enough = u.enough;
            room = u.room;
            spare = ap (λ ys. ys ++ t.0.0 ∷ []) (none_spare d t.0 t.1.gives pool all u.counts ∙ u.spare) ∙ append_assoc d.first d.links (t.0.0 ∷ []);
            within = omega (arith, full, length-append d.links (t.0.0 ∷ []));
          },
          omega (arith, full, length-append d.links (t.0.0 ∷ [])),
          refl,
          refl,
        )

pub all_drawn : AllDrawn
all_drawn pool all need d u loaded many =
    let k = u.counts in
    let none : d.loading.filed ≡ [] = none_filed d.wanted d.loading.pairs d.loading.filed (λ p h. let P : List ℕ → Type 0 = λ ys. Has p ys in subst P (sym k.order) (loaded p h)) k.files in
    let n : need ≡ length k.front = omega (arith, many, ap length none, k.sizes, ap length k.ends, length-append k.front d.loading.left) in
    (none, sym (ap (λ m. drop m pool) n ∙ ap (drop (length k.front)) k.ends ∙ drop-append_seam k.front d.loading.left))

initial_counts : (M : Mem) (D : ℕ → Bool) (W : Wants) (need : ℕ) (pool all : List ℕ) → ((x : ℕ) → count x pool ≤ 1) → ((p : ℕ) → D p ≡ true → Has p all) → Counts pool all (initial M D W need pool)
initial_counts M D W need pool all once wanted = record {
  once = once;
  conserved = λ x. omega arith;
  homes = tt;
  order = refl;
  files = tt;
  sizes = omega arith;
  front = [];
  ends = refl;
  free = tt;
  wanted = wanted;
  inside = tt;
  spent = λ x. omega arith;
}

pub first_is_there : (pool all : List ℕ) (need : ℕ) (d : Draft) → UnderWay pool all need d → d.links ≡ [] → length d.loading.spare + 1 + length all ≤ need → (t : ℕ × Loading) × CanTake d None t × UnderWay pool all need (with_first d t)
first_is_there pool all need d u none a =
    let t = always_takes pool all need d None u.counts u.enough u.room a in (
      t.0,
      t.1,
      record {
        counts = step_counts pool all need d (with_first d t.0) None t.0 u.counts t.1.gives refl refl (sym (append-nil (pages_of d.entries))) a;
        enough = u.enough;
        room = u.room;
        spare = ap (λ ys. ys ++ t.0.0 ∷ []) (none_spare d t.0 t.1.gives pool all u.counts ∙ u.spare ∙ ap (λ ls. d.first ++ ls) none ∙ append-nil d.first)
            ∙ sym (ap (λ ls. (d.first ++ t.0.0 ∷ []) ++ ls) none ∙ append-nil (d.first ++ t.0.0 ∷ []));
        within = u.within;
      },
    )

pub opens_under_way : OpensUnderWay
opens_under_way = (
  λ M D W need pool all once wanted enough. (record { counts = initial_counts M D W need pool all once wanted; enough = enough; room = refl; spare = refl; within = omega arith }, omega arith),
  first_is_there,
)
