-- The pages that are awaited, and the writer after a source entry.
use Rattle.std.proofs.Common.{◌≡◌, ℕ, suc, ◌+◌, ◌<◌, ◌≤◌, ◌^◌, List, [], ◌∷◌, ◌++◌, length, Option, Some, None, refl, sym, ap, ◌∙◌, subst, ⊎_elim, inl, inr, arith, length-append, true, false, cond}
use Rattle.std.specs.Prelude.{◌≢◌, ◌⊎◌, ◌↔◌, eqb, is_some, unwrap_or}
use Rattle.std.proofs.lemmas.Bool.{cases_lt, false≢true}
use Rattle.std.proofs.lemmas.Bool.Decides.{eqb_tells}
use Rattle.std.proofs.lemmas.Option.{none-some}
use Rattle.kx_pages.specs.Bytes.{page_of, Wants}
use Rattle.page_memory.specs.Contents.{at}
use Rattle.kimage_list.specs.declared.table.PageSource.{PageSource}
use Rattle.kx_pages.specs.Lists.{Has, count, destinations}
use Rattle.kimage_list.specs.Load.{Loading, Move, requests, give_page, loading_after, source_of}
use Rattle.kimage_list.specs.inner.Load.{pages_of, starts}
use Rattle.kimage_list.specs.Laying.{source_pages}
use Rattle.kimage_list.specs.inner.Laying.{Holds}
use Rattle.kimage_list.specs.inner.Tables.{slot, source_in}
use Rattle.kimage_list.specs.inner.Drafts.{Renders, CanTake, IsSteady, IsNext, with_move, HeadIs}
use Rattle.kimage_list.specs.inner.Counted.{UnderWay}
use Rattle.kimage_list.specs.inner.Writers.{History, Writer, StandsAt, IsOpen, IsAwaited, draft_of, is_wanted, need, pages_in, with_bytes}
use Rattle.kimage_list.proofs.Lists.{eqb-self}
use Rattle.kimage_list.proofs.Takes.{no_destination}
use Rattle.kimage_list.proofs.Counting.{counted_fit}
use Rattle.kimage_list.proofs.Enough.{has_of_count, once_more}
use Rattle.kimage_list.proofs.Going.{page_is_there}
use Rattle.kimage_list.proofs.Spanned.{has-pages_in, spans-low}
use Rattle.kx_pages.proofs.Counting.{count-from_Has}
use Rattle.kimage_list.proofs.Standings.{stands_at, length-entries, starts-append, after-append, loaded-more, one_served}
use Rattle.kimage_list.proofs.MakingRoom.{Roomy, need_is, make_room}

count-zero : (x : ℕ) (xs : List ℕ) → (Has x xs → ⊥) → count x xs ≡ 0
count-zero x xs n = ⊎_elim (λ z. omega (arith, z)) (λ z. absurd (n (has_of_count x xs (omega (arith, z))))) (cases_lt (count x xs) 1)

-- a page that is awaited is wanted and has no entry
pub record Waits (h : History) (d : ℕ) : Type 0 where
  pub wanted : is_wanted h d ≡ true
  pub new : count d (pages_of h.entries) ≡ 0
  pub low : d < 2 ^ 34

pub awaited_waits : (h : History) (w : Writer) (s : StandsAt h w) (d : ℕ) → IsAwaited w d → Waits h d
awaited_waits h w s d a =
    let o = s.inside in
    let t = o.writes.tracks in
    let wanted : is_wanted h d ≡ true = t.wanted d ∙ ap is_some a in
    let none : source_of d s.loading.pairs ≡ None = sym (t.loaded d) ∙ ap source_in a in
    record {
      wanted = wanted;
      new = count-zero d (pages_of h.entries) (λ g. no_destination d s.loading.pairs none (subst (Has d) (sym o.writes.order) g));
      low = spans-low 0 h.wanted d o.apart wanted;
    }

-- the load that is given these bytes of page d
abbrev pub given_bytes : History → ℕ → List ℕ → History
given_bytes h d b = record h { bytes = with_bytes h.bytes d b }

sources_same : (W : Wants) (d : ℕ) (b : List ℕ) (ps : List (ℕ × ℕ)) → count d (destinations ps) ≡ 0 → source_pages (with_bytes W d b) ps ≡ source_pages W ps
sources_same W d b [] z = refl
sources_same W d b (q ∷ ps) z = go (eqb_tells q.0 d) (sources_same W d b ps)
  where
    go : ((eqb q.0 d ≡ true) × (q.0 ≡ d)) ⊎ ((eqb q.0 d ≡ false) × (q.0 ≢ d)) → (count d (destinations ps) ≡ 0 → source_pages (with_bytes W d b) ps ≡ source_pages W ps) → source_pages (with_bytes W d b) (q ∷ ps) ≡ source_pages W (q ∷ ps)
    go (inl t) ih =
        let m : count d (destinations (q ∷ ps)) ≡ 1 + count d (destinations ps) = ap (λ b. cond b 1 0 + count d (destinations ps)) t.0 in
        absurd (omega (arith, m, z))
    go (inr t) ih =
        let m : count d (destinations (q ∷ ps)) ≡ 0 + count d (destinations ps) = ap (λ b. cond b 1 0 + count d (destinations ps)) t.0 in
        ap (λ o. (q.1, unwrap_or o []) ∷ source_pages (with_bytes W d b) ps) (ap (λ c. cond c (Some b) (W q.0)) t.0)
        ∙ ap (λ ys. (q.1, unwrap_or (W q.0) []) ∷ ys) (ih (omega (arith, m, z)))

pub rebytes : (h : History) (l : Loading) (w : Writer) (d : ℕ) (b : List ℕ) → count d (pages_of h.entries) ≡ 0 → IsOpen h l w → IsOpen (given_bytes h d b) l w
rebytes h l w d b z o = record {
  first = o.first;
  links = o.links;
  writes = record {
    tracks = record { left = o.writes.tracks.left; filed = o.writes.tracks.filed; wanted = o.writes.tracks.wanted; loaded = o.writes.tracks.loaded; once = o.writes.tracks.once };
    order = o.writes.order;
    spare = o.writes.spare;
    tight = o.writes.tight;
    homes = o.writes.homes;
    once = o.writes.once;
    within = o.writes.within;
    held = o.writes.held;
    below = o.writes.below;
    list = o.writes.list;
    loaded = subst (Holds (at w.memory)) (sym (sources_same h.bytes d b l.pairs (ap (count d) o.writes.order ∙ z))) o.writes.loaded;
    others = o.writes.others;
    places = o.writes.places;
    place = o.writes.place;
    many = o.writes.many;
  };
  under_way = record {
    counts = record {
      once = o.under_way.counts.once;
      conserved = o.under_way.counts.conserved;
      homes = o.under_way.counts.homes;
      order = o.under_way.counts.order;
      files = o.under_way.counts.files;
      sizes = o.under_way.counts.sizes;
      front = o.under_way.counts.front;
      ends = o.under_way.counts.ends;
      free = o.under_way.counts.free;
      wanted = o.under_way.counts.wanted;
      inside = o.under_way.counts.inside;
      spent = o.under_way.counts.spent;
    };
    enough = o.under_way.enough;
    room = o.under_way.room;
    spare = o.under_way.spare;
    within = o.under_way.within;
  };
  steady = o.steady;
  head = o.head;
  first_pages = o.first_pages;
  control = o.control;
  mode = o.mode;
  apart = o.apart;
  some = o.some;
}

-- room for the entry of an awaited page, and a page for it
pub record Ready (h : History) (l : Loading) (first links : List ℕ) (d : ℕ) : Type 0 where
  pub room : Roomy h l first links
  pub page : ℕ × Loading
  pub can : CanTake (draft_of h room.then first room.more) (Some d) page
  pub under_way : UnderWay h.pool (pages_in h.wanted) (need h) (with_move (draft_of h room.then first room.more) d page)

pub source_ready : (h : History) (l : Loading) (w : Writer) (o : IsOpen h l w) → starts h.entries ≤ h.segments → (d : ℕ) → Waits h d → Ready h l o.first o.links d
source_ready h l w o starts_few d a =
    let es = h.entries in
    let all = pages_in h.wanted in
    let there : Has d (pages_in h.wanted) = has-pages_in h.wanted d a.wanted in
    let more = counted_fit (d ∷ pages_of h.entries) (pages_in h.wanted) (once_more d (pages_of h.entries) a.new o.under_way.counts.spent) (there, o.under_way.counts.inside) in
    let few : length h.entries < h.segments + length (pages_in h.wanted) = omega (arith, length-entries h.entries, more, starts_few) in
    let r = make_room h l w o few in
    let n = need_is h o.first o.first_pages in
    let size : length r.then.spare ≡ length o.first + length r.more = ap length r.under_way.spare ∙ length-append o.first r.more in
    let p = page_is_there h.pool (pages_in h.wanted) (need h) d (draft_of h r.then o.first r.more) r.under_way r.has_room there a.new (omega (arith, n, size, r.bound, few)) in
    record { room = r; page = p.0; can = p.1; under_way = p.2 }

pub source_added : (h : History) (l : Loading) (w v : Writer) (o : IsOpen h l w) (d : ℕ) (r : Ready h l o.first o.links d) → loading_after (is_wanted h) h.wish h.entries h.pool ≡ Some l → w.segments_left + starts h.entries ≡ h.segments
    → Renders (with_move (draft_of h r.room.then o.first r.room.more) d r.page) [] v.memory v.pool v.table v.next v.entries → IsSteady (with_move (draft_of h r.room.then o.first r.room.more) d r.page) → HeadIs r.room.more v.head
    → v.control ≡ w.control → v.mode ≡ w.mode → v.segments_left ≡ w.segments_left → v.destination ≡ Some (d + 1) → StandsAt (record h { entries = h.entries ++ Move d ∷ [] }) v
source_added h l w v o d r requests segments writes steady head control mode same destination =
    let next : d + 1 ≡ suc d = omega arith in
    stands_at (record h { entries = h.entries ++ Move d ∷ [] }) (give_page (Some d) r.page) v
    (loaded-more (is_wanted h) h.wish h.entries (Move d) h.pool l r.room.then (give_page (Some d) r.page) requests r.room.served (one_served (is_wanted h) (Some d) r.room.then r.page r.can.gives))
    (record {
      first = o.first;
      links = r.room.more;
      writes = writes;
      under_way = r.under_way;
      steady = steady;
      head = head;
      first_pages = o.first_pages;
      control = control ∙ o.control;
      mode = mode ∙ o.mode;
      apart = o.apart;
      some = o.some;
    })
    (omega (arith, starts-append h.entries (Move d ∷ []), segments, same))
    (destination ∙ ap (λ n. Some n) next ∙ sym (after-append None h.entries (Move d ∷ [])))

-- a page that has a source is a destination
pub has_destination : (p s : ℕ) (ps : List (ℕ × ℕ)) → source_of p ps ≡ Some s → Has p (destinations ps)
has_destination p s [] e = absurd (none-some s e)
has_destination p s (q ∷ ps) e = go (eqb_tells q.0 p) (has_destination p s ps)
  where
    go : ((eqb q.0 p ≡ true) × (q.0 ≡ p)) ⊎ ((eqb q.0 p ≡ false) × (q.0 ≢ p)) → (source_of p ps ≡ Some s → Has p (destinations ps)) → Has p (destinations (q ∷ ps))
    go (inl t) ih = inl t.1
    go (inr t) ih = inr (ih (ap (λ b. cond b (Some q.1) (source_of p ps)) (sym t.0) ∙ e))

-- the page is the next one to load
pub is_next : (h : History) (l : Loading) (first links : List ℕ) (d : ℕ) (bytes : List ℕ) → Waits h d → IsNext (draft_of (given_bytes h d (page_of bytes)) l first links) d bytes
is_next h l first links d bytes a = record { wanted = a.wanted; new = a.new; same = ap (λ b. cond b (Some (page_of bytes)) (h.bytes d)) (eqb-self d) }

waiting : (h : History) (w : Writer) (s : StandsAt h w) (d : ℕ) → is_wanted h d ≡ true → (Has d (pages_of h.entries) → ⊥) → IsAwaited w d
waiting h w s d t n = go (slot w.table d) refl
  where
    go : (o : Option (Option PageSource)) → slot w.table d ≡ o → slot w.table d ≡ Some None
    go None e = absurd (false≢true (sym (s.inside.writes.tracks.wanted d ∙ ap is_some e) ∙ t))
    go (Some None) e = e
    go (Some (Some x)) e = absurd (n (subst (Has d) s.inside.writes.order (has_destination d x.source s.loading.pairs (sym (s.inside.writes.tracks.loaded d) ∙ ap source_in e))))

pub awaited_exactly : (h : History) (w : Writer) → StandsAt h w → (d : ℕ) → IsAwaited w d ↔ ((is_wanted h d ≡ true) × (Has d (pages_of h.entries) → ⊥))
awaited_exactly h w s d = (
  λ a. let t = awaited_waits h w s d a in (t.wanted, λ g. let one = count-from_Has d (pages_of h.entries) g in omega (arith, one, t.new)),
  λ b. waiting h w s d b.0 b.1,
)
