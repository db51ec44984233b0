-- A load for which all memory is taken, and the first pages that it takes.
use Rattle.std.proofs.Common.{◌≡◌, ℕ, ◌+◌, ◌<◌, ◌≤◌, List, [], ◌∷◌, ◌++◌, length, None, refl, sym, ap, ◌∙◌, subst, arith, append-nil, false}
use Rattle.std.specs.Prelude.{slice_index}
use Rattle.page_memory.specs.Contents.{Contents, at}
use Rattle.page_pool.specs.Pages.{Pages, usable_of}
use Rattle.kx_pages.specs.Lists.{Distinct, count, destinations}
use Rattle.kx_pages.specs.Spans.{Run, AreApart, pages, in_spans}
use Rattle.kx_pages.specs.declared.image.Wish.{Wish}
use Rattle.kx_pages.specs.declared.image.Wish.TheVariants.{Plain, Kept}
use Rattle.kimage_list.specs.Load.{Loading, Entry, begun, give_page, loading_after}
use Rattle.kimage_list.specs.inner.Load.{pages_of, starts}
use Rattle.kimage_list.specs.Laying.{mode_with}
use Rattle.kimage_list.specs.inner.Tables.{Slots}
use Rattle.kimage_list.specs.inner.Drafts.{Renders, CanTake, with_first}
use Rattle.kimage_list.specs.inner.Counted.{UnderWay}
use Rattle.kimage_list.specs.inner.Calls.{IsPrepared, load_begun}
use Rattle.kimage_list.specs.declared.open_list.OpenList.{OpenList}
use Rattle.kx_pages.specs.declared.image.Mode.TheVariants as mode
use Rattle.page_pool.specs.Pages.{is_filed}
use Rattle.kimage_list.specs.inner.Writers.{History, Writer, StandsAt, draft_of, is_wanted, need, pages_in, destination_after}
use Rattle.kimage_list.proofs.Lists.{nil_cons}
use Rattle.kimage_list.proofs.Parts.{served-append}
use Rattle.kimage_list.proofs.Opening.{opening_reaches}
use Rattle.kimage_list.specs.inner.Beginning.{IsFresh, AreHeld}
use Rattle.kimage_list.proofs.Going.{first_is_there, opens_under_way}
use Rattle.kimage_list.proofs.Spanned.{length-pages_in, has-pages_in}
use Rattle.kx_pages.proofs.Counting.{count-from_Distinct, count-append}
use Rattle.kx_pages.specs.Needs.{first_count, need_of}
use Rattle.kimage_list.proofs.Standings.{some-first, stands_at, one_served}

-- the first page that a load takes
pub record First (h : History) (l : Loading) (first : List ℕ) : Type 0 where
  pub page : ℕ × Loading
  pub can : CanTake (draft_of h l first []) None page
  pub under_way : UnderWay h.pool (pages_in h.wanted) (need h) (with_first (draft_of h l first []) page)

pub first_page : (h : History) (l : Loading) (first : List ℕ) → UnderWay h.pool (pages_in h.wanted) (need h) (draft_of h l first []) → length first < first_count h.wish → First h l first
first_page h l first u few =
    let size : length l.spare ≡ length first = ap length u.spare ∙ ap length (append-nil first) in
    let p = first_is_there h.pool (pages_in h.wanted) (need h) (draft_of h l first []) u refl (omega (arith, size, few, length-pages_in h.wanted)) in
    record { page = p.0; can = p.1; under_way = p.2 }

-- no page is loaded where there is no entry
pub no_pairs : (ps : List (ℕ × ℕ)) (es : List Entry) → destinations ps ≡ pages_of es → es ≡ [] → ps ≡ []
no_pairs [] es o e = refl
no_pairs (p ∷ ps) es o e = absurd (nil_cons (o ∙ ap pages_of e))

module _ (h : History) (list : OpenList) (n : ℕ) (asked : Wish) (k : IsPrepared h list n asked) where
  pub control_page : First h (begun h.pool) []
  control_page = first_page h (begun h.pool) [] k.under_way (some-first h.wish)

  nothing_after : None ≡ destination_after None h.entries
  nothing_after = ap (destination_after None) (sym k.nothing)

  none_started : n + starts h.entries ≡ h.segments
  none_started = let z : starts h.entries ≡ 0 = ap starts k.nothing in omega (arith, z, k.segments)

  pub plain_begun : asked ≡ Plain → (v : Writer) → Renders (with_first (draft_of h (begun h.pool) [] []) control_page.page) [] v.memory v.pool v.table v.next v.entries
      → v.control ≡ control_page.page.0 → v.mode ≡ mode.Plain → v.segments_left ≡ n → v.destination ≡ None → StandsAt h v
  plain_begun e v w control mode segments destination =
      let wish : h.wish ≡ Plain = sym k.wish ∙ e in
      stands_at h (give_page None control_page.page) v
      (ap (λ x. loading_after (is_wanted h) x h.entries h.pool) wish ∙ ap (λ es. loading_after (is_wanted h) Plain es h.pool) k.nothing ∙ one_served (is_wanted h) None (begun h.pool) control_page.page control_page.can.gives)
      (record {
        first = control_page.page.0 ∷ [];
        links = [];
        writes = w;
        under_way = control_page.under_way;
        steady = omega arith;
        head = tt;
        first_pages = ap first_count (sym wish);
        control = control;
        mode = mode ∙ ap (λ x. mode_with x 0) (sym wish) ∙ plain_mode wish;
        apart = k.apart;
        some = k.some;
      })
      (ap (λ m. m + starts h.entries) segments ∙ none_started)
      (destination ∙ nothing_after)
    where
      plain_mode : h.wish ≡ Plain → mode_with h.wish 0 ≡ mode_with h.wish (slice_index (control_page.page.0 ∷ []) 1)
      plain_mode wish = ap (λ x. mode_with x 0) wish ∙ ap (λ x. mode_with x (slice_index (control_page.page.0 ∷ []) 1)) (sym wish)

  pub swap_page : asked ≡ Kept → First h (give_page None control_page.page) (control_page.page.0 ∷ [])
  swap_page e = first_page h (give_page None control_page.page) (control_page.page.0 ∷ []) control_page.under_way (let two : first_count h.wish ≡ 2 = ap first_count (sym k.wish ∙ e) in omega (arith, two))

  pub kept_begun : (e : asked ≡ Kept) (v : Writer) → Renders (with_first (draft_of h (give_page None control_page.page) (control_page.page.0 ∷ []) []) (swap_page e).page) [] v.memory v.pool v.table v.next v.entries
      → v.control ≡ control_page.page.0 → v.mode ≡ mode.Kept (swap_page e).page.0 → v.segments_left ≡ n → v.destination ≡ None → StandsAt h v
  kept_begun e v w control mode segments destination =
      let wish : h.wish ≡ Kept = sym k.wish ∙ e in
      let t = (swap_page e).page in
      stands_at h (give_page None t) v
      (ap (λ x. loading_after (is_wanted h) x h.entries h.pool) wish ∙ ap (λ es. loading_after (is_wanted h) Kept es h.pool) k.nothing
      ∙ served-append (is_wanted h) (None ∷ []) (None ∷ []) (begun h.pool) (give_page None control_page.page) (one_served (is_wanted h) None (begun h.pool) control_page.page control_page.can.gives)
      ∙ one_served (is_wanted h) None (give_page None control_page.page) t (swap_page e).can.gives)
      (record {
        first = control_page.page.0 ∷ (t.0 ∷ []);
        links = [];
        writes = w;
        under_way = (swap_page e).under_way;
        steady = omega arith;
        head = tt;
        first_pages = ap first_count (sym wish);
        control = control;
        mode = mode ∙ ap (λ x. mode_with x t.0) (sym wish);
        apart = k.apart;
        some = k.some;
      })
      (ap (λ m. m + starts h.entries) segments ∙ none_started)
      (destination ∙ nothing_after)

-- a load for which all memory is taken
pub preparation_begins : (M : Contents) (pool : Pages) (wanted : List Run) (segments : ℕ) (wish : Wish) (memory : Contents) (table : Slots) (n : ℕ) (list : OpenList) → n ≡ need_of wish segments (pages wanted) → n ≤ length (usable_of pool)
    → ((q : ℕ) → at memory q ≡ at M q) → Distinct (pool.drawn ++ usable_of pool) → ((p : ℕ) → is_filed pool p ≡ false) → IsFresh wanted table → AreApart 0 wanted → AreHeld n (usable_of pool) memory → 1 ≤ segments
    → list ≡ record { memory = memory; pool = pool; table = table; next = 0; entries = 0; head = 0 } → IsPrepared (load_begun (at M) (usable_of pool) wanted segments wish) list segments wish
preparation_begins M pool wanted segments wish memory table n list size enough same once unfiled fresh apart held some is =
    let need = need_of wish segments (pages wanted) in
    let fits : need_of wish segments (pages wanted) ≤ length (usable_of pool) = omega (arith, size, enough) in
    let single : (x : ℕ) → count x (usable_of pool) ≤ 1 = λ x. omega (arith, count-from_Distinct x (pool.drawn ++ usable_of pool) once, count-append x pool.drawn (usable_of pool)) in
    let o = opens_under_way.0 (at M) (in_spans wanted) (λ p. None) (need_of wish segments (pages wanted)) (usable_of pool) (pages_in wanted) single (has-pages_in wanted) fits in
    subst (λ l. IsPrepared (load_begun (at M) (usable_of pool) wanted segments wish) l segments wish) (sym is) (record {
      nothing = refl;
      segments = refl;
      wish = refl;
      writes = opening_reaches (at M) (in_spans wanted) (λ p. None) (need_of wish segments (pages wanted)) memory pool table fits same once unfiled fresh.each (subst (λ m. AreHeld m (usable_of pool) memory) size held);
      under_way = o.0;
      apart = apart;
      some = some;
    })
