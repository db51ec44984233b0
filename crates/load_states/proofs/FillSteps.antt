-- Steps of a load of segments.
use Rattle.std.proofs.Common.{◌≡◌, ℕ, zero, suc, ◌+◌, ◌-◌, ◌/◌, ◌<◌, ◌≤◌, List, [], ◌∷◌, ◌++◌, length, Some, None, refl, sym, ap, ◌∙◌, subst, ⊎_elim, inl, inr, arith, take, append_assoc, append-nil, true, false, cond}
use Rattle.std.specs.Prelude.{◌≢◌, ◌⊎◌, ◌||◌, eqb}
use Rattle.std.specs.List.{slice_get, range_with_len}
use Rattle.std.proofs.lemmas.Bool.Decides.{eqb_tells}
use Rattle.std.proofs.lemmas.List.{take_more, length-take}
use Rattle.std.proofs.lemmas.Option.{slice_get_within, get_or_from_slice_get, none-some}
use Rattle.kx_pages.specs.Lists.{Has, has, count}
use Rattle.kx_pages.specs.Spans.{Run, AreApart, in_spans}
use Rattle.kx_pages.specs.Spans as spans
use Rattle.kx_pages.specs.declared.image.Wish.{Wish}
use Rattle.kx_pages.specs.declared.image.Wish.TheVariants.{Plain, Kept}
use Rattle.page_memory.specs.Contents.{Contents, at}
use Rattle.kx_pages.specs.Bytes.{Mem}
use Rattle.segments.specs.Values.{SegmentValue, is_destination, want, page_count, pages_of_segment, pages, need}
use Rattle.segments.specs.inner.Shape.{AreSegments}
use Rattle.segments.proofs.Laws.{is_destination-from_Has, Has-from_is_destination, Distinct-pages, pages-append}
use Rattle.kimage_list.specs.Load.{Entry, Start, Move, page_entries}
use Rattle.kimage_list.specs.inner.Load.{pages_of, starts}
use Rattle.kimage_list.specs.inner.Writers.{Writer, StandsAt, IsAwaited, with_destination, with_source, with_bytes, destination_after, pages_in}
use Rattle.kimage_list.specs.inner.Calls.{load_begun}
use Rattle.kimage_list.proofs.Counting.{counted_fit}
use Rattle.kimage_list.proofs.Entering.{pages_of-start, pages_of-move}
use Rattle.kimage_list.proofs.Spanned.{length-pages_in, has-pages_in, each-pages_in, pages-once}
use Rattle.kimage_list.proofs.Segmented.{starts-page_entries, after-page_entries, page_entries-more}
use Rattle.kimage_list.proofs.Awaiting.{awaited_exactly}
use Rattle.kimage_list.proofs.Standings.{starts-append, after-append}
use Rattle.load_states.specs.Loads.{entries_of}
use Rattle.load_states.specs.inner.Fillings.{Fills, FillsFrom}
use Rattle.load_states.proofs.LaidPlan.{pages_of-entries_of, pages_of-append, pages_of-range}
use Rattle.kx_pages.proofs.Lists.{Each-from_Has, Has-left, Has-right, Has-either, Has-range, range-Has, Each-map}
use Rattle.kx_pages.proofs.Counting.{count-append, count-from_Has}
use Rattle.kx_laws.proofs.Options.{some_same}
use Rattle.kx_pages.specs.Needs.{need_of}
use Rattle.kx_pages.proofs.Counting.{count-from_Distinct}
use Rattle.kx_laws.proofs.Booleans.{or_false, or_shift, or_true}

has-more : (q p : ℕ) (xs : List ℕ) → has q (xs ++ p ∷ []) ≡ (has q xs || (eqb p q || false))
has-more q p [] = refl
has-more q p (x ∷ xs) = ap (λ b. eqb x q || b) (has-more q p xs) ∙ sym (or_shift (eqb x q) (has q xs) (eqb p q || false))

module _ (M : Mem) (pool : List ℕ) (wish : Wish) (ss : List SegmentValue) (es : List Entry) (w : Writer) (k : Fills M pool wish ss es w) where
  pub goes_to : (p : ℕ) → destination_after None es ≡ Some p → w.destination ≡ Some p
  goes_to p e = k.stands.destination ∙ ap (destination_after None) k.entries ∙ e

  pub page_awaited : (p : ℕ) → is_destination ss p ≡ true → (Has p (pages_of es) → ⊥) → IsAwaited w p
  page_awaited p d n = (awaited_exactly k.load w k.stands p).1 (k.all_pages p ∙ d, λ g. n (subst (Has p) (ap pages_of k.entries) g))

  -- the next page is loaded
  pub page_filled : (p : ℕ) (b : List ℕ) (v : Writer) → want ss p ≡ Some b → StandsAt (with_source k.load p b) v → Fills M pool wish ss (es ++ Move p ∷ []) v
  page_filled p b v wants s = record {
    load = with_source k.load p b;
    stands = s;
    from_memory = k.from_memory;
    from_pool = k.from_pool;
    as_wished = k.as_wished;
    all_segments = k.all_segments;
    all_pages = k.all_pages;
    entries = ap (λ xs. xs ++ Move p ∷ []) k.entries;
    bytes = λ q. here q (eqb_tells q p) ∙ sym (ap (λ c. cond c (want ss q) None) (ap (has q) (pages_of-move es p) ∙ has-more q p (pages_of es)));
  }
    where
      turned : (q : ℕ) → q ≢ p → eqb p q ≡ false
      turned q n = ⊎_elim (λ t. absurd (n (sym t.1))) (λ t. t.0) (eqb_tells p q)

      selves : (q : ℕ) → q ≡ p → eqb p q ≡ true
      selves q e = ⊎_elim (λ t. t.0) (λ t. absurd (t.1 (sym e))) (eqb_tells p q)

      here : (q : ℕ) → ((eqb q p ≡ true) × (q ≡ p)) ⊎ ((eqb q p ≡ false) × (q ≢ p)) → with_bytes k.load.bytes p b q ≡ cond (has q (pages_of es) || (eqb p q || false)) (want ss q) None
      here q (inl t) =
          let now : (has q (pages_of es) || (eqb p q || false)) ≡ true = ap (λ c. has q (pages_of es) || (c || false)) (selves q t.1) ∙ or_true (has q (pages_of es)) in
          ap (λ c. cond c (Some b) (k.load.bytes q)) t.0 ∙ sym wants ∙ ap (want ss) (sym t.1) ∙ sym (ap (λ c. cond c (want ss q) None) now)
      here q (inr t) =
          let now : (has q (pages_of es) || (eqb p q || false)) ≡ has q (pages_of es) = ap (λ c. has q (pages_of es) || (c || false)) (turned q t.1) ∙ or_false (has q (pages_of es)) in
          ap (λ c. cond c (Some b) (k.load.bytes q)) t.0 ∙ k.bytes q ∙ sym (ap (λ c. cond c (want ss q) None) now)

  pub some_left : starts es < length ss → 0 < w.segments_left
  some_left l = omega (arith, k.stands.segments_left, ap starts k.entries, k.all_segments, l)

  -- the next segment is started
  pub start_filled : (p : ℕ) (v : Writer) → StandsAt (with_destination k.load p) v → Fills M pool wish ss (es ++ Start p ∷ []) v
  start_filled p v s = record {
    load = with_destination k.load p;
    stands = s;
    from_memory = k.from_memory;
    from_pool = k.from_pool;
    as_wished = k.as_wished;
    all_segments = k.all_segments;
    all_pages = k.all_pages;
    entries = ap (λ xs. xs ++ Start p ∷ []) k.entries;
    bytes = λ q. k.bytes q ∙ sym (ap (λ xs. cond (has q xs) (want ss q) None) (pages_of-start es p));
  }

pub starts-entries_of : (ss : List SegmentValue) → starts (entries_of ss) ≡ length ss
starts-entries_of [] = refl
starts-entries_of (s ∷ ss) = ap suc (omega (arith, starts-append (page_entries (s.mem / 4096) (page_count s)) (entries_of ss), starts-page_entries (s.mem / 4096) (page_count s), starts-entries_of ss))

pub started_few : (ss : List SegmentValue) (i : ℕ) → i < length ss → starts (entries_of (take i ss)) < length ss
started_few ss i l = omega (arith, starts-entries_of (take i ss), length-take i ss, l)

entries_of-append : (xs ys : List SegmentValue) → entries_of (xs ++ ys) ≡ entries_of xs ++ entries_of ys
entries_of-append [] ys = refl
entries_of-append (s ∷ xs) ys =
    ap (λ es. Start (s.mem / 4096) ∷ page_entries (s.mem / 4096) (page_count s) ++ es) (entries_of-append xs ys)
    ∙ ap (λ es. Start (s.mem / 4096) ∷ es) (sym (append_assoc (page_entries (s.mem / 4096) (page_count s)) (entries_of xs) (entries_of ys)))

split_at : (ss : List SegmentValue) (i : ℕ) (s : SegmentValue) → slice_get ss i ≡ Some s → (rest : List SegmentValue) × (ss ≡ take i ss ++ s ∷ rest)
split_at [] i s e = absurd (none-some s e)
split_at (r ∷ ss) zero s e = (ss, ap (λ x. x ∷ ss) (some_same r s e))
split_at (r ∷ ss) (suc i) s e = let k = split_at ss i s e in (k.0, ap (λ xs. r ∷ xs) k.1)

-- the entries while segment i, which starts at page first, is written up to this page
abbrev pub so_far : List SegmentValue → ℕ → ℕ → ℕ → List Entry
so_far ss i first number = entries_of (take i ss) ++ Start first ∷ page_entries first (number - first)

pub so_far-start : (ss : List SegmentValue) (i first : ℕ) → entries_of (take i ss) ++ Start first ∷ [] ≡ so_far ss i first first
so_far-start ss i first = let z : 0 ≡ first - first = omega arith in ap (λ n. entries_of (take i ss) ++ Start first ∷ page_entries first n) z

pub so_far-more : (ss : List SegmentValue) (i first number : ℕ) → first ≤ number → so_far ss i first number ++ Move number ∷ [] ≡ so_far ss i first (number + 1)
so_far-more ss i first number l =
    let n = number - first in
    let next : number + 1 - first ≡ number - first + 1 = omega (arith, l) in
    let same : number ≡ first + (number - first) = omega (arith, l) in
    append_assoc (entries_of (take i ss)) (Start first ∷ page_entries first (number - first)) (Move number ∷ [])
    ∙ ap (λ p. entries_of (take i ss) ++ Start first ∷ (page_entries first (number - first) ++ Move p ∷ [])) same
    ∙ ap (λ es. entries_of (take i ss) ++ Start first ∷ es) (sym (page_entries-more first (number - first)))
    ∙ ap (λ m. entries_of (take i ss) ++ Start first ∷ page_entries first m) (sym next)

pub so_far-goes : (ss : List SegmentValue) (i first number : ℕ) → first ≤ number → destination_after None (so_far ss i first number) ≡ Some number
so_far-goes ss i first number l =
    let same : first + (number - first) ≡ number = omega (arith, l) in
    after-append None (entries_of (take i ss)) (Start first ∷ page_entries first (number - first)) ∙ after-page_entries first (number - first) ∙ ap (λ p. Some p) same

module _ (ss : List SegmentValue) (i : ℕ) (s : SegmentValue) (e : slice_get ss i ≡ Some s) where
  pub so_far-end : so_far ss i (s.mem / 4096) (s.mem / 4096 + page_count s) ≡ entries_of (take (i + 1) ss)
  so_far-end =
      let first = s.mem / 4096 in
      let all : s.mem / 4096 + page_count s - s.mem / 4096 ≡ page_count s = omega arith in
      let next : take (i + 1) ss ≡ take i ss ++ s ∷ [] = take_more ss i s (slice_get_within ss i s e) ∙ ap (λ x. take i ss ++ x ∷ []) (get_or_from_slice_get ss i s s e) in
      ap (λ n. entries_of (take i ss) ++ Start (s.mem / 4096) ∷ page_entries (s.mem / 4096) n) all
      ∙ ap (λ es. entries_of (take i ss) ++ Start (s.mem / 4096) ∷ es) (sym (append-nil (page_entries (s.mem / 4096) (page_count s))))
      ∙ sym (entries_of-append (take i ss) (s ∷ [])) ∙ ap entries_of (sym next)

  whole : (rest : List SegmentValue) × (ss ≡ take i ss ++ s ∷ rest)
  whole = split_at ss i s e

  in_pages : (number : ℕ) → Has number (pages_of_segment s) → Has number (pages ss)
  in_pages number h = subst (λ xs. Has number (pages xs)) (sym whole.1) (subst (Has number) (sym (pages-append (take i ss) (s ∷ whole.0))) (Has-right number (pages (take i ss)) (pages (s ∷ whole.0)) (Has-left number (pages_of_segment s) (pages whole.0) h)))

  inside : (number : ℕ) → s.mem / 4096 ≤ number → number < s.mem / 4096 + page_count s → Has number (pages_of_segment s)
  inside number a b = range-Has (page_count s) (s.mem / 4096) number a b

  pub is_page : AreSegments ss → (number : ℕ) → s.mem / 4096 ≤ number → number < s.mem / 4096 + page_count s → is_destination ss number ≡ true
  is_page k number a b = is_destination-from_Has ss number k.placed (in_pages number (inside number a b))

  pub not_yet : AreSegments ss → (number : ℕ) → s.mem / 4096 ≤ number → number < s.mem / 4096 + page_count s → Has number (pages_of (so_far ss i (s.mem / 4096) number)) → ⊥
  not_yet k number a b h =
      let first = s.mem / 4096 in
      let n = number - s.mem / 4096 in
      let same : pages_of (so_far ss i (s.mem / 4096) number) ≡ pages (take i ss) ++ range_with_len (s.mem / 4096) (number - s.mem / 4096) =
      pages_of-append (entries_of (take i ss)) (Start (s.mem / 4096) ∷ page_entries (s.mem / 4096) (number - s.mem / 4096)) ∙ ap (λ xs. xs ++ pages_of (page_entries (s.mem / 4096) (number - s.mem / 4096))) (pages_of-entries_of (take i ss))
      ∙ ap (λ xs. pages (take i ss) ++ xs) (pages_of-range (number - s.mem / 4096) (s.mem / 4096)) in
      ⊎_elim
      (λ g.
      let one = count-from_Has number (pages (take i ss)) g in
      let two = count-from_Has number (pages_of_segment s) (inside number a b) in
      let once = count-from_Distinct number (pages ss) (Distinct-pages ss k.placed k.apart) in
      let parts : count number (pages ss) ≡ count number (pages (take i ss)) + (count number (pages_of_segment s) + count number (pages whole.0)) =
      ap (λ xs. count number (pages xs)) whole.1 ∙ ap (count number) (pages-append (take i ss) (s ∷ whole.0)) ∙ count-append number (pages (take i ss)) (pages (s ∷ whole.0)) ∙ ap (λ m. count number (pages (take i ss)) + m) (count-append number (pages_of_segment s) (pages whole.0)) in
      omega (arith, one, two, once, parts))
      (λ g. let r = Has-range (number - s.mem / 4096) (s.mem / 4096) number g in omega (arith, r.1, a))
      (Has-either number (pages (take i ss)) (range_with_len (s.mem / 4096) (number - s.mem / 4096)) (subst (Has number) same h))

-- the spans of the segments' pages have as many pages
pub span_pages : (ss : List SegmentValue) (wanted : List Run) → AreSegments ss → AreApart 0 wanted → ((q : ℕ) → in_spans wanted q ≡ is_destination ss q) → spans.pages wanted ≡ length (pages ss)
span_pages ss wanted k apart same =
    let few = counted_fit (pages_in wanted) (pages ss) (λ x. pages-once 0 wanted x apart) (Each-map (pages_in wanted) (λ x t. Has-from_is_destination ss x k.placed (sym (same x) ∙ t)) (each-pages_in wanted)) in
    let many = counted_fit (pages ss) (pages_in wanted) (λ x. count-from_Distinct x (pages ss) (Distinct-pages ss k.placed k.apart)) (Each-from_Has (λ x. Has x (pages_in wanted)) (pages ss) (λ x h. has-pages_in wanted x (same x ∙ is_destination-from_Has ss x k.placed h))) in
    omega (arith, few, many, length-pages_in wanted)

pub need_same : (wish : Wish) (ss : List SegmentValue) (n m : ℕ) → n ≡ length ss → m ≡ length (pages ss) → need_of wish n m ≡ need wish ss
need_same wish ss n m f e = ap (λ x. need_of wish x m) f ∙ ap (need_of wish (length ss)) e ∙ either wish
  where
    either : (w : Wish) → need_of w (length ss) (length (pages ss)) ≡ need w ss
    either Plain = refl
    either Kept = refl

-- a load is begun
pub filling_begun : (M : Contents) (pool : List ℕ) (wanted : List Run) (wish : Wish) (ss : List SegmentValue) (n : ℕ) (w : Writer) → AreSegments ss → n ≡ length ss → ((q : ℕ) → in_spans wanted q ≡ is_destination ss q)
    → StandsAt (load_begun (at M) pool wanted n wish) w → FillsFrom (at M) pool wish (record { writer = w; segments = ss; written = 0 })
filling_begun M pool wanted wish ss n w k size same s = record {
  good = k;
  within = omega arith;
  fills = record {
    load = load_begun (at M) pool wanted n wish;
    stands = s;
    from_memory = refl;
    from_pool = refl;
    as_wished = refl;
    all_segments = size;
    all_pages = same;
    entries = refl;
    bytes = λ q. refl;
  };
}
