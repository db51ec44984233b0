-- Taking a page while a list is written.
use Rattle.std.proofs.Common.{◌≡◌, ℕ, ◌+◌, ◌*◌, ◌^◌, ◌<◌, ◌≤◌, List, [], ◌∷◌, length, Option, Some, None, refl, sym, ap, ◌∙◌, subst, ⊎_elim, inl, inr, arith, Bool, true, false, cond}
use Rattle.std.specs.List.{AllByRecursion}
use Rattle.std.specs.Prelude.{◌≢◌, ◌⊎◌, ◌/◌, ◌%◌, eqb, slice_index}
use Rattle.std.proofs.lemmas.Option.{none-some}
use Rattle.std.proofs.lemmas.Bool.Decides.{eqb_tells}
use Rattle.page_memory.specs.Contents.{Contents, at}
use Rattle.page_memory.specs.inner.Contents.{IsHeld}
use Rattle.page_pool.specs.Pages.{Pages}
use Rattle.kimage_list.proofs.Drawing.{source_of-at_home}
use Rattle.kimage_list.proofs.Exchange.{exchange_at}
use Rattle.kimage_list.proofs.Lists.{eqb-self}
use Rattle.kimage_list.proofs.Takes.{Takes as Moves, count-at_home, taken_took}
use Rattle.kimage_list.specs.inner.Drafts.{one, amount, Draft, Renders, CanTake, CanMove, exchange}
use Rattle.kimage_list.specs.Laying.{items, source_pages}
use Rattle.kimage_list.specs.inner.Laying.{Holds}
use Rattle.kimage_list.specs.Load.{Loading, source_of, at_home, take_page}
use Rattle.kimage_list.specs.inner.Opening.{open_pages, entry_place, number}
use Rattle.kimage_list.specs.inner.Tables.{Slots}
use Rattle.kimage_list.specs.inner.Tracking.{Gives, Took, Exchanged as Pair}
use Rattle.kimage_list.specs.declared.taking.MovedPage.{MovedPage}
use Rattle.kimage_list.specs.declared.taking.TakenPage.{TakenPage}
use Rattle.kx_pages.specs.Items.{code}
use Rattle.kx_pages.specs.Lists.{sources, count}
use Rattle.kx_pages.specs.declared.item.Item.TheVariants.{Source}
use Rattle.kx_pages.specs.Bytes.{Mem}
use Rattle.page_memory.specs.Memory.{put}
use Rattle.page_memory.specs.inner.Memory.{set_word}
use Rattle.kx_pages.proofs.Lists.{Each-map}
use Rattle.kx_pages.proofs.Counting.{count-append, Each-from_no_count, Distinct-from_count, count-at}

pub count-first : (x : ℕ) (xs : List ℕ) → count x (x ∷ xs) ≡ 1 + count x xs
count-first x xs = ap (λ b. cond b 1 0 + count x xs) (eqb-self x)

-- a pair's source is one of the sources
count-source : (q s : ℕ) (ps : List (ℕ × ℕ)) → source_of q ps ≡ Some s → 1 ≤ count s (sources ps)
count-source q s [] e = absurd (none-some s e)
count-source q s (p ∷ ps) e = go (eqb_tells p.0 q) (count-source q s ps)
  where
    go : ((eqb p.0 q ≡ true) × (p.0 ≡ q)) ⊎ ((eqb p.0 q ≡ false) × (p.0 ≢ q)) → (source_of q ps ≡ Some s → 1 ≤ count s (sources ps)) → 1 ≤ count s (p.1 ∷ sources ps)
    go (inl t) ih =
        let f : Some p.1 ≡ Some s = ap (λ b. cond b (Some p.1) (source_of q ps)) (sym t.0) ∙ e in
        let g : p.1 ≡ s = cc in
        let n : count s (p.1 ∷ sources ps) ≡ 1 + count s (sources ps) = ap (λ y. count s (y ∷ sources ps)) g ∙ count-first s (sources ps) in
        omega (arith, n)
    go (inr t) ih =
        let f : source_of q ps ≡ Some s = ap (λ b. cond b (Some p.1) (source_of q ps)) (sym t.0) ∙ e in
        omega (arith, ih f)

sources-apart : (q : ℕ) (ls : List ℕ) (ps : List (ℕ × ℕ)) → count q (sources ps) ≡ 0 → ((x : ℕ) → count x (sources ps) + count x ls ≤ 1) → AllByRecursion (λ r. (r.1 ≢ q) × AllByRecursion (λ l. r.1 ≢ l) ls) ps
sources-apart q ls [] z h = tt
sources-apart q ls (p ∷ ps) z h =
    let a = Each-from_no_count q (p.1 ∷ sources ps) z in
    let n : count p.1 ls ≡ 0 = omega (arith, h p.1, count-first p.1 (sources ps)) in
    ((a.0, Each-map ls (λ l m e. m (sym e)) (Each-from_no_count p.1 ls n)), sources-apart q ls ps (omega (arith, z)) (λ x. omega (arith, h x)))

-- the facts of an exchange
record Facts (d : Draft) (N : Mem) (q s : ℕ) : Type 0 where
  inside : number q d.entries < 511 * length d.links
  list : Holds (set_word (put N q (N s)) (entry_place d.links (number q d.entries)) (code (Source q))) (open_pages d.links (items d.entries (at_home q d.loading.pairs)))
  loaded : Holds (set_word (put N q (N s)) (entry_place d.links (number q d.entries)) (code (Source q))) (source_pages d.bytes (at_home q d.loading.pairs))
  others : (p : ℕ) → q ≢ p → AllByRecursion (λ l. l ≢ p) d.links → set_word (put N q (N s)) (entry_place d.links (number q d.entries)) (code (Source q)) p ≡ N p

module _ (d : Draft) (memory : Contents) (pool : Pages) (table : Slots) (next entries : ℕ) (w : Renders d [] memory pool table next entries) (r : Option ℕ) (t : ℕ × Loading) (can : CanTake d r t) where
  amounts : (x : ℕ) → amount x d.loading ≤ 1
  amounts x = omega (arith, w.once x)

  pub moves : Moves d.wanted r d.loading t
  moves = taken_took d.wanted r d.loading t w.homes amounts can.gives

  in_spare : (x : ℕ) → count x d.loading.spare ≡ count x d.first + count x d.links
  in_spare x = ap (count x) w.spare ∙ count-append x d.first d.links

  -- the page that was drawn is now a source
  drawn : (q s : ℕ) → source_of q d.loading.pairs ≡ Some s → t.1.pairs ≡ at_home q d.loading.pairs → 1 ≤ count q (sources t.1.pairs)
  drawn q s e f = subst (λ ps. 1 ≤ count q (sources ps)) (sym f) (count-source q q (at_home q d.loading.pairs) (source_of-at_home q s d.loading.pairs e))

  facts : (q s : ℕ) → source_of q d.loading.pairs ≡ Some s → t.1.pairs ≡ at_home q d.loading.pairs → s ≡ t.0 → Facts d (at memory) q s
  facts q s e f g =
      let now = drawn q s e f in
      let homed : count q (sources (at_home q d.loading.pairs)) + one q s ≡ count q (sources d.loading.pairs) + one q q = count-at_home q q s d.loading.pairs e in
      let selves : one q q ≡ 1 = ap (λ b. cond b 1 0) (eqb-self q) in
      let same : one q s ≡ one q t.0 = ap (one q) g in
      let pairs : count q (sources t.1.pairs) ≡ count q (sources (at_home q d.loading.pairs)) = ap (λ ps. count q (sources ps)) f in
      let z : count q (sources d.loading.pairs) ≡ 0 = omega (arith, moves.conserves q, amounts q, now, homed, selves, same, pairs) in
      let n : count q d.links ≡ 0 = omega (arith, moves.conserves q, amounts q, now, in_spare q, ap (count q) moves.spared) in
      let k = exchange_at (at memory) d.bytes d.links d.entries d.loading.pairs q s w.order w.tight.1 (Distinct-from_count d.links (λ x. omega (arith, amounts x, in_spare x))) e
      (Each-from_no_count q d.links n) (sources-apart q d.links d.loading.pairs z (λ x. omega (arith, amounts x, in_spare x))) w.list w.loaded in
      record { inside = k.0; list = k.1; loaded = k.2; others = k.3 }

  pub can_move : (v : Option MovedPage) → Pair v d.loading.pairs t.1.pairs t.0 table → CanMove v memory
  can_move None p = tt
  can_move (Some v) p =
      let q = v.page in
      let f = facts q t.0 p.0 p.1 refl in
      let place : v.place ≡ entry_place d.links (number q d.entries) = w.places q v.place p.2 in
      let i = number q d.entries / 511 in
      let inside : number q d.entries / 511 < length d.links = omega (arith, f.inside) in
      let small : number q d.entries % 511 < 511 = omega arith in
      let page : v.place / 4096 ≡ slice_index d.links i = omega (arith, place, small) in
      let listed : 1 ≤ count (slice_index d.links i) d.room = omega (arith, count-at d.links i inside, in_spare (slice_index d.links i), w.within (slice_index d.links i)) in
      let low : slice_index d.links i < 2 ^ 34 = w.below (slice_index d.links i) listed in
      let held : 1 ≤ count q d.room = omega (arith, drawn q t.0 p.0 p.1, can.within q) in (
        omega (arith, place, low, small),
        omega (arith, place),
        w.held q held,
        subst (IsHeld memory) (sym page) (w.held (slice_index d.links i) listed),
      )

  -- what tracks after the page is taken
  pub after : (x : TakenPage) (memory' : Contents) (pool' : Pages) (table' : Slots) → Took d.wanted d.loading t x pool' table table' → at memory' ≡ exchange (at memory) x.moved x.page → ((q : ℕ) → IsHeld memory q → IsHeld memory' q)
      → Renders (record d { loading = t.1 }) (t.0 ∷ []) memory' pool' table' next entries
  after x memory' pool' table' took e stay = record {
    tracks = took.tracks;
    order = moves.order ∙ w.order;
    spare = moves.spared ∙ w.spare;
    tight = w.tight;
    homes = moves.homes;
    once = λ y. omega (arith, moves.conserves y, amounts y);
    within = λ y. omega (arith, can.within y);
    held = λ y h. stay y (w.held y h);
    below = w.below;
    list = subst (λ N. Holds N (open_pages d.links (items d.entries t.1.pairs))) (sym e) (list x.moved took.exchanged);
    loaded = subst (λ N. Holds N (source_pages d.bytes t.1.pairs)) (sym e) (loaded x.moved took.exchanged);
    others = λ y z. ap (λ N. N y) e ∙ others x.moved took.exchanged y z;
    places = λ y a h. w.places y a (sym (took.places y) ∙ h);
    place = w.place;
    many = w.many;
  }
    where
      list : (v : Option MovedPage) → Pair v d.loading.pairs t.1.pairs t.0 table → Holds (exchange (at memory) v x.page) (open_pages d.links (items d.entries t.1.pairs))
      list None p = subst (λ ps. Holds (at memory) (open_pages d.links (items d.entries ps))) (sym p) w.list
      list (Some v) p =
          let f = facts v.page x.page (p.0 ∙ ap (λ y. Some y) (sym took.page)) p.1 took.page in
          let place : v.place ≡ entry_place d.links (number v.page d.entries) = w.places v.page v.place p.2 in
          subst (λ ps. Holds (set_word (put (at memory) v.page (at memory x.page)) v.place (code (Source v.page))) (open_pages d.links (items d.entries ps))) (sym p.1)
          (subst (λ a. Holds (set_word (put (at memory) v.page (at memory x.page)) a (code (Source v.page))) (open_pages d.links (items d.entries (at_home v.page d.loading.pairs)))) (sym place) f.list)

      loaded : (v : Option MovedPage) → Pair v d.loading.pairs t.1.pairs t.0 table → Holds (exchange (at memory) v x.page) (source_pages d.bytes t.1.pairs)
      loaded None p = subst (λ ps. Holds (at memory) (source_pages d.bytes ps)) (sym p) w.loaded
      loaded (Some v) p =
          let f = facts v.page x.page (p.0 ∙ ap (λ y. Some y) (sym took.page)) p.1 took.page in
          let place : v.place ≡ entry_place d.links (number v.page d.entries) = w.places v.page v.place p.2 in
          subst (λ ps. Holds (set_word (put (at memory) v.page (at memory x.page)) v.place (code (Source v.page))) (source_pages d.bytes ps)) (sym p.1)
          (subst (λ a. Holds (set_word (put (at memory) v.page (at memory x.page)) a (code (Source v.page))) (source_pages d.bytes (at_home v.page d.loading.pairs))) (sym place) f.loaded)

      others : (v : Option MovedPage) → Pair v d.loading.pairs t.1.pairs t.0 table → (y : ℕ) → count y d.links + count y (sources t.1.pairs) + count y (t.0 ∷ []) ≡ 0 → exchange (at memory) v x.page y ≡ d.before y
      others None p y z = w.others y (omega (arith, z, ap (λ ps. count y (sources ps)) p))
      others (Some v) p y z =
          let f = facts v.page x.page (p.0 ∙ ap (λ y. Some y) (sym took.page)) p.1 took.page in
          let place : v.place ≡ entry_place d.links (number v.page d.entries) = w.places v.page v.place p.2 in
          let now = drawn v.page t.0 p.0 p.1 in
          let ne : v.page ≢ y = λ g. none y g (omega (arith, z)) in
          let homed : count y (sources (at_home v.page d.loading.pairs)) + one y t.0 ≡ count y (sources d.loading.pairs) + one y v.page = count-at_home y v.page t.0 d.loading.pairs p.0 in
          let pairs : count y (sources t.1.pairs) ≡ count y (sources (at_home v.page d.loading.pairs)) = ap (λ ps. count y (sources ps)) p.1 in
          ap (λ a. set_word (put (at memory) v.page (at memory x.page)) a (code (Source v.page)) y) place
          ∙ f.others y ne (Each-from_no_count y d.links (omega (arith, z)))
          ∙ w.others y (omega (arith, z, homed, pairs, apart-one y v.page ne))
        where
          none : (y : ℕ) → v.page ≡ y → count y (sources t.1.pairs) ≡ 0 → ⊥
          none y g z = let k : 1 ≤ count y (sources t.1.pairs) = subst (λ m. 1 ≤ count m (sources t.1.pairs)) g (drawn v.page t.0 p.0 p.1) in omega (arith, k, z)

          apart-one : (y q : ℕ) → q ≢ y → one y q ≡ 0
          apart-one y q n = ⊎_elim (λ u. absurd (n u.1)) (λ u. ap (λ b. cond b 1 0) u.0) (eqb_tells q y)

pub took_of : (D : ℕ → Bool) (r : Option ℕ) (l : Loading) (t : ℕ × Loading) (x : TakenPage) (pool' : Pages) (table table' : Slots) → Gives D l (take_page D r l) (Some x) pool' table table' → take_page D r l ≡ Some t → Took D l t x pool' table table'
took_of D r l t x pool' table table' g e = let P : Option (ℕ × Loading) → Type 0 = λ o. Gives D l o (Some x) pool' table table' in subst P e g

-- where no page is loaded no exchange is made
pub exchange_of_no_pairs : (N : Mem) (v : Option MovedPage) (pairs pairs' : List (ℕ × ℕ)) (s x : ℕ) (table : Slots) → Pair v pairs pairs' s table → pairs ≡ [] → exchange N v x ≡ N
exchange_of_no_pairs N None pairs pairs' s x table p z = refl
exchange_of_no_pairs N (Some v) pairs pairs' s x table p z = absurd (none-some s (sym (ap (source_of v.page) z) ∙ p.0))
