-- Each change of a queue leaves a queue.
use Rattle.std.proofs.Common.{◌≡◌, ℕ, zero, suc, ◌+◌, ◌-◌, ◌<◌, ◌≤◌, ◌++◌, ◌||◌, List, [], ◌∷◌, take, drop, length, get_or, cond, Bool, true, false, refl, sym, ap, ◌∙◌, subst, arith, inl, inr, length-append, append_assoc, append-nil, replicate}
use Rattle.std.specs.List.{AllByRecursion}
use Rattle.std.specs.Prelude.{◌≢◌, ◌⊎◌, eqb, set}
use Rattle.std.proofs.lemmas.Bool.{ne_eqb, cases_eq, cases_Bool}
use Rattle.std.proofs.lemmas.List.{take-append-drop, take-take, take_more, take_more_set, take-set-le, drop_more, map-append, length-map, length-take-le, length-drop, length-set, length-replicate, get_or-replicate, get_or-take, get_or-drop, get_or-map, get_or-set_same, get_or-set_other, append_cancel_left, nil_from_length}
use Rattle.kx_laws.proofs.Booleans.{or_true, or_false}
use Rattle.kx_pages.specs.Lists.{Has, has, Distinct, count}
use Rattle.kx_pages.proofs.Lists.{Each-at, Each-append, Each-take, Each-from_has_not, Has-from_has, Has-get_or, has-push}
use Rattle.kx_pages.proofs.Counting.{Distinct-push, count-from_Has, count-from_has_not}
use Rattle.page_pool.specs.Pages.{left_among, usable_among}
use Rattle.page_pool.specs.inner.Queue.{pages_at, is_waiting, IsQueue}
use Rattle.page_pool.proofs.Left.{eqb_same, usable_waiting, usable_more, usable_are, usable_drawn, left_length, usable_fits}

pub pages_at-append : (xs ps qs : List ℕ) → pages_at xs (ps ++ qs) ≡ pages_at xs ps ++ pages_at xs qs
unfolding pages_at
pages_at-append xs ps qs = map-append (λ i. get_or xs i 0) ps qs

pub pages_at-one : (xs : List ℕ) (i : ℕ) → pages_at xs (i ∷ []) ≡ get_or xs i 0 ∷ []
unfolding pages_at
pages_at-one xs i = refl

pub pages_at-none : (xs : List ℕ) → pages_at xs [] ≡ []
unfolding pages_at
pages_at-none xs = refl

pages_at-cons : (xs : List ℕ) (i : ℕ) (ps : List ℕ) → pages_at xs (i ∷ ps) ≡ get_or xs i 0 ∷ pages_at xs ps
unfolding pages_at
pages_at-cons xs i ps = refl

pub length-pages_at : (xs ps : List ℕ) → length (pages_at xs ps) ≡ length ps
unfolding pages_at
length-pages_at xs ps = length-map ps (λ i. get_or xs i 0)

get_or-pages_at : (xs ps : List ℕ) (i : ℕ) → i < length ps → get_or (pages_at xs ps) i 0 ≡ get_or xs (get_or ps i 0) 0
unfolding pages_at
get_or-pages_at xs ps i h = get_or-map (λ j. get_or xs j 0) ps i 0 0 h

-- the pages at places of a list are of the list
pub pages_among : (xs ps : List ℕ) → AllByRecursion (λ i. i < length xs) ps → AllByRecursion (λ q. Has q xs) (pages_at xs ps)
unfolding pages_at
pages_among xs [] h = tt
pages_among xs (i ∷ ps) h = (Has-get_or xs i h.0, pages_among xs ps h.1)

-- different pages stand at different places
same_place : (xs : List ℕ) (i j : ℕ) → Distinct xs → i < length xs → j < length xs → get_or xs i 0 ≡ get_or xs j 0 → i ≡ j
same_place [] i j d h k e = absurd (omega (arith, h))
same_place (x ∷ xs) zero zero d h k e = refl
same_place (x ∷ xs) zero (suc j) d h k e = absurd (Each-at (λ y. x ≢ y) xs (get_or xs j 0) d.0 (Has-get_or xs j (omega (arith, k))) e)
same_place (x ∷ xs) (suc i) zero d h k e = absurd (Each-at (λ y. x ≢ y) xs (get_or xs i 0) d.0 (Has-get_or xs i (omega (arith, h))) (sym e))
same_place (x ∷ xs) (suc i) (suc j) d h k e = ap suc (same_place xs i j d.1 (omega (arith, h)) (omega (arith, k)) e)

module _ (xs queue : List ℕ) (flags : List Bool) (next stop limit : ℕ) where
  -- the pages drawn
  abbrev gone : List ℕ
  gone = pages_at xs (take next queue)

  module _ (seen : List ℕ) (h : IsQueue xs queue flags next stop limit seen) where
    gone_length : length gone ≡ next
    gone_length = length-pages_at xs (take next queue) ∙ length-take-le next queue (omega (arith, h.order, h.within, h.room))

    stop_length : next + length (usable_among limit seen gone) ≡ stop
    stop_length = omega (arith, gone_length, length-append gone (usable_among limit seen gone), ap length h.usable, length-pages_at xs (take stop queue), length-take-le stop queue (omega (arith, h.within, h.room)))

    front : take next (take stop queue) ≡ take next queue
    front = take-take next stop queue h.order

    gone_places : AllByRecursion (λ i. i < length xs) (take next queue)
    gone_places = subst (AllByRecursion (λ i. i < length xs)) front (Each-take (λ i. i < length xs) next (take stop queue) h.places)

    pub gone_among : AllByRecursion (λ q. Has q xs) gone
    gone_among = pages_among xs (take next queue) gone_places

    -- the usable pages are at the places behind those
    usable_places : usable_among limit seen gone ≡ pages_at xs (drop next (take stop queue))
    usable_places = append_cancel_left gone _ _ (sym h.usable
        ∙ ap (pages_at xs) (sym (take-append-drop next (take stop queue)) ∙ ap (λ ps. ps ++ drop next (take stop queue)) front)
        ∙ pages_at-append xs (take next queue) (drop next (take stop queue)))

    room_behind : (i : ℕ) → Distinct xs → next + length (usable_among limit (take i xs) gone) ≤ length xs
    room_behind i once = omega (arith, gone_length, left_length xs gone once h.once gone_among, usable_fits limit xs gone i)

  -- the queue at the start of a pass, at another limit
  pub queue_begun : (seen : List ℕ) (other : ℕ) → IsQueue xs queue flags next stop limit seen → IsQueue xs queue flags next next other []
  queue_begun seen other h = record {
    room = h.room;
    flagged = h.flagged;
    order = omega arith;
    within = omega (arith, h.order, h.within);
    places = gone_places seen h;
    once = h.once;
    drawn = h.drawn;
    usable = sym (ap (λ ys. gone ++ ys) (usable_waiting other [] gone) ∙ append-nil gone);
  }

  module _ (i : ℕ) (once : Distinct xs) (inside : i < length xs) (h : IsQueue xs queue flags next stop limit (take i xs)) where
    abbrev here : ℕ
    here = get_or xs i 0

    is_told : is_waiting limit (get_or flags i false) here ≡ is_waiting limit (has here gone) here
    is_told = ap (λ b. is_waiting limit b here) (h.drawn i inside)

    usable_step : (b : Bool) → is_waiting limit (get_or flags i false) here ≡ b → usable_among limit (take (i + 1) xs) gone ≡ usable_among limit (take i xs) gone ++ cond b (here ∷ []) []
    usable_step b e =
        ap (λ ys. usable_among limit ys gone) (take_more xs i 0 inside) ∙ usable_more limit (take i xs) gone here
        ∙ ap (λ c. usable_among limit (take i xs) gone ++ cond c (here ∷ []) []) (sym is_told ∙ e)

    -- a page that is not waiting is passed over
    pub queue_passed : is_waiting limit (get_or flags i false) here ≡ false → IsQueue xs queue flags next stop limit (take (i + 1) xs)
    queue_passed e = record {
      room = h.room;
      flagged = h.flagged;
      order = h.order;
      within = h.within;
      places = h.places;
      once = h.once;
      drawn = h.drawn;
      usable = h.usable ∙ ap (λ ys. gone ++ ys) (sym (usable_step false e ∙ append-nil (usable_among limit (take i xs) gone)));
    }

    -- a waiting page joins the queue, which has room for it
    pub queue_room : is_waiting limit (get_or flags i false) here ≡ true → stop < length xs
    queue_room e = omega (arith, stop_length (take i xs) h, room_behind (take i xs) h (i + 1) once, ap length (usable_step true e), length-append (usable_among limit (take i xs) gone) (here ∷ []))

    pub queue_front : take next (set queue stop i) ≡ take next queue
    queue_front = take-set-le next queue stop i h.order

    pub queue_joined : is_waiting limit (get_or flags i false) here ≡ true → IsQueue xs (set queue stop i) flags next (stop + 1) limit (take (i + 1) xs)
    queue_joined e =
        let grown : take (stop + 1) (set queue stop i) ≡ take stop queue ++ i ∷ [] = take_more_set queue stop i (omega (arith, queue_room e, h.room)) in
        let same : pages_at xs (take next (set queue stop i)) ≡ gone = ap (pages_at xs) queue_front in
        record {
          room = length-set queue stop i ∙ h.room;
          flagged = h.flagged;
          order = omega (arith, h.order);
          within = omega (arith, queue_room e);
          places = subst (AllByRecursion (λ j. j < length xs)) (sym grown) (Each-append (λ j. j < length xs) (take stop queue) (i ∷ []) h.places (inside, tt));
          once = subst Distinct (sym same) h.once;
          drawn = λ j k. h.drawn j k ∙ ap (has (get_or xs j 0)) (sym same);
          usable = ap (pages_at xs) grown ∙ pages_at-append xs (take stop queue) (i ∷ []) ∙ ap (λ ys. ys ++ pages_at xs (i ∷ [])) h.usable
              ∙ append_assoc gone (usable_among limit (take i xs) gone) (pages_at xs (i ∷ []))
              ∙ ap (λ ys. gone ++ (usable_among limit (take i xs) gone ++ ys)) (pages_at-one xs i)
              ∙ ap (λ ys. gone ++ ys) (sym (usable_step true e))
              ∙ sym (ap (λ ys. ys ++ usable_among limit (take (i + 1) xs) ys) same);
        }

  module _ (once : Distinct xs) (h : IsQueue xs queue flags next stop limit xs) where
    -- the numbers of pages
    pub left_are : length (usable_among limit xs gone) ≡ stop - next
    left_are = omega (arith, stop_length xs h, h.order)

    pub unusable_are : (length xs - stop) + length (usable_among limit xs gone) ≡ length (left_among xs gone)
    unusable_are = omega (arith, stop_length xs h, h.within, h.order, gone_length xs h, left_length xs gone once h.once (gone_among xs h))

    pub none_left : stop ≤ next → usable_among limit xs gone ≡ []
    none_left full = nil_from_length (usable_among limit xs gone) (omega (arith, left_are, full))

    pub parts_are : length gone + length (usable_among limit xs gone) ≡ stop
    parts_are = omega (arith, stop_length xs h, gone_length xs h)

    -- the page behind i more
    pub place_at : (i : ℕ) → i < length (usable_among limit xs gone) → get_or queue (next + i) 0 < length xs
    place_at i l =
        let b = stop_length xs h in
        Each-at (λ j. j < length xs) (take stop queue) (get_or queue (next + i) 0) h.places
        (subst (λ p. Has p (take stop queue)) (get_or-take stop queue (next + i) 0 (omega (arith, b, l)))
        (Has-get_or (take stop queue) (next + i) (omega (arith, b, l, h.room, h.within, length-take-le stop queue (omega (arith, h.within, h.room))))))

    pub page_at : (i : ℕ) → i < length (usable_among limit xs gone) → get_or (usable_among limit xs gone) i 0 ≡ get_or xs (get_or queue (next + i) 0) 0
    page_at i l =
        let b = stop_length xs h in
        let size : length (take stop queue) ≡ stop = length-take-le stop queue (omega (arith, h.within, h.room)) in
        let behind = drop next (take stop queue) in
        ap (λ ys. get_or ys i 0) (usable_places xs h)
        ∙ get_or-pages_at xs behind i (omega (arith, b, l, size, length-drop next (take stop queue)))
        ∙ ap (λ p. get_or xs p 0) (get_or-drop next (take stop queue) i 0 ∙ get_or-take stop queue (next + i) 0 (omega (arith, b, l)))

    module _ (less : next < stop) where
      abbrev place : ℕ
      place = get_or queue next 0

      abbrev first : ℕ
      first = get_or xs place 0

      abbrev others : List ℕ
      others = pages_at xs (drop (next + 1) (take stop queue))

      next_inside : next < length queue
      next_inside = omega (arith, less, h.within, h.room)

      pub place_inside : place < length xs
      place_inside = Each-at (λ j. j < length xs) (take stop queue) place h.places
          (subst (λ p. Has p (take stop queue)) (get_or-take stop queue next 0 less) (Has-get_or (take stop queue) next (omega (arith, less, h.room, h.within, length-take-le stop queue (omega (arith, h.within, h.room))))))

      pub gone_more : pages_at xs (take (next + 1) queue) ≡ gone ++ first ∷ []
      gone_more = ap (pages_at xs) (take_more queue next 0 next_inside) ∙ pages_at-append xs (take next queue) (place ∷ []) ∙ ap (λ ys. gone ++ ys) (pages_at-one xs place)

      usable_first : usable_among limit xs gone ≡ first ∷ others
      usable_first =
          let size : length (take stop queue) ≡ stop = length-take-le stop queue (omega (arith, h.within, h.room)) in
          let front : drop next (take stop queue) ≡ place ∷ drop (next + 1) (take stop queue) = drop_more (take stop queue) next 0 (omega (arith, size, less)) ∙ ap (λ p. p ∷ drop (next + 1) (take stop queue)) (get_or-take stop queue next 0 less) in
          usable_places xs h ∙ ap (pages_at xs) front ∙ pages_at-cons xs place (drop (next + 1) (take stop queue))

      usable_after : usable_among limit xs (gone ++ first ∷ []) ≡ others
      usable_after = usable_drawn limit xs gone first others once usable_first

      fresh : has first gone ≡ false
      fresh = (usable_are limit xs gone first (subst (Has first) (sym usable_first) (inl refl))).0

      pub usable_split : usable_among limit xs gone ≡ first ∷ usable_among limit xs (pages_at xs (take (next + 1) queue))
      usable_split = usable_first ∙ ap (λ ys. first ∷ ys) (sym (ap (usable_among limit xs) gone_more ∙ usable_after))

      told_more : (i : ℕ) → i < length xs → get_or (set flags place true) i false ≡ has (get_or xs i 0) (pages_at xs (take (next + 1) queue))
      told_more i k = go (cases_eq i place)
        where
          pushed : has (get_or xs i 0) (pages_at xs (take (next + 1) queue)) ≡ (has (get_or xs i 0) gone || eqb first (get_or xs i 0))
          pushed = ap (has (get_or xs i 0)) gone_more ∙ has-push (get_or xs i 0) first gone

          go : (i ≡ place) ⊎ (i ≡ place → ⊥) → get_or (set flags place true) i false ≡ has (get_or xs i 0) (pages_at xs (take (next + 1) queue))
          go (inl e) =
              ap (λ j. get_or (set flags place true) j false) e ∙ get_or-set_same flags place true false (omega (arith, place_inside, h.flagged))
              ∙ sym (pushed ∙ ap (λ j. has (get_or xs i 0) gone || eqb first (get_or xs j 0)) e ∙ ap (λ b. has (get_or xs i 0) gone || b) (eqb_same first) ∙ or_true (has (get_or xs i 0) gone))
          go (inr n) =
              get_or-set_other flags place i true false n ∙ h.drawn i k
              ∙ sym (pushed ∙ ap (λ b. has (get_or xs i 0) gone || b) (ne_eqb first (get_or xs i 0) (λ e. n (sym (same_place xs place i once place_inside k e)))) ∙ or_false (has (get_or xs i 0) gone))

      pub queue_drawn : IsQueue xs queue (set flags place true) (next + 1) stop limit xs
      queue_drawn = record {
        room = h.room;
        flagged = length-set flags place true ∙ h.flagged;
        order = omega (arith, less);
        within = h.within;
        places = h.places;
        once = subst Distinct (sym gone_more) (Distinct-push gone first h.once (Each-from_has_not first gone fresh));
        drawn = told_more;
        usable = h.usable ∙ ap (λ ys. gone ++ ys) usable_first ∙ sym (append_assoc gone (first ∷ []) others) ∙ ap (λ ys. (gone ++ first ∷ []) ++ ys) (sym usable_after)
            ∙ sym (ap (λ ys. ys ++ usable_among limit xs ys) gone_more);
      }

-- the queue of a pool of which no page is drawn, where none is usable
pub queue_fresh : (xs queue : List ℕ) (flags : List Bool) (limit : ℕ) → length queue ≡ length xs → flags ≡ replicate (length xs) false → usable_among limit xs [] ≡ [] → IsQueue xs queue flags 0 0 limit xs
unfolding pages_at
queue_fresh xs queue flags limit room unset none = record {
  room = room;
  flagged = ap length unset ∙ length-replicate (length xs) false;
  order = omega arith;
  within = omega arith;
  places = tt;
  once = tt;
  drawn = λ i k. ap (λ fs. get_or fs i false) unset ∙ get_or-replicate (length xs) i false false k;
  usable = sym none;
}

pub count_among : (xs d : List ℕ) (p : ℕ) → AllByRecursion (λ q. Has q xs) d → 1 ≤ count p d → 1 ≤ count p xs
count_among xs d p among c =
    elim (cases_Bool (has p d)) [
      | inl e ↦ count-from_Has p xs (Each-at (λ q. Has q xs) d p among (Has-from_has p d e))
      | inr e ↦ absurd (omega (arith, c, count-from_has_not p d e))
    ]

-- what a test of one flag and one page has found
pub found_waiting : (limit : ℕ) (drawn told : Bool) (page at : ℕ) (found is : Bool) → found ≡ is_waiting limit drawn page → drawn ≡ told → page ≡ at → found ≡ is → is_waiting limit told at ≡ is
found_waiting limit drawn told page at found is e f g h = sym (e ∙ ap (λ b. is_waiting limit b page) f ∙ ap (is_waiting limit told) g) ∙ h
