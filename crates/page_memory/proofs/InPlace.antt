-- Frames that change places, until each lies in the slot that its page has in the file.
use Rattle.std.proofs.Common.{◌≡◌, ◌≢◌, ℕ, zero, suc, ◌+◌, ◌-◌, ◌*◌, ◌/◌, ◌%◌, ◌<◌, ◌≤◌, List, [], ◌∷◌, ◌++◌, length, take, drop, refl, sym, ap, ◌∙◌, arith, ◌⊎◌, inl, inr}
use Rattle.std.proofs.Common.{get_or, append_assoc, subst}
use Rattle.std.specs.Prelude.{eqb, set, slice_index}
use Rattle.std.specs.List.{AllByRecursion, IsDistinct, SwappedAt, flat_map}
use Rattle.std.proofs.Math.Seq.{drop-append-add, take-append-add}
use Rattle.std.proofs.lemmas.Bool.{cases_eq, eqb-false}
use Rattle.std.proofs.lemmas.Grind.{get_or-set_at}
use Rattle.std.proofs.lemmas.List.{drop-drop, drop_at, drop_more, get_or-set_other, length-set, length-take, length-take-le}
use Rattle.std.proofs.lemmas.Map.Keys.{apart_from_distinct}
use Rattle.byteorder.specs.Endian.{little_bytes}
use Rattle.byteorder.specs.Numbers.{length-bytes_low_first}
use Rattle.page_memory.specs.inner.Contents.{page_with_word}
use Rattle.page_memory.specs.File.{magic, page_text, text_of}
use Rattle.page_memory.specs.inner.Frames.{frame_entries, frame_in, put_frame, trade_frames}
use Rattle.page_memory.specs.inner.InPlace.{AreArranged, AreGathered, AreOwned, AreSlotsOf, Holds, place, slot_entries, slots_of}
use Rattle.page_memory.proofs.Moves.{frame_in-front, length-frame_in, put_frame-append}
use Rattle.page_memory.proofs.Frames.{frame_in-append, frame_in-put_same, frame_in-put_other, length-put_frame}

-- two frames of one buffer, the first of them in the part before the second
pub exchange_in_parts : (xs : List ℕ) (low high : ℕ) → low + 4096 ≤ high → high + 4096 ≤ length xs → put_frame (take high xs) low (frame_in xs high) ++ (frame_in (take high xs) low ++ drop 4096 (drop high xs)) ≡ trade_frames xs low high
unfolding put_frame
exchange_in_parts xs low high apart inside =
    ap (λ t. put_frame (take high xs) low (frame_in xs high) ++ (t ++ drop 4096 (drop high xs))) (frame_in-front xs high low (omega (arith, inside)) apart)
    ∙ sym (put_frame-append (take high xs) (frame_in xs low ++ drop 4096 (drop high xs)) (frame_in xs high) low (omega (arith, apart, inside, length-take high xs)))

-- the buffer after the frames in two slots changed places
abbrev pub slots_traded : List ℕ → ℕ → ℕ → List ℕ
slots_traded xs k from = trade_frames xs (place k) (place from)

slots_apart : (i j : ℕ) → place i < place j → place i + 4096 ≤ place j
slots_apart i j less = omega arith

places_differ : (i j : ℕ) → i ≢ j → place i ≢ place j
places_differ i j ne same = ne (omega (arith, same))

record Trades (xs zs : List ℕ) (k from : ℕ) : Type 0 where
  first : frame_in zs (place k) ≡ frame_in xs (place from)
  second : frame_in zs (place from) ≡ frame_in xs (place k)
  others : (i : ℕ) → i ≢ k → i ≢ from → frame_in zs (place i) ≡ frame_in xs (place i)

trades : (xs : List ℕ) (k from : ℕ) → k < from → place from + 4096 ≤ length xs → Trades xs (slots_traded xs k from) k from
trades xs k from less inside =
    let a = frame_in xs (place k) in
    let b = frame_in xs (place from) in
    let ys = put_frame xs (place from) a in
    let whole_a : length a ≡ 4096 = length-frame_in xs (place k) (omega (arith, inside, less)) in
    let whole_b : length b ≡ 4096 = length-frame_in xs (place from) inside in
    let long : length ys ≡ length xs = length-put_frame xs (place from) a inside whole_a in
    let low : place k + 4096 ≤ length ys = omega (arith, inside, less, long) in
    record {
      first = frame_in-put_same ys (place k) b low whole_b;
      second =
          frame_in-put_other ys (place k) (place from) b low whole_b (places_differ from k (omega (arith, less))) (slots_apart from k) (slots_apart k from)
          ∙ frame_in-put_same xs (place from) a inside whole_a;
      others = λ i ne other.
          frame_in-put_other ys (place k) (place i) b low whole_b (places_differ i k ne) (slots_apart i k) (slots_apart k i)
          ∙ frame_in-put_other xs (place from) (place i) a inside whole_a (places_differ i from other) (slots_apart i from) (slots_apart from i);
    }

-- a frame goes where its owner's number goes
pub Holds-settled : (frame_of : ℕ → List ℕ) (xs owners new : List ℕ) (k from n : ℕ) → k < from → from < length owners → length new ≡ length owners → 4104 * length owners ≤ length xs - 16 → SwappedAt owners new k from → Holds frame_of xs owners n → Holds frame_of (slots_traded xs k from) new n
Holds-settled frame_of xs owners new k from n less inside long room swapped holds i below few =
    let t = trades xs k from less (omega (arith, inside, room)) in
    elim (cases_eq i k) [
      | inl e ↦
          let owner : slice_index new i ≡ slice_index owners from = ap (slice_index new) e ∙ swapped.0 0 in
          ap (λ i. frame_in (slots_traded xs k from) (place i)) e ∙ t.first ∙ holds from inside (omega (arith, owner, few)) ∙ ap frame_of (sym owner)
      | inr ne ↦ elim (cases_eq i from) [
        | inl e ↦
            let owner : slice_index new i ≡ slice_index owners k = ap (slice_index new) e ∙ swapped.1 0 in
            ap (λ i. frame_in (slots_traded xs k from) (place i)) e ∙ t.second ∙ holds k (omega (arith, less, inside)) (omega (arith, owner, few)) ∙ ap frame_of (sym owner)
        | inr other ↦
            let owner : slice_index new i ≡ slice_index owners i = swapped.2 i 0 ne other in
            t.others i ne other ∙ holds i (omega (arith, below, long)) (omega (arith, owner, few)) ∙ ap frame_of (sym owner)
      ]
    ]

-- the slots after page k came into slot k, and the page that lay there went where page k was
abbrev with_note : List ℕ → ℕ → ℕ → ℕ → List ℕ
with_note slots other from k = set (set slots other from) k k

abbrev SlotCases : List ℕ → List ℕ → ℕ → ℕ → ℕ → ℕ → Type 0
SlotCases slots new other from k j = ((j ≡ k) × (slice_index new j ≡ k)) ⊎ (((j ≡ other) × (slice_index new j ≡ from)) ⊎ ((j ≢ k) × (j ≢ other) × (slice_index new j ≡ slice_index slots j)))

slot_cases : (slots : List ℕ) (other from k j : ℕ) → k < length slots → j < length slots → SlotCases slots (with_note slots other from k) other from k j
slot_cases slots other from k j page below =
    let long = length-set slots other from in
    elim (cases_eq j k) [
      | inl e ↦ inl (e, get_or-set_at (set slots other from) k j k 0 e (omega (arith, long, page)))
      | inr ne ↦ elim (cases_eq j other) [
        | inl e ↦ inr (inl (e, get_or-set_other (set slots other from) k j k 0 ne ∙ get_or-set_at slots other j from 0 e (omega (arith, e, below))))
        | inr apart ↦ inr (inr (ne, apart, get_or-set_other (set slots other from) k j k 0 ne ∙ get_or-set_other slots other j from 0 apart))
      ]
    ]

inside_settled : (slots owners new : List ℕ) (k from j : ℕ) → k < length owners → from < length owners → AreOwned slots owners k → j < length slots → SlotCases slots new (slice_index owners k) from k j → slice_index new j < length owners
inside_settled slots owners new k from j low high is below (inl h) = omega (arith, h.1)
inside_settled slots owners new k from j low high is below (inr (inl h)) = omega (arith, h.1)
inside_settled slots owners new k from j low high is below (inr (inr h)) = omega (arith, h.2, is.inside j below)

owned_settled : (slots owners new after : List ℕ) (k from j : ℕ) → k < length slots → from ≡ slice_index slots k → SwappedAt owners after k from → AreOwned slots owners k → j < length slots → SlotCases slots new (slice_index owners k) from k j → slice_index after (slice_index new j) ≡ j
owned_settled slots owners new after k from j page at_k swapped is below (inl h) =
    ap (slice_index after) h.1 ∙ swapped.0 0 ∙ ap (slice_index owners) at_k ∙ is.owned k page ∙ sym h.0
owned_settled slots owners new after k from j page at_k swapped is below (inr (inl h)) = ap (slice_index after) h.1 ∙ swapped.1 0 ∙ sym h.0
owned_settled slots owners new after k from j page at_k swapped is below (inr (inr h)) =
    ap (slice_index after) h.2
    ∙ swapped.2 (slice_index slots j) 0 (λ e. h.1 (sym (is.owned j below) ∙ ap (slice_index owners) e)) (λ e. h.0 (sym (is.owned j below) ∙ ap (slice_index owners) (e ∙ at_k) ∙ is.owned k page))
    ∙ is.owned j below

settled_more : (slots owners after : List ℕ) (k from j : ℕ) → k < length slots → from ≡ slice_index slots k → k < from → SwappedAt owners after k from → AreOwned slots owners k → j < k + 1 → slice_index after j ≡ j
settled_more slots owners after k from j page at_k less swapped is below =
    elim (cases_eq j k) [
      | inl e ↦ ap (slice_index after) e ∙ swapped.0 0 ∙ ap (slice_index owners) at_k ∙ is.owned k page ∙ sym e
      | inr ne ↦
          let before : j < k = omega (arith, below, ne) in
          swapped.2 j 0 ne (λ e. absurd (omega (arith, e, before, less))) ∙ is.settled j before
    ]

-- page k owns its slot, and the others own theirs as before
pub AreOwned-settled : (slots owners after : List ℕ) (k from : ℕ) → k < length slots → length slots ≤ length owners → from ≡ slice_index slots k → k < from → length after ≡ length owners → SwappedAt owners after k from → AreOwned slots owners k → AreOwned (with_note slots (slice_index owners k) from k) after (k + 1)
AreOwned-settled slots owners after k from page few at_k less same swapped is =
    let other = slice_index owners k in
    let new = with_note slots other from k in
    let long : length new ≡ length slots = length-set (set slots other from) k k ∙ length-set slots other from in
    let high : from < length owners = omega (arith, at_k, is.inside k page) in
    record {
      inside = λ j below.
          let old : j < length slots = omega (arith, below, long) in
          omega (arith, same, inside_settled slots owners new k from j (omega (arith, page, few)) high is old (slot_cases slots other from k j page old));
      owned = λ j below.
          let old : j < length slots = omega (arith, below, long) in
          owned_settled slots owners new after k from j page at_k swapped is old (slot_cases slots other from k j page old);
      settled = λ j below. settled_more slots owners after k from j page at_k less swapped is below;
    }

-- the slots of pages whose frames lie in the buffer
pub slots_below : (es : List (ℕ × ℕ)) (long count : ℕ) → AllByRecursion (λ e. e.1 + 4096 ≤ long) es → AllByRecursion (λ e. e.1 % 4104 ≡ 24) es → long - 16 ≡ 4104 * count → (j : ℕ) → j < length (slots_of es) → slice_index (slots_of es) j < count
slots_below [] long count inside slots room j below = absurd (omega (arith, below))
slots_below (e ∷ es) long count inside slots room zero below = omega (arith, inside.0, slots.0, room)
slots_below (e ∷ es) long count inside slots room (suc j) below = slots_below es long count inside.1 slots.1 room j (omega (arith, below))

pub length-slot_entries : (xs : List ℕ) (k : ℕ) (es : List (ℕ × ℕ)) → length (slot_entries xs k es) ≡ length es
length-slot_entries xs k [] = refl
length-slot_entries xs k (e ∷ es) = ap suc (length-slot_entries xs (k + 1) es)

-- the entries of the slots, where each has the frame that lay in another slot before
pub slot_entries-gathered : (xs ys : List ℕ) (k : ℕ) (es : List (ℕ × ℕ)) → AllByRecursion (λ e. e.1 % 4104 ≡ 24) es → ((j : ℕ) → j < length es → frame_in ys (place (k + j)) ≡ frame_in xs (place (slice_index (slots_of es) j))) → slot_entries ys k es ≡ frame_entries xs es
slot_entries-gathered xs ys k [] slots same = refl
slot_entries-gathered xs ys k (e ∷ es) slots same =
    let here : place (e.1 / 4104) ≡ e.1 = omega (arith, slots.0) in
    let first : frame_in ys (place k) ≡ frame_in xs e.1 = ap (λ n. frame_in ys (place n)) (add-zero k) ∙ same 0 (omega arith) ∙ ap (frame_in xs) here in
    let rest = slot_entries-gathered xs ys (k + 1) es slots.1 (λ j below. ap (λ n. frame_in ys (place n)) (next k j) ∙ same (suc j) (omega (arith, below))) in
    ap (λ (b : List ℕ). (e.0, b) ∷ slot_entries ys (k + 1) es) first ∙ ap (λ t. (e.0, frame_in xs e.1) ∷ t) rest
  where
    add-zero : (k : ℕ) → k ≡ k + 0
    add-zero k = omega arith

    next : (k j : ℕ) → k + 1 + j ≡ k + suc j
    next k j = omega arith

-- a number that is written in front of a frame
pub number_in_slot : (start xs new : List ℕ) (at k p : ℕ) → at ≡ 16 + 4104 * k → at + 4104 ≤ length xs → new ≡ page_with_word xs at p → drop at xs ≡ drop at start → (take (at + 4104) new ≡ take at xs ++ page_text (p, frame_in start (place k))) × (drop (at + 4104) new ≡ drop (at + 4104) start)
unfolding page_with_word frame_in
number_in_slot start xs new at k p at_k long is same =
    let front = take at xs in
    let head = little_bytes 8 p in
    let rest = drop (at + 8) xs in
    let end_front : at + 4104 ≡ length front + 4104 = omega (arith, long, length-take at xs) in
    let end_head : 4104 ≡ length head + 4096 = omega (arith, length-bytes_low_first 0 8 p) in
    let at_rest : at + 8 ≡ place k = omega (arith, at_k) in
    let frame : take 4096 rest ≡ take 4096 (drop (place k) start) = ap (take 4096) (sym (drop-drop 8 at xs) ∙ ap (drop 8) same ∙ drop-drop 8 at start ∙ ap (λ n. drop n start) at_rest) in (
      ap (take (at + 4104)) is ∙ ap (λ n. take n (front ++ (head ++ rest))) end_front ∙ take-append-add front (head ++ rest) 4104
          ∙ ap (λ n. front ++ take n (head ++ rest)) end_head ∙ ap (λ t. front ++ t) (take-append-add head rest 4096) ∙ ap (λ t. front ++ (head ++ t)) frame,
      ap (drop (at + 4104)) is ∙ ap (λ n. drop n (front ++ (head ++ rest))) end_front ∙ drop-append-add front (head ++ rest) 4104
          ∙ ap (λ n. drop n (head ++ rest)) end_head ∙ drop-append-add head rest 4096
          ∙ ap (drop 4096) (sym (drop-drop 8 at xs) ∙ ap (drop 8) same ∙ drop-drop 8 at start) ∙ drop-drop 4096 (at + 8) start ∙ ap (λ n. drop n start) (ends at),
    )
  where
    ends : (at : ℕ) → at + 8 + 4096 ≡ at + 4104
    ends at = omega arith

-- the text of one slot more
pub numbers_more : (start xs new end : List ℕ) (pages : List (ℕ × ℕ)) (item : ℕ × ℕ) (at i p : ℕ) → i < length pages → item ≡ get_or pages i item → p ≡ item.0 → take (at + 4104) new ≡ take at xs ++ page_text (p, frame_in start (place i)) → take at xs ++ flat_map page_text (slot_entries start i (drop i pages)) ≡ end → take (at + 4104) new ++ flat_map page_text (slot_entries start (i + 1) (drop (i + 1) pages)) ≡ end
numbers_more start xs new end pages item at i p below is number more text =
    let rest = flat_map page_text (slot_entries start (i + 1) (drop (i + 1) pages)) in
    let one : drop i pages ≡ item ∷ drop (i + 1) pages = drop_more pages i item below ∙ ap (λ x. x ∷ drop (i + 1) pages) (sym is) in
    ap (λ t. t ++ rest) more
    ∙ append_assoc (take at xs) (page_text (p, frame_in start (place i))) rest
    ∙ ap (λ n. take at xs ++ (page_text (n, frame_in start (place i)) ++ rest)) number
    ∙ ap (λ es. take at xs ++ flat_map page_text (slot_entries start i es)) (sym one)
    ∙ text

-- the head in front of the slots
pub head_and_entries : (xs front back : List ℕ) (es : List (ℕ × List ℕ)) (n : ℕ) → 16 ≤ length xs → length es ≡ n → front ≡ magic ++ little_bytes 8 n → back ≡ drop 16 (take 16 xs ++ flat_map page_text es) → front ++ back ≡ text_of es
unfolding text_of
head_and_entries xs front back es n long few is_front is_back =
    ap (λ t. front ++ t) (is_back ∙ drop_at (take 16 xs) (flat_map page_text es) 16 (length-take-le 16 xs long))
    ∙ ap (λ t. t ++ flat_map page_text es) is_front
    ∙ append_assoc magic (little_bytes 8 n) (flat_map page_text es)
    ∙ ap (λ n. magic ++ (little_bytes 8 n ++ flat_map page_text es)) (sym few)

-- a page is noted as the owner of its slot
pub owned_more : (slots owners : List ℕ) (j a : ℕ) → j < length slots → slice_index slots j < length owners → IsDistinct eqb slots → ((a : ℕ) → a < j → slice_index owners (slice_index slots a) ≡ a) → a < j + 1 → slice_index (set owners (slice_index slots j) j) (slice_index slots a) ≡ a
owned_more slots owners j a page inside apart owned below =
    elim (cases_eq a j) [
      | inl e ↦ get_or-set_at owners (slice_index slots j) (slice_index slots a) j 0 (ap (slice_index slots) e) inside ∙ sym e
      | inr ne ↦
          let before : a < j = omega (arith, below, ne) in
          get_or-set_other owners (slice_index slots j) (slice_index slots a) j 0 (λ same. eqb-false _ _ (apart_from_distinct eqb slots a j 0 apart before page) same) ∙ owned a before
    ]

pub back_more : (slots owners : List ℕ) (j i : ℕ) → slice_index slots j < length owners → (slice_index owners i < length slots → slice_index slots (slice_index owners i) ≡ i) → slice_index (set owners (slice_index slots j) j) i < length slots → slice_index slots (slice_index (set owners (slice_index slots j) j) i) ≡ i
back_more slots owners j i inside back few =
    elim (cases_eq i (slice_index slots j)) [
      | inl e ↦ ap (slice_index slots) (get_or-set_at owners (slice_index slots j) i j 0 e inside) ∙ sym e
      | inr ne ↦
          let same = get_or-set_other owners (slice_index slots j) i j 0 ne in
          ap (slice_index slots) same ∙ back (omega (arith, same, few))
    ]

-- where each slot's frame went, by lists that are the same under other names
pub arrangement_gathers : (xs new seen lent slots owners lent_owners : List ℕ) → seen ≡ slots → lent ≡ slots → lent_owners ≡ owners → AreSlotsOf seen owners → AreArranged xs lent_owners new (length lent) → (j : ℕ) → j < length slots → frame_in new (place j) ≡ frame_in xs (place (slice_index slots j))
arrangement_gathers xs new seen lent slots owners lent_owners is_seen is_lent is_owners back all j below =
    let known : AreSlotsOf slots owners = subst (λ s. AreSlotsOf s owners) is_seen back in
    let told : AreSlotsOf slots lent_owners = subst (AreSlotsOf slots) (sym is_owners) known in
    let each = subst (λ s. AreArranged xs lent_owners new (length s)) is_lent all in
    each (λ k. frame_in xs (place (slice_index slots k))) (λ i inside few. ap (λ s. frame_in xs (place s)) (sym (told i inside few))) j below

-- the same by lists under other names
pub AreGathered-named : (lent old moved : List ℕ) (seen es : List (ℕ × ℕ)) → lent ≡ old → seen ≡ es → AreGathered lent moved seen → AreGathered old moved es
AreGathered-named lent old moved seen es is_lent is_seen h = subst (AreGathered old moved) is_seen (subst (λ xs. AreGathered xs moved seen) is_lent h)

-- a frame in the part that stays
pub frame_in-cut : (xs ys zs : List ℕ) (n i : ℕ) → zs ≡ take n xs ++ ys → n ≤ length xs → i + 4096 ≤ n → frame_in zs i ≡ frame_in xs i
frame_in-cut xs ys zs n i is long inside =
    ap (λ t. frame_in t i) is ∙ frame_in-append (take n xs) ys i (omega (arith, inside, long, length-take n xs)) ∙ frame_in-front xs n i long inside

-- the slots of what is left of the buffer
pub slot_entries-cut : (old moved cut zeros : List ℕ) (es : List (ℕ × ℕ)) (n count : ℕ) → AllByRecursion (λ e. e.1 % 4104 ≡ 24) es → n ≡ 16 + 4104 * length es → length es ≤ count → length old - 16 ≡ 4104 * count → length moved ≡ length old → cut ≡ take n moved ++ zeros → AreGathered old moved es → slot_entries cut 0 es ≡ frame_entries old es
slot_entries-cut old moved cut zeros es n count slots end few room long is gathered =
    slot_entries-gathered old cut 0 es slots (λ j below.
    let same : 0 + j ≡ j = omega arith in
    ap (λ k. frame_in cut (place k)) same ∙ frame_in-cut moved zeros cut n (place j) is (omega (arith, end, few, room, long, below)) (omega (arith, end, below)) ∙ gathered j below)
