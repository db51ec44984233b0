-- Ranges in order, and the notes that lie in them.
use Rattle.std.proofs.Common.{◌≡◌, ℕ, ◌+◌, ◌-◌, ◌<◌, ◌≤◌, List, [], ◌∷◌, ◌++◌, length, take, get_or, Bool, true, false, cond, not, refl, sym, ap, ◌∙◌, subst, inl, inr, arith}
use Rattle.std.specs.Prelude.{◌||◌}
use Rattle.std.specs.List.{list_any, position_or_len}
use Rattle.std.specs.List.Sorted.{IsPermutation, IsNonDecreasingBy}
use Rattle.std.proofs.lemmas.Bool.{cases_lt}
use Rattle.std.proofs.lemmas.Bool.Decides.{nat_tests}
use Rattle.std.proofs.lemmas.Grind.{common_steps}
use Rattle.std.proofs.lemmas.List.{get_or_default}
use Rattle.std.proofs.lemmas.List.Folds.{list_any_at, list_any_more, list_any-append, Any-from_list_any}
use Rattle.std.proofs.lemmas.List.Sorted.{IsNonDecreasingBy-push, list_any-IsPermutation}
use Rattle.kx_laws.proofs.Booleans.{or_false, or_true}
use Rattle.memory_map.specs.declared.row.Row.{Row}
use Rattle.memory_map.specs.Rows.{row_end}
use Rattle.crash_headers.specs.declared.note.Note.{Note}
use Rattle.crash_headers.specs.Notes.{lies_in}
use Rattle.crash_headers.specs.inner.Ranges.{AreSorted, AreRising, HoldSameNotes, IsBehind, IsNotBehind}

-- the first that passes, by tests that agree
places_same : {X : Type 0} (f g : X → Bool) → ((x : X) → f x ≡ g x) → (xs : List X) → position_or_len f xs ≡ position_or_len g xs
places_same f g h [] = refl
places_same f g h (x ∷ xs) =
    ap (λ t. cond (not t) (1 + position_or_len f xs) 0) (h x)
    ∙ ap (λ n. cond (not (g x)) (1 + n) 0) (places_same f g h xs)

pub same_sorted : (rows sorted ranges : List Row) → HoldSameNotes rows sorted → IsPermutation ranges sorted → HoldSameNotes rows ranges
same_sorted rows sorted ranges h p n = h n ∙ sym (list_any-IsPermutation (lies_in n) ranges sorted p)

-- what starts no later than the note, and ends no sooner than what holds it, holds it too
lies_in_wider_row : (n : Note) (r s : Row) → s.start ≤ n.start → row_end r ≤ row_end s → lies_in n r ≡ true → lies_in n s ≡ true
lies_in_wider_row n r s first last h = grind (arith, nat_tests)

starts_first : (n : Note) (r : Row) → lies_in n r ≡ true → r.start ≤ n.start
starts_first n r h = grind (arith, nat_tests)

-- a note that starts before each range lies in none
pub found_none : (rs : List Row) (n : Note) → ((k : ℕ) (d : Row) → k < length rs → n.start < (get_or rs k d).start) → list_any (lies_in n) rs ≡ false
found_none rs n later = by_answer (list_any (lies_in n) rs) refl
  where
    by_answer : (b : Bool) → list_any (lies_in n) rs ≡ b → b ≡ false
    by_answer false e = refl
    by_answer true e =
        let m = Any-from_list_any (lies_in n) rs e in
        let first = starts_first n m.1 m.4 in
        let same = ap (λ (r : Row). r.start) m.3 in
        absurd (omega (arith, later m.0 m.1 m.2, first, same))

-- of ranges that rise the last that starts no later than the note holds it, if any does
pub found_last : (rs : List Row) (n : Note) (last : ℕ) (d : Row) → AreRising rs → last < length rs → (get_or rs last d).start ≤ n.start → ((k : ℕ) (e : Row) → last < k → k < length rs → n.start < (get_or rs k e).start) → list_any (lies_in n) rs ≡ lies_in n (get_or rs last d)
found_last rs n last d up within first later = by_answer (list_any (lies_in n) rs) (lies_in n (get_or rs last d)) refl refl
  where
    by_answer : (b c : Bool) → list_any (lies_in n) rs ≡ b → lies_in n (get_or rs last d) ≡ c → b ≡ c
    by_answer true true e f = refl
    by_answer false false e f = refl
    by_answer false true e f = let t = list_any_at (lies_in n) rs last d within f in cc
    by_answer true false e f =
        let m = Any-from_list_any (lies_in n) rs e in
        let here = get_or_default rs m.0 d m.1 m.2 ∙ m.3 in
        elim (cases_lt last m.0) [
          | inl behind ↦
              let start = starts_first n m.1 m.4 in
              let same = ap (λ (r : Row). r.start) m.3 in
              absurd (omega (arith, later m.0 m.1 behind m.2, start, same))
          | inr before ↦
              let ends = up.ends m.0 last d before within in
              let t = lies_in_wider_row n (get_or rs m.0 d) (get_or rs last d) first ends (ap (lies_in n) here ∙ m.4) in cc
        ]

-- what the walk along sorted ranges keeps: those that were taken rise, the last of them starts no later than each that is
-- to come, and they hold the notes of all so far
pub record IsOuter (sorted outer : List Row) (i : ℕ) : Type 0 where
  pub rising : AreRising outer
  pub before : (d : Row) (j : ℕ) → 0 < length outer → i ≤ j → j < length sorted → (get_or outer (length outer - 1) d).start ≤ (get_or sorted j d).start
  pub notes : HoldSameNotes outer (take i sorted)

pub outer_push : (sorted outer new : List Row) (i : ℕ) (d : Row) → AreSorted sorted → i < length sorted → new ≡ outer ++ get_or sorted i d ∷ [] → IsBehind outer (get_or sorted i d) → IsOuter sorted outer i → IsOuter sorted new (i + 1)
outer_push sorted outer new i d up l e behind o =
    let r = get_or sorted i d in
    let place : (x : Row) → get_or sorted i x ≡ r = λ x. get_or_default sorted i x d l in
    let last : (x : Row) → get_or new (length new - 1) x ≡ r = λ x. ap (λ xs. get_or xs (length xs - 1) x) e ∙ grind (arith, common_steps) in
    record {
      rising = record {
        starts = subst AreSorted (sym e) (IsNonDecreasingBy-push (λ (x : Row). x.start) outer r o.rising.starts (λ x some. omega (arith, o.before x i some (omega arith) l, ap (λ (y : Row). y.start) (place x))));
        ends = subst (IsNonDecreasingBy row_end) (sym e) (IsNonDecreasingBy-push row_end outer r o.rising.ends (λ x some. omega (arith, behind x some)));
      };
      before = λ x j some le k. omega (arith, ap (λ (y : Row). y.start) (last x), ap (λ (y : Row). y.start) (place x), up i j x (omega (arith, le)) k);
      notes = λ n.
          ap (list_any (lies_in n)) e ∙ list_any-append (lies_in n) outer (r ∷ [])
          ∙ ap (λ b. list_any (lies_in n) outer || b) (or_false (lies_in n r))
          ∙ ap (λ b. b || lies_in n r) (o.notes n)
          ∙ sym (list_any_more (lies_in n) sorted i d l);
    }

pub outer_skip : (sorted outer : List Row) (i : ℕ) (d : Row) → i < length sorted → IsNotBehind outer (get_or sorted i d) → IsOuter sorted outer i → IsOuter sorted outer (i + 1)
outer_skip sorted outer i d l not_behind o =
    record {
      rising = o.rising;
      before = λ x j some le k. o.before x j some (omega (arith, le)) k;
      notes = λ n. by_answer n (lies_in n (get_or sorted i d)) refl ∙ sym (list_any_more (lies_in n) sorted i d l);
    }
  where
    by_answer : (n : Note) (b : Bool) → lies_in n (get_or sorted i d) ≡ b → list_any (lies_in n) outer ≡ (list_any (lies_in n) (take i sorted) || lies_in n (get_or sorted i d))
    by_answer n false e = o.notes n ∙ sym (ap (λ b. list_any (lies_in n) (take i sorted) || b) e ∙ or_false (list_any (lies_in n) (take i sorted)))
    by_answer n true e =
        let some = not_behind.some in
        let before = o.before d i some (omega arith) l in
        let first = starts_first n (get_or sorted i d) e in
        let t = lies_in_wider_row n (get_or sorted i d) (get_or outer (length outer - 1) d) (omega (arith, before, first)) (not_behind.last d) e in
        list_any_at (lies_in n) outer (length outer - 1) d (omega (arith, some)) t
        ∙ sym (ap (λ b. list_any (lies_in n) (take i sorted) || b) e ∙ or_true (list_any (lies_in n) (take i sorted)))
