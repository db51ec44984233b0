-- The System RAM of a map: no byte is in two of its ranges, nor in two of those outside the crash areas.
use Rattle.std.proofs.Common.{◌≡◌, ℕ, ◌+◌, ◌-◌, ◌<◌, ◌≤◌, ◌++◌, List, [], ◌∷◌, Bool, true, false, cond, Ok, Err, refl, sym, ap, ◌∙◌, subst, arith}
use Rattle.std.specs.Prelude.{◌&&◌, ◌||◌, ◌==◌, nat_lt, min, max, filter}
use Rattle.std.specs.List.{count_by, flat_map}
use Rattle.std.proofs.lemmas.Bool.{false≢true, or_parts}
use Rattle.std.proofs.lemmas.Bool.Decides.{nat_tests}
use Rattle.std.proofs.lemmas.List.{append-nil}
use Rattle.std.proofs.lemmas.List.Sums.{sum_by-cons, sum_by-append}
use Rattle.kx_laws.proofs.Results.{ok_same, bind_ok}
use Rattle.text_lines.specs.Lines.{lines}
use Rattle.memory_map.specs.declared.fault.MapFault.TheVariants as faults
use Rattle.memory_map.specs.declared.row.Class.{Class}
use Rattle.memory_map.specs.declared.row.Class.TheVariants as classes
use Rattle.memory_map.specs.declared.row.Row.{Row}
use Rattle.memory_map.specs.Rows.{row_end, is_inside, rows_meet, is_ram_row}
use Rattle.memory_map.specs.inner.Rows.{covers, IsBelow, AreBelow}
use Rattle.memory_map.specs.Maps.{MapValue, nothing, with_row, with_area, ram_pages, before_area, behind_area, without_area, outside, core_ranges}
use Rattle.memory_map.specs.Text.{checked_entry, below_limit, meets_ram, row_onto, class_onto, line_onto, lines_onto, if_ram, map_reading}
use Rattle.memory_map.proofs.Sets.{rows_meet_bytes}

abbrev one_if : Bool → ℕ
one_if b = cond b 1 0

-- how many of the rows have the byte
abbrev pub times : ℕ → List Row → ℕ
times b rows = count_by (is_inside b) rows

times-cons : (b : ℕ) (r : Row) (rows : List Row) → times b (r ∷ rows) ≡ one_if (is_inside b r) + times b rows
times-cons b r rows = sum_by-cons (λ (s : Row). one_if (is_inside b s)) r rows

times-append : (b : ℕ) (xs ys : List Row) → times b (xs ++ ys) ≡ times b xs + times b ys
times-append b xs ys = sum_by-append (λ (s : Row). one_if (is_inside b s)) xs ys

-- rows below 2^46, no two of which have a byte in common
pub record AreApart (rows : List Row) : Type 0 where
  pub below : AreBelow rows
  pub once : (b : ℕ) → times b rows ≤ 1

-- ---- lines
filter-push : (rows : List Row) (r : Row) → filter is_ram_row (rows ++ r ∷ []) ≡ filter is_ram_row rows ++ filter is_ram_row (r ∷ [])
filter-push [] r = refl
filter-push (s ∷ rows) r = go (is_ram_row s) (filter-push rows r)
  where
    go : (b : Bool) → filter is_ram_row (rows ++ r ∷ []) ≡ filter is_ram_row rows ++ filter is_ram_row (r ∷ []) → cond b (s ∷ filter is_ram_row (rows ++ r ∷ [])) (filter is_ram_row (rows ++ r ∷ [])) ≡ cond b (s ∷ filter is_ram_row rows) (filter is_ram_row rows) ++ filter is_ram_row (r ∷ [])
    go true rest = ap (λ xs. s ∷ xs) rest
    go false rest = rest

below-push : (rows : List Row) (r : Row) → AreBelow rows → IsBelow r → AreBelow (rows ++ r ∷ [])
below-push [] r all one = (one, tt)
below-push (s ∷ rows) r all one = (all.0, below-push rows r all.1 one)

-- what meets none of the RAM rows has a byte of none
none_meets : (rows : List Row) (r : Row) (b : ℕ) → meets_ram r rows ≡ false → is_inside b r ≡ true → times b (filter is_ram_row rows) ≡ 0
none_meets [] r b none here = refl
none_meets (s ∷ rows) r b none here =
    let parts = or_parts (is_ram_row s && rows_meet r s) (meets_ram r rows) none in
    go (is_ram_row s) (is_inside b s) refl refl parts.0 (none_meets rows r b parts.1 here)
  where
    go : (x y : Bool) → is_ram_row s ≡ x → is_inside b s ≡ y → (is_ram_row s && rows_meet r s) ≡ false → times b (filter is_ram_row rows) ≡ 0 → times b (cond x (s ∷ filter is_ram_row rows) (filter is_ram_row rows)) ≡ 0
    go false y e f miss rest = rest
    go true false e f miss rest = times-cons b s (filter is_ram_row rows) ∙ ap (λ y. one_if y + times b (filter is_ram_row rows)) f ∙ omega (arith, rest)
    go true true e f miss rest =
        let meet : rows_meet r s ≡ true = (rows_meet_bytes r s).1 (b, here, f) in
        absurd (false≢true (sym miss ∙ ap (λ x. x && rows_meet r s) e ∙ meet))

pushed_once : (rows : List Row) (r : Row) (b : ℕ) (y : Bool) → is_inside b r ≡ y → meets_ram r rows ≡ false → times b (filter is_ram_row rows) ≤ 1 → times b (filter is_ram_row rows ++ r ∷ []) ≤ 1
pushed_once rows r b false f apart once =
    let one : one_if (is_inside b r) ≡ 0 = ap one_if f in
    omega (arith, times-append b (filter is_ram_row rows) (r ∷ []), times-cons b r [], one, once)
pushed_once rows r b true f apart once =
    let one : one_if (is_inside b r) ≡ 1 = ap one_if f in
    omega (arith, times-append b (filter is_ram_row rows) (r ∷ []), times-cons b r [], one, none_meets rows r b apart f)

row_pushed : (rows : List Row) (r : Row) → (is_ram_row r && meets_ram r rows) ≡ false → IsBelow r → AreApart (filter is_ram_row rows) → AreApart (filter is_ram_row (rows ++ r ∷ []))
row_pushed rows r miss below are = subst AreApart (sym (filter-push rows r)) (go (is_ram_row r) refl)
  where
    go : (x : Bool) → is_ram_row r ≡ x → AreApart (filter is_ram_row rows ++ cond x (r ∷ []) [])
    go false e = subst AreApart (sym (append-nil (filter is_ram_row rows))) are
    go true e =
        let apart : meets_ram r rows ≡ false = ap (λ x. x && meets_ram r rows) (sym e) ∙ miss in
        record {
          below = below-push (filter is_ram_row rows) r are.below below;
          once = λ b. pushed_once rows r b (is_inside b r) refl apart (are.once b);
        }

limit_below : (first last kind : ℕ) → IsBelow (below_limit first last kind)
limit_below first last kind = record { end = omega arith }

-- a row that is taken in
row_apart : (n : ℕ) (m more : MapValue) (r : Row) → row_onto n m r ≡ Ok more → IsBelow r → AreApart (filter is_ram_row m.rows) → AreApart (filter is_ram_row more.rows)
row_apart n m more r e below are = go (r.size == 0) (is_ram_row r && meets_ram r m.rows) refl e
  where
    go : (x y : Bool) → (is_ram_row r && meets_ram r m.rows) ≡ y → cond x (Ok m) (cond y (Err (faults.RamOverlaps n)) (Ok (with_row r m))) ≡ Ok more → AreApart (filter is_ram_row more.rows)
    go true y f h = subst (λ (k : MapValue). AreApart (filter is_ram_row k.rows)) (ok_same m more h) are
    go false true f h = cc
    go false false f h = subst (λ (k : MapValue). AreApart (filter is_ram_row k.rows)) (ok_same (with_row r m) more h) (row_pushed m.rows r f below are)

class_apart : (n : ℕ) (m more : MapValue) (k : Class) (first last : ℕ) → class_onto n m k first last ≡ Ok more → AreApart (filter is_ram_row m.rows) → AreApart (filter is_ram_row more.rows)
class_apart n m more classes.Other first last e are = subst (λ (k : MapValue). AreApart (filter is_ram_row k.rows)) (ok_same m more e) are
class_apart n m more classes.CrashArea first last e are = subst (λ (k : MapValue). AreApart (filter is_ram_row k.rows)) (ok_same (with_area (below_limit first last 0) m) more e) are
class_apart n m more (classes.Listed kind) first last e are = row_apart n m more (below_limit first last kind) e (limit_below first last kind) are

line_apart : (n : ℕ) (m more : MapValue) (line : List ℕ) → line_onto n m line ≡ Ok more → AreApart (filter is_ram_row m.rows) → AreApart (filter is_ram_row more.rows)
unfolding line_onto
line_apart n m more line e are =
    let p = bind_ok (checked_entry n line) (λ e. class_onto n m e.2 e.0 e.1) more e in
    class_apart n m more p.0.2 p.0.0 p.0.1 p.2 are

lines_apart : (n : ℕ) (m more : MapValue) (ls : List (List ℕ)) → lines_onto n m ls ≡ Ok more → AreApart (filter is_ram_row m.rows) → AreApart (filter is_ram_row more.rows)
unfolding lines_onto
lines_apart n m more [] e are = subst (λ (k : MapValue). AreApart (filter is_ram_row k.rows)) (ok_same m more e) are
lines_apart n m more (line ∷ ls) e are =
    let p = bind_ok (line_onto n m line) (λ k. lines_onto (n + 1) k ls) more e in
    lines_apart (n + 1) p.0 more ls p.2 (line_apart n m p.0 line p.1 are)

ram_apart : (text : List ℕ) (m : MapValue) → map_reading text ≡ Ok m → AreApart (filter is_ram_row m.rows)
unfolding map_reading
ram_apart text m e =
    let p = bind_ok (lines_onto 1 nothing (lines text)) if_ram m e in
    let are : AreApart (filter is_ram_row p.0.rows) = lines_apart 1 nothing p.0 (lines text) p.1 (record { below = tt; once = λ b. omega arith }) in
    same p.0 (ram_pages p.0 == 0) p.2 are
  where
    same : (k : MapValue) (x : Bool) → cond x (Err faults.NoRam) (Ok k) ≡ Ok m → AreApart (filter is_ram_row k.rows) → AreApart (filter is_ram_row m.rows)
    same k true h are = cc
    same k false h are = subst (λ (k : MapValue). AreApart (filter is_ram_row k.rows)) (ok_same k m h) are

-- ---- what is outside the areas
apart_times : (a : ℕ) (r area : Row) (x y : Bool) → nat_lt r.start area.start ≡ x → nat_lt (row_end area) (row_end r) ≡ y → times a (cond x (record { start = r.start; size = min (row_end r) area.start - r.start; kind = r.kind } ∷ []) []) + times a (cond y (record { start = max r.start (row_end area); size = row_end r - max r.start (row_end area); kind = r.kind } ∷ []) []) ≤ one_if (is_inside a r)
apart_times a r area true true e f = grind (arith, nat_tests)
apart_times a r area true false e f = grind (arith, nat_tests)
apart_times a r area false true e f = grind (arith, nat_tests)
apart_times a r area false false e f = omega arith

part_times : (a : ℕ) (area r : Row) (x : Bool) → (area.size == 0) ≡ x → times a (cond x (r ∷ []) (before_area area r ++ behind_area area r)) ≤ one_if (is_inside a r)
part_times a area r true e = omega (arith, times-cons a r [])
part_times a area r false e =
    omega (arith, times-append a (before_area area r) (behind_area area r), apart_times a r area (nat_lt r.start area.start) (nat_lt (row_end area) (row_end r)) refl refl)

without_times : (a : ℕ) (area r : Row) → times a (without_area area r) ≤ one_if (is_inside a r)
unfolding without_area
without_times a area r = part_times a area r (area.size == 0) refl

each_times : (a : ℕ) (area : Row) (rows : List Row) → times a (flat_map (without_area area) rows) ≤ times a rows
each_times a area [] = omega arith
each_times a area (r ∷ rows) =
    omega (arith, times-append a (without_area area r) (flat_map (without_area area) rows), without_times a area r, each_times a area rows, times-cons a r rows)

outside_times : (a : ℕ) (areas rows : List Row) → times a (outside areas rows) ≤ times a rows
unfolding outside
outside_times a [] rows = omega arith
outside_times a (area ∷ areas) rows =
    omega (arith, outside_times a areas (flat_map (without_area area) rows), each_times a area rows)

below-append : (xs ys : List Row) → AreBelow xs → AreBelow ys → AreBelow (xs ++ ys)
below-append [] ys a b = b
below-append (x ∷ xs) ys a b = (a.0, below-append xs ys a.1 b)

part_below : (area r : Row) (x y z : Bool) → nat_lt r.start area.start ≡ y → nat_lt (row_end area) (row_end r) ≡ z → IsBelow r → AreBelow (cond x (r ∷ []) (cond y (record { start = r.start; size = min (row_end r) area.start - r.start; kind = r.kind } ∷ []) [] ++ cond z (record { start = max r.start (row_end area); size = row_end r - max r.start (row_end area); kind = r.kind } ∷ []) []))
part_below area r true y z e f b = (b, tt)
part_below area r false true true e f b =
    let first : r.start < area.start = grind (arith, nat_tests) in
    let last : row_end area < row_end r = grind (arith, nat_tests) in
    (record { end = omega (arith, first, b.end) }, (record { end = omega (arith, last, b.end) }, tt))
part_below area r false true false e f b =
    let first : r.start < area.start = grind (arith, nat_tests) in
    (record { end = omega (arith, first, b.end) }, tt)
part_below area r false false true e f b =
    let last : row_end area < row_end r = grind (arith, nat_tests) in
    (record { end = omega (arith, last, b.end) }, tt)
part_below area r false false false e f b = tt

without_below : (area r : Row) → IsBelow r → AreBelow (without_area area r)
unfolding without_area
without_below area r b = part_below area r (area.size == 0) (nat_lt r.start area.start) (nat_lt (row_end area) (row_end r)) refl refl b

each_below : (area : Row) (rows : List Row) → AreBelow rows → AreBelow (flat_map (without_area area) rows)
each_below area [] all = tt
each_below area (r ∷ rows) all = below-append (without_area area r) (flat_map (without_area area) rows) (without_below area r all.0) (each_below area rows all.1)

outside_below : (areas rows : List Row) → AreBelow rows → AreBelow (outside areas rows)
unfolding outside
outside_below [] rows all = all
outside_below (area ∷ areas) rows all = outside_below areas (flat_map (without_area area) rows) (each_below area rows all)

cover_is_counted : (b : ℕ) (rows : List Row) → covers b rows ≡ true → 1 ≤ times b rows
cover_is_counted b [] h = absurd (false≢true h)
cover_is_counted b (r ∷ rows) h = go (is_inside b r) refl h (λ k. cover_is_counted b rows k)
  where
    go : (x : Bool) → is_inside b r ≡ x → (x || covers b rows) ≡ true → (covers b rows ≡ true → 1 ≤ times b rows) → 1 ≤ times b (r ∷ rows)
    go true e h ih = let one : one_if (is_inside b r) ≡ 1 = ap one_if e in omega (arith, times-cons b r rows, one)
    go false e h ih = let some = ih h in omega (arith, times-cons b r rows, some)

-- the ranges of a map that was read
pub ranges_below : (text : List ℕ) (m : MapValue) → map_reading text ≡ Ok m → AreBelow (core_ranges m)
ranges_below text m e = outside_below m.areas (filter is_ram_row m.rows) (ram_apart text m e).below

pub ranges_once : (text : List ℕ) (m : MapValue) (b : ℕ) → map_reading text ≡ Ok m → covers b (core_ranges m) ≡ true → times b (core_ranges m) ≡ 1
ranges_once text m b e h =
    omega (arith, cover_is_counted b (core_ranges m) h, outside_times b m.areas (filter is_ram_row m.rows), (ram_apart text m e).once b)
