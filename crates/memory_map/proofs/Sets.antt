-- Rows as sets of bytes.
use Rattle.std.proofs.Common.{◌≡◌, ◌<◌, ◌≤◌, ℕ, ◌+◌, ◌-◌, ◌*◌, ◌/◌, List, [], ◌∷◌, ◌++◌, refl, arith, ◌∙◌, Bool, true, false}
use Rattle.std.specs.Prelude.{IsTrue, ◌↔◌, not, ◌&&◌, ◌||◌, min, max, nat_lt, nat_le, ◌==◌, if◌then◌else◌}
use Rattle.std.specs.List.{flat_map, list_any}
use Rattle.std.proofs.lemmas.List.Folds.{list_any-append}
use Rattle.memory_map.specs.Rows.{row_end, is_inside, rows_meet, holds_page, meets_page}
use Rattle.memory_map.specs.inner.Rows.{covers}
use Rattle.std.proofs.lemmas.Bool.{and_from, and_parts, le-leb, lt-ltb, leb-true, ltb-true}
use Rattle.memory_map.specs.Maps.{outside, without_area, before_area, behind_area}
use Rattle.memory_map.specs.declared.row.Row.{Row}

union_without : (x y z : Bool) → ((x && not y) || (z && not y)) ≡ ((x || z) && not y)
union_without true true true = refl
union_without true true false = refl
union_without true false z = refl
union_without false true true = refl
union_without false true false = refl
union_without false false true = refl
union_without false false false = refl

twice : (x y z : Bool) → ((x && not y) && not z) ≡ (x && not (y || z))
twice true true true = refl
twice true true false = refl
twice true false z = refl
twice false y z = refl

all : (x : Bool) → x ≡ (x && not false)
all true = refl
all false = refl

inside_before : (s n t b : ℕ) (z : Bool) → nat_lt s t ≡ z → (k : ℕ) → list_any (is_inside b) (if z then record { start = s; size = min (s + n) t - s; kind = k } ∷ [] else []) ≡ (nat_le s b && nat_lt b (min (s + n) t))
inside_before s n t b true h k = at (omega (arith, lt_of s t h))
  where
    lt_of : (x y : ℕ) → nat_lt x y ≡ true → x < y
    lt_of x y h = grind arith

    at : s < t → ((nat_le s b && nat_lt b (s + (min (s + n) t - s))) || false) ≡ (nat_le s b && nat_lt b (min (s + n) t))
    at less = grind arith
inside_before s n t b false h k = grind arith

inside_after : (s n e b : ℕ) (z : Bool) → nat_lt e (s + n) ≡ z → (k : ℕ) → list_any (is_inside b) (if z then record { start = max s e; size = s + n - max s e; kind = k } ∷ [] else []) ≡ (nat_le (max s e) b && nat_lt b (s + n))
inside_after s n e b true h k = at (lt_of e (s + n) h)
  where
    lt_of : (x y : ℕ) → nat_lt x y ≡ true → x < y
    lt_of x y h = grind arith

    at : e < s + n → ((nat_le (max s e) b && nat_lt b (max s e + (s + n - max s e))) || false) ≡ (nat_le (max s e) b && nat_lt b (s + n))
    at less = grind arith
inside_after s n e b false h k = grind arith

lower : (x t b : ℕ) → nat_lt b (min x t) ≡ (nat_lt b x && not (nat_le t b))
lower x t b = grind arith

higher : (s e b : ℕ) → nat_le (max s e) b ≡ (nat_le s b && not (nat_lt b e))
higher s e b = grind arith

table : (p q u w : Bool) → ((p && (q && not u)) || ((p && not w) && q)) ≡ ((p && q) && not (u && w))
table false q u w = refl
table true false u true = refl
table true false u false = refl
table true true false true = refl
table true true false false = refl
table true true true true = refl
table true true true false = refl

apart : (s n t m b : ℕ) → ((nat_le s b && nat_lt b (min (s + n) t)) || (nat_le (max s (t + m)) b && nat_lt b (s + n))) ≡ ((nat_le s b && nat_lt b (s + n)) && not (nat_le t b && nat_lt b (t + m)))
apart s n t m b = rw (lower (s + n) t b, higher s (t + m) b) (table (nat_le s b) (nat_lt b (s + n)) (nat_le t b) (nat_lt b (t + m)))

empty : (s n t m b : ℕ) → (m == 0) ≡ true → ((nat_le s b && nat_lt b (s + n)) || false) ≡ ((nat_le s b && nat_lt b (s + n)) && not (nat_le t b && nat_lt b (t + m)))
empty s n t m b h = grind arith

two : (area row : Row) (b : ℕ) (z : Bool) → (area.size == 0) ≡ z → list_any (is_inside b) (if z then row ∷ [] else before_area area row ++ behind_area area row) ≡ (is_inside b row && not (is_inside b area))
two area row b true h = empty row.start row.size area.start area.size b h
two area row b false h =
    list_any-append (is_inside b) (before_area area row) (behind_area area row) ∙ (rw (inside_before row.start row.size area.start b _ refl row.kind, inside_after row.start row.size (area.start + area.size) b _ refl row.kind) (apart row.start row.size area.start area.size b))

one : (area row : Row) (b : ℕ) → covers b (without_area area row) ≡ (is_inside b row && not (is_inside b area))
unfolding without_area
one area row b = two area row b _ refl

each : (area : Row) (rows : List Row) (b : ℕ) → covers b (flat_map (without_area area) rows) ≡ (covers b rows && not (is_inside b area))
each area [] b = refl
each area (row ∷ rows) b =
    list_any-append (is_inside b) (without_area area row) (flat_map (without_area area) rows) ∙ (rw (one area row b, each area rows b) (union_without (is_inside b row) (is_inside b area) (covers b rows)))

pub difference : (areas rows : List Row) (b : ℕ) → covers b (outside areas rows) ≡ (covers b rows && not (covers b areas))
unfolding outside
difference [] rows b = all (covers b rows)
difference (area ∷ areas) rows b =
    difference areas (flat_map (without_area area) rows) b ∙ (rw (each area rows b) (twice (covers b rows) (is_inside b area) (covers b areas)))

-- ---- what the tests of rows and pages say of single bytes
inside_from : (b : ℕ) (r : Row) → r.start ≤ b → b < row_end r → is_inside b r ≡ true
inside_from b r h k = and_from (nat_le r.start b) (nat_lt b (row_end r)) (le-leb r.start b h) (lt-ltb b (row_end r) k)

inside_parts : (b : ℕ) (r : Row) → is_inside b r ≡ true → (r.start ≤ b) × (b < row_end r)
inside_parts b r h =
    let t = and_parts (nat_le r.start b) (nat_lt b (row_end r)) h in
    (leb-true r.start b t.0, ltb-true b (row_end r) t.1)

pub holds_bytes : (r : Row) (p : ℕ) → IsTrue (holds_page p r) ↔ ((b : ℕ) → b / 4096 ≡ p → IsTrue (is_inside b r))
holds_bytes r p = (λ h b e. down h b e, λ f. up f)
  where
    down : holds_page p r ≡ true → (b : ℕ) → b / 4096 ≡ p → is_inside b r ≡ true
    down h b e =
        let t = and_parts (nat_le r.start (4096 * p)) (nat_le (4096 * p + 4096) (row_end r)) h in
        let low : r.start ≤ 4096 * p = leb-true r.start (4096 * p) t.0 in
        let high : 4096 * p + 4096 ≤ row_end r = leb-true (4096 * p + 4096) (row_end r) t.1 in
        inside_from b r (omega (arith, e, low)) (omega (arith, e, high))

    up : ((b : ℕ) → b / 4096 ≡ p → is_inside b r ≡ true) → holds_page p r ≡ true
    up f =
        let first = inside_parts (4096 * p) r (f (4096 * p) (omega arith)) in
        let last = inside_parts (4096 * p + 4095) r (f (4096 * p + 4095) (omega arith)) in
        and_from (nat_le r.start (4096 * p)) (nat_le (4096 * p + 4096) (row_end r)) (le-leb r.start (4096 * p) first.0) (le-leb (4096 * p + 4096) (row_end r) (omega (arith, last)))

pub meets_bytes : (r : Row) (p : ℕ) → IsTrue (meets_page p r) ↔ ((b : ℕ) × (b / 4096 ≡ p) × IsTrue (is_inside b r))
meets_bytes r p = (λ h. down h, λ w. up w.0 w.1 w.2)
  where
    down : meets_page p r ≡ true → (b : ℕ) × (b / 4096 ≡ p) × (is_inside b r ≡ true)
    down h =
        let t : max r.start (4096 * p) < min (row_end r) (4096 * p + 4096) = ltb-true (max r.start (4096 * p)) (min (row_end r) (4096 * p + 4096)) h in
        (max r.start (4096 * p), omega (arith, t), inside_from (max r.start (4096 * p)) r (omega arith) (omega (arith, t)))

    up : (b : ℕ) → b / 4096 ≡ p → is_inside b r ≡ true → meets_page p r ≡ true
    up b e i = let t = inside_parts b r i in lt-ltb (max r.start (4096 * p)) (min (row_end r) (4096 * p + 4096)) (omega (arith, e, t))

pub rows_meet_bytes : (r s : Row) → IsTrue (rows_meet r s) ↔ ((b : ℕ) × IsTrue (is_inside b r) × IsTrue (is_inside b s))
rows_meet_bytes r s = (λ h. down h, λ w. up w.0 w.1 w.2)
  where
    down : rows_meet r s ≡ true → (b : ℕ) × (is_inside b r ≡ true) × (is_inside b s ≡ true)
    down h =
        let t : max r.start s.start < min (row_end r) (row_end s) = ltb-true (max r.start s.start) (min (row_end r) (row_end s)) h in
        (max r.start s.start, inside_from (max r.start s.start) r (omega arith) (omega (arith, t)), inside_from (max r.start s.start) s (omega arith) (omega (arith, t)))

    up : (b : ℕ) → is_inside b r ≡ true → is_inside b s ≡ true → rows_meet r s ≡ true
    up b i j = let t = inside_parts b r i in let u = inside_parts b s j in lt-ltb (max r.start s.start) (min (row_end r) (row_end s)) (omega (arith, t, u))
