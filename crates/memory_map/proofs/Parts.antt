-- Rows that rise: a set of bytes has one such list, and areas that rise are taken out of a row in one walk.
use Rattle.std.proofs.Common.{◌≡◌, ℕ, zero, suc, ◌+◌, ◌-◌, ◌<◌, ◌≤◌, ◌^◌, List, [], ◌∷◌, ◌++◌, Bool, true, false, refl, sym, ap, ◌∙◌, subst, arith, inl, inr, length, take, drop, get_or, append_assoc, append-nil}
use Rattle.std.specs.Prelude.{Result, Ok, Err, IfOk, ◌&&◌, ◌||◌, ◌==◌, not, nat_lt, nat_le, min, max, if◌then◌else◌}
use Rattle.std.specs.List.{flat_map, All, AllByRecursion}
use Rattle.std.proofs.lemmas.Bool.Decides.{nat_tests}
use Rattle.std.proofs.lemmas.Bool.{cases_lt, lt-ltb, le-ltb, eq-eqb, ne_eqb, or_left, or_from, both_ways}
use Rattle.std.proofs.lemmas.Grind.{flat_map-append}
use Rattle.std.proofs.lemmas.List.Folds.{list_any-append, list_any_more}
use Rattle.std.proofs.lemmas.List.{drop_more, take_more}
use Rattle.std.specs.List.Sorted.{IsNonDecreasingBy, IsPermutation}
use Rattle.std.proofs.lemmas.List.Sorted.{list_any-IsPermutation, All-permutation}
use Rattle.memory_map.specs.declared.row.Row.{Row}
use Rattle.memory_map.specs.Rows.{row_end, is_inside}
use Rattle.memory_map.specs.inner.Rows.{covers, AreParts, StartUpTo, IsBelow}
use Rattle.memory_map.specs.Maps.{before_area, behind_area, without_area, outside}
use Rattle.memory_map.specs.inner.Walk.{part, walk}
use Rattle.memory_map.proofs.Sets.{difference}
use Rattle.kx_laws.proofs.Booleans.{or_second, or_false, or_shift}

-- ---- one form
past_none : (r : Row) (q : ℕ) → q < r.start → is_inside q r ≡ false
past_none r q h = grind (arith, nat_tests)

pub behind_none : (r : Row) (q : ℕ) → row_end r ≤ q → is_inside q r ≡ false
behind_none r q h = grind (arith, nat_tests)

inside_some : (r : Row) (q : ℕ) → r.start ≤ q → q < row_end r → is_inside q r ≡ true
inside_some r q h k = grind (arith, nat_tests)

pub low_none : (k b : ℕ) (rs : List Row) (q : ℕ) → AreParts k b rs → q < b → covers q rs ≡ false
low_none k b [] q a h = refl
low_none k b (r ∷ rs) q a h = or_from _ _ (past_none r q (omega arith)) (low_none k (row_end r + 1) rs q a.4 (omega arith))

same_row : (x y : Row) → x.start ≡ y.start → x.size ≡ y.size → x.kind ≡ y.kind → x ≡ y
same_row x y e f g =
    let P : ℕ → Row = λ n. record { start = n; size = x.size; kind = x.kind } in
    let Q : ℕ → Row = λ n. record { start = y.start; size = n; kind = x.kind } in
    let R : ℕ → Row = λ n. record { start = y.start; size = y.size; kind = n } in
    ap P e ∙ ap Q f ∙ ap R g

abbrev SameSet : List Row → List Row → Type 0
SameSet xs ys = (q : ℕ) → covers q xs ≡ covers q ys

first_le : (k b c : ℕ) (x y : Row) (xs ys : List Row) → AreParts k b (x ∷ xs) → AreParts k c (y ∷ ys) → SameSet (x ∷ xs) (y ∷ ys) → y.start ≤ x.start
first_le k b c x y xs ys a d s =
    elim (cases_lt x.start y.start) [
      | inl h ↦ let f : covers x.start (y ∷ ys) ≡ false = low_none k y.start (y ∷ ys) x.start (omega arith, d.1, d.2, d.3, d.4) h in
          let t : covers x.start (x ∷ xs) ≡ true = or_left _ _ (inside_some x x.start (omega arith) (omega (arith, a.1))) in
          absurd (both_ways (covers x.start (y ∷ ys)) f (sym (s x.start) ∙ t))
      | inr h ↦ h
    ]

end_le : (k b c : ℕ) (x y : Row) (xs ys : List Row) → AreParts k b (x ∷ xs) → AreParts k c (y ∷ ys) → SameSet (x ∷ xs) (y ∷ ys) → x.start ≡ y.start → row_end y ≤ row_end x
end_le k b c x y xs ys a d s e =
    elim (cases_lt (row_end x) (row_end y)) [
      | inl h ↦ let f : covers (row_end x) (x ∷ xs) ≡ false = or_from _ _ (behind_none x (row_end x) (omega arith)) (low_none k (row_end x + 1) xs (row_end x) a.4 (omega arith)) in
          let t : covers (row_end x) (y ∷ ys) ≡ true = or_left _ _ (inside_some y (row_end x) (omega arith) h) in
          absurd (both_ways (covers (row_end x) (x ∷ xs)) f (s (row_end x) ∙ t))
      | inr h ↦ h
    ]

rest_same : (k b c : ℕ) (x y : Row) (xs ys : List Row) → AreParts k b (x ∷ xs) → AreParts k c (y ∷ ys) → SameSet (x ∷ xs) (y ∷ ys) → row_end x ≡ row_end y → SameSet xs ys
rest_same k b c x y xs ys a d s e q =
    elim (cases_lt q (row_end x)) [
      | inl h ↦ low_none k (row_end x + 1) xs q a.4 (omega arith) ∙ sym (low_none k (row_end y + 1) ys q d.4 (omega arith))
      | inr h ↦ sym (or_second _ _ (behind_none x q h)) ∙ s q ∙ or_second _ _ (behind_none y q (omega arith))
    ]

pub same_parts : (k b c : ℕ) (xs ys : List Row) → AreParts k b xs → AreParts k c ys → SameSet xs ys → xs ≡ ys
same_parts k b c [] [] a d s = refl
same_parts k b c [] (y ∷ ys) a d s = absurd (both_ways (covers y.start (y ∷ ys)) (sym (s y.start)) (or_left _ _ (inside_some y y.start (omega arith) (omega (arith, d.1)))))
same_parts k b c (x ∷ xs) [] a d s = absurd (both_ways (covers x.start (x ∷ xs)) (s x.start) (or_left _ _ (inside_some x x.start (omega arith) (omega (arith, a.1)))))
same_parts k b c (x ∷ xs) (y ∷ ys) a d s =
    let t : SameSet (y ∷ ys) (x ∷ xs) = λ q. sym (s q) in
    let p = first_le k b c x y xs ys a d s in
    let q = first_le k c b y x ys xs d a t in
    let e : x.start ≡ y.start = omega arith in
    let u = end_le k b c x y xs ys a d s e in
    let v = end_le k c b y x ys xs d a t (sym e) in
    let f : x.size ≡ y.size = omega arith in
    let g : row_end x ≡ row_end y = omega arith in
    let z = same_parts k (row_end x + 1) (row_end y + 1) xs ys a.4 d.4 (rest_same k b c x y xs ys a d s g) in
    ap (λ r. r ∷ xs) (same_row x y e f (a.3 ∙ sym d.3)) ∙ ap (λ rs. y ∷ rs) z

-- ---- parts
pub parts_lower : (k b c : ℕ) (rs : List Row) → c ≤ b → AreParts k b rs → AreParts k c rs
parts_lower k b c [] h a = tt
parts_lower k b c (r ∷ rs) h a = (omega arith, a.1, a.2, a.3, a.4)

part_ahead : (k b s e : ℕ) (ys : List Row) → b ≤ s → e ≤ 2 ^ 46 → (s < e → AreParts k (e + 1) ys) → (e ≤ s → AreParts k b ys) → AreParts k b (part s e k ++ ys)
part_ahead k b s e ys l m f g =
    elim (cases_lt s e) [
      | inl h ↦ rw (lt-ltb s e h) (l, omega arith, omega arith, refl, parts_lower k (e + 1) (s + (e - s) + 1) ys (omega arith) (f h))
      | inr h ↦ rw (le-ltb s e h) (g h)
    ]

in_part_some : (s e q : ℕ) → s < e → ((nat_le s q && nat_lt q (s + (e - s))) || false) ≡ (nat_le s q && nat_lt q e)
in_part_some s e q h = grind (arith, nat_tests)

in_part_none : (s e q : ℕ) → e ≤ s → false ≡ (nat_le s q && nat_lt q e)
in_part_none s e q h = grind (arith, nat_tests)

in_part : (s e k q : ℕ) → covers q (part s e k) ≡ (nat_le s q && nat_lt q e)
in_part s e k q = elim (cases_lt s e) [ inl h ↦ rw (lt-ltb s e h) (in_part_some s e q h) | inr h ↦ rw (le-ltb s e h) (in_part_none s e q h) ]

part_none : (s e k : ℕ) → e ≤ s → part s e k ≡ []
part_none s e k h = rw (le-ltb s e h) refl

-- ---- the walk
and_true : (x y : Bool) → (x && y) ≡ (x && (y && true))
and_true true true = refl
and_true true false = refl
and_true false y = refl

walk_low : (at s n e q : ℕ) → q < s + n → ((nat_le at q && nat_lt q (min s e)) || (nat_le (max at (s + n)) q && (nat_lt q e && true))) ≡ (nat_le at q && (nat_lt q e && not ((nat_le s q && nat_lt q (s + n)) || false)))
walk_low at s n e q h = grind (arith, nat_tests)

walk_high : (at s n e q : ℕ) (z : Bool) → s + n ≤ q → ((nat_le at q && nat_lt q (min s e)) || (nat_le (max at (s + n)) q && (nat_lt q e && not z))) ≡ (nat_le at q && (nat_lt q e && not ((nat_le s q && nat_lt q (s + n)) || z)))
walk_high at s n e q z h = grind (arith, nat_tests)

has_walk : (b at e k : ℕ) (areas : List Row) (q : ℕ) → AreParts 0 b areas → covers q (walk at e k areas) ≡ (nat_le at q && (nat_lt q e && not (covers q areas)))
has_walk b at e k [] q a = in_part at e k q ∙ and_true (nat_le at q) (nat_lt q e)
has_walk b at e k (r ∷ rs) q a =
    list_any-append (is_inside q) (part at (min r.start e) k) (walk (max at (row_end r)) e k rs)
    ∙ ap (λ x. x || covers q (walk (max at (row_end r)) e k rs)) (in_part at (min r.start e) k q)
    ∙ ap (λ x. (nat_le at q && nat_lt q (min r.start e)) || x) (has_walk (row_end r + 1) (max at (row_end r)) e k rs q a.4)
    ∙ elim (cases_lt q (row_end r)) [
      | inl h ↦ let none : covers q rs ≡ false = low_none 0 (row_end r + 1) rs q a.4 (omega arith) in
          ap (λ z. (nat_le at q && nat_lt q (min r.start e)) || (nat_le (max at (row_end r)) q && (nat_lt q e && not z))) none ∙ walk_low at r.start r.size e q h ∙ ap (λ z. nat_le at q && (nat_lt q e && not (is_inside q r || z))) (sym none)
      | inr h ↦ walk_high at r.start r.size e q (covers q rs) h
    ]

parts_walk : (b at e k : ℕ) (areas : List Row) → AreParts 0 b areas → e ≤ 2 ^ 46 → AreParts k at (walk at e k areas)
parts_walk b at e k [] a m = subst (λ (zs : List Row). AreParts k at zs) (append-nil (part at e k)) (part_ahead k at at e [] (omega arith) m (λ h. tt) (λ h. tt))
parts_walk b at e k (r ∷ rs) a m =
    let ih : AreParts k (max at (row_end r)) (walk (max at (row_end r)) e k rs) = parts_walk (row_end r + 1) (max at (row_end r)) e k rs a.4 m in
    part_ahead k at at (min r.start e) (walk (max at (row_end r)) e k rs) (omega arith) (omega arith)
    (λ h. parts_lower k (max at (row_end r)) (min r.start e + 1) _ (omega (arith, a.1)) ih)
    (λ h. parts_lower k (max at (row_end r)) at _ (omega arith) ih)

walk_past : (at e k : ℕ) (areas : List Row) → e ≤ at → walk at e k areas ≡ []
walk_past at e k [] h = part_none at e k h
walk_past at e k (a ∷ rest) h = ap (λ y. y ++ walk (max at (row_end a)) e k rest) (part_none at (min a.start e) k (omega arith)) ∙ walk_past (max at (row_end a)) e k rest (omega arith)

walk_stop : (at e k : ℕ) (a : Row) (rest : List Row) → e ≤ a.start → walk at e k (a ∷ rest) ≡ part at e k
walk_stop at e k a rest h =
    let m : min a.start e ≡ e = omega arith in
    ap (λ x. part at x k ++ walk (max at (row_end a)) e k rest) m ∙ ap (λ y. part at e k ++ y) (walk_past (max at (row_end a)) e k rest (omega arith)) ∙ append-nil (part at e k)

walk_pass : (at e k : ℕ) (a : Row) (rest : List Row) → row_end a ≤ at → walk at e k (a ∷ rest) ≡ walk at e k rest
walk_pass at e k a rest h =
    let m : max at (row_end a) ≡ at = omega arith in
    ap (λ y. y ++ walk (max at (row_end a)) e k rest) (part_none at (min a.start e) k (omega arith)) ∙ ap (λ x. walk x e k rest) m

-- areas before one that starts at `at` or before it take nothing out
walk_skip : (b at e k : ℕ) (areas : List Row) (n : ℕ) → AreParts 0 b areas → n < length areas → ((j : ℕ) (d : Row) → j ≤ n → (get_or areas j d).start ≤ at) → walk at e k areas ≡ walk at e k (drop n areas)
walk_skip b at e k areas zero a m f = refl
walk_skip b at e k [] (suc n) a m f = absurd (omega arith)
walk_skip b at e k (r ∷ []) (suc n) a m f = absurd (omega arith)
walk_skip b at e k (r ∷ s ∷ rest) (suc n) a m f =
    let two : s.start ≤ at = f 1 r (omega arith) in
    walk_pass at e k r (s ∷ rest) (omega (arith, a.4.0, two)) ∙ walk_skip (row_end r + 1) at e k (s ∷ rest) n a.4 (omega arith) (λ j d l. f (suc j) d (omega arith))

pub walk_near : (b at e k : ℕ) (areas : List Row) (n i : ℕ) → AreParts 0 b areas → n ≤ length areas → i ≡ n - 1 → ((j : ℕ) (d : Row) → j < n → (get_or areas j d).start ≤ at) → walk at e k areas ≡ walk at e k (drop i areas)
walk_near b at e k areas zero i a m s f =
    let z : 0 ≡ i = omega (arith, s) in
    ap (λ x. walk at e k (drop x areas)) z
walk_near b at e k areas (suc n) i a m s f =
    let z : n ≡ i = omega (arith, s) in
    walk_skip b at e k areas n a (omega arith) (λ j d l. f j d (omega arith)) ∙ ap (λ x. walk at e k (drop x areas)) z

-- ---- areas taken out one after another
before_is : (r a : Row) → 0 < r.size → nat_lt r.start a.start ≡ nat_lt r.start (min (row_end r) a.start)
before_is r a h = grind (arith, nat_tests)

behind_is : (r a : Row) → 0 < r.size → nat_lt (row_end a) (row_end r) ≡ nat_lt (max r.start (row_end a)) (row_end r)
behind_is r a h = grind (arith, nat_tests)

without_parts : (a r : Row) → 0 < a.size → 0 < r.size → without_area a r ≡ part r.start (min (row_end r) a.start) r.kind ++ part (max r.start (row_end a)) (row_end r) r.kind
unfolding without_area
without_parts a r h k =
    let some : (a.size == 0) ≡ false = ne_eqb a.size 0 (λ z. omega (arith, z, h)) in
    let one : before_area a r ≡ part r.start (min (row_end r) a.start) r.kind = ap (λ (z : Bool). if z then record { start = r.start; size = min (row_end r) a.start - r.start; kind = r.kind } ∷ [] else []) (before_is r a k) in
    let two : behind_area a r ≡ part (max r.start (row_end a)) (row_end r) r.kind = ap (λ (z : Bool). if z then record { start = max r.start (row_end a); size = row_end r - max r.start (row_end a); kind = r.kind } ∷ [] else []) (behind_is r a k) in
    rw some (ap (λ y. y ++ behind_area a r) one ∙ ap (λ y. part r.start (min (row_end r) a.start) r.kind ++ y) two)

without_none : (a : Row) (rs : List Row) → a.size ≡ 0 → flat_map (without_area a) rs ≡ rs
unfolding without_area
without_none a [] h = refl
without_none a (r ∷ rs) h = rw (eq-eqb a.size 0 h, without_none a rs h) refl

parts_without : (k b : ℕ) (a : Row) (rs : List Row) → 0 < a.size → AreParts k b rs → AreParts k b (flat_map (without_area a) rs)
parts_without k b a [] h p = tt
parts_without k b a (r ∷ rs) h p =
    let w : List Row = flat_map (without_area a) rs in
    let ih : AreParts k (row_end r + 1) w = parts_without k (row_end r + 1) a rs h p.4 in
    let x : List Row = part r.start (min (row_end r) a.start) k in
    let y : List Row = part (max r.start (row_end a)) (row_end r) k in
    let e : without_area a r ++ w ≡ x ++ (y ++ w) = ap (λ z. z ++ w) (without_parts a r h p.1 ∙ ap (λ (n : ℕ). part r.start (min (row_end r) a.start) n ++ part (max r.start (row_end a)) (row_end r) n) p.3) ∙ append_assoc x y w in
    subst (λ (zs : List Row). AreParts k b zs) (sym e) (part_ahead k b r.start (min (row_end r) a.start) (y ++ w) p.0 (omega (arith, p.2))
    (λ l. part_ahead k (min (row_end r) a.start + 1) (max r.start (row_end a)) (row_end r) w (omega (arith, h)) p.2 (λ m. ih) (λ m. parts_lower k (row_end r + 1) (min (row_end r) a.start + 1) w (omega arith) ih))
    (λ l. part_ahead k b (max r.start (row_end a)) (row_end r) w (omega (arith, p.0)) p.2 (λ m. ih) (λ m. parts_lower k (row_end r + 1) b w (omega (arith, p.0)) ih)))

parts_outside : (k b : ℕ) (areas rs : List Row) → AreParts k b rs → AreParts k b (outside areas rs)
unfolding outside
parts_outside k b [] rs p = p
parts_outside k b (a ∷ areas) rs p =
    parts_outside k b areas (flat_map (without_area a) rs) (elim (cases_lt 0 a.size) [ inl h ↦ parts_without k b a rs h p | inr h ↦ subst (λ (zs : List Row). AreParts k b zs) (sym (without_none a rs (omega arith))) p ])

pub outside-append : (areas xs ys : List Row) → outside areas (xs ++ ys) ≡ outside areas xs ++ outside areas ys
unfolding outside
outside-append [] xs ys = refl
outside-append (a ∷ areas) xs ys = ap (outside areas) (flat_map-append (without_area a) xs ys) ∙ outside-append areas (flat_map (without_area a) xs) (flat_map (without_area a) ys)

pub outside-none : (areas : List Row) → outside areas [] ≡ []
unfolding outside
outside-none [] = refl
outside-none (a ∷ areas) = outside-none areas

shape : (x y z : Bool) → (x && (y && not z)) ≡ (((x && y) || false) && not z)
shape true true z = refl
shape true false z = refl
shape false y z = refl

-- one walk along areas of the same bytes gives what taking all areas out gives
pub walk_is : (all areas : List Row) (r : Row) → AreParts 0 0 areas → 0 < r.size → row_end r ≤ 2 ^ 46 → ((q : ℕ) → covers q all ≡ covers q areas) → walk r.start (row_end r) r.kind areas ≡ outside all (r ∷ [])
walk_is all areas r a some end same =
    same_parts r.kind r.start r.start _ _ (parts_walk 0 r.start (row_end r) r.kind areas a end) (parts_outside r.kind r.start all (r ∷ []) (omega arith, some, end, refl, tt))
    (λ q. has_walk 0 r.start (row_end r) r.kind areas q a ∙ ap (λ z. nat_le r.start q && (nat_lt q (row_end r) && not z)) (sym (same q)) ∙ shape (nat_le r.start q) (nat_lt q (row_end r)) (covers q all) ∙ sym (difference all (r ∷ []) q))

-- ---- turns of the walk
pub walk_turn : (made new init : List Row) (at e k : ℕ) (a : Row) (xs rest : List Row) → xs ≡ a ∷ rest → a.start < e → new ≡ made ++ part at a.start k → made ++ walk at e k xs ≡ init → new ++ walk (max at (row_end a)) e k rest ≡ init
walk_turn made new init at e k a xs rest split less n h =
    let m : min a.start e ≡ a.start = omega arith in
    ap (λ y. y ++ walk (max at (row_end a)) e k rest) n ∙ append_assoc made (part at a.start k) (walk (max at (row_end a)) e k rest)
    ∙ ap (λ x. made ++ (part at x k ++ walk (max at (row_end a)) e k rest)) (sym m) ∙ ap (λ y. made ++ walk at e k y) (sym split) ∙ h

pub walk_end : (made new init : List Row) (at e k : ℕ) (xs : List Row) → walk at e k xs ≡ part at e k → new ≡ made ++ part at e k → made ++ walk at e k xs ≡ init → new ≡ init
walk_end made new init at e k xs stop n h = n ∙ ap (λ y. made ++ y) (sym stop) ∙ h

pub walk_stops : (at e k i : ℕ) (areas : List Row) (d : Row) → i < length areas → e ≤ (get_or areas i d).start → walk at e k (drop i areas) ≡ part at e k
walk_stops at e k i areas d l h = ap (walk at e k) (drop_more areas i d l) ∙ walk_stop at e k (get_or areas i d) (drop (i + 1) areas) h

pub part_at : (k b : ℕ) (rs : List Row) (i : ℕ) (d : Row) → AreParts k b rs → i < length rs → row_end (get_or rs i d) ≤ 2 ^ 46
part_at k b [] i d a h = absurd (omega arith)
part_at k b (r ∷ rs) zero d a h = a.2
part_at k b (r ∷ rs) (suc i) d a h = part_at k (row_end r + 1) rs i d a.4 (omega arith)

all_start_behind : (k b : ℕ) (rs : List Row) (j : ℕ) (d : Row) → AreParts k b rs → j < length rs → b ≤ (get_or rs j d).start
all_start_behind k b [] j d a h = absurd (omega arith)
all_start_behind k b (r ∷ rs) zero d a h = a.0
all_start_behind k b (r ∷ rs) (suc j) d a h = omega (arith, all_start_behind k (row_end r + 1) rs j d a.4 (omega arith))

pub starts_rise : (k b : ℕ) (rs : List Row) → AreParts k b rs → IsNonDecreasingBy (λ r. r.start) rs
starts_rise k b [] a i j d le h = absurd (omega arith)
starts_rise k b (r ∷ rs) a zero zero d le h = omega arith
starts_rise k b (r ∷ rs) a zero (suc j) d le h = omega (arith, all_start_behind k (row_end r + 1) rs j d a.4 (omega arith))
starts_rise k b (r ∷ rs) a (suc i) zero d le h = absurd (omega arith)
starts_rise k b (r ∷ rs) a (suc i) (suc j) d le h = starts_rise k (row_end r + 1) rs a.4 i j d (omega arith) (omega arith)

-- ---- areas that come in rising order
pub last_end : (k b : ℕ) (xs : List Row) (r : Row) → AreParts k b (xs ++ r ∷ []) → row_end r ≤ 2 ^ 46
last_end k b [] r a = a.2
last_end k b (x ∷ xs) r a = last_end k (row_end x + 1) xs r a.4

pub longer_last : (k b : ℕ) (xs : List Row) (r s : Row) → AreParts k b (xs ++ r ∷ []) → s.start ≡ r.start → r.size ≤ s.size → row_end s ≤ 2 ^ 46 → s.kind ≡ k → AreParts k b (xs ++ s ∷ [])
longer_last k b [] r s a p q m e = (omega (arith, a.0, p), omega (arith, a.1, q), m, e, tt)
longer_last k b (x ∷ xs) r s a p q m e = (a.0, a.1, a.2, a.3, longer_last k (row_end x + 1) xs r s a.4 p q m e)

pub one_more : (k b : ℕ) (xs : List Row) (r s : Row) → AreParts k b (xs ++ r ∷ []) → row_end r + 1 ≤ s.start → 0 < s.size → row_end s ≤ 2 ^ 46 → s.kind ≡ k → AreParts k b ((xs ++ r ∷ []) ++ s ∷ [])
one_more k b [] r s a p q m e = (a.0, a.1, a.2, a.3, (p, q, m, e, tt))
one_more k b (x ∷ xs) r s a p q m e = (a.0, a.1, a.2, a.3, one_more k (row_end x + 1) xs r s a.4 p q m e)

pub up_to_last : (n : ℕ) (xs : List Row) (r : Row) → StartUpTo n (xs ++ r ∷ []) → r.start ≤ n
up_to_last n [] r h = h.0
up_to_last n (x ∷ xs) r h = up_to_last n xs r h.1

pub up_to_front : (n m : ℕ) (xs ys : List Row) (s : Row) → StartUpTo n (xs ++ ys) → n ≤ m → s.start ≤ m → StartUpTo m (xs ++ s ∷ [])
up_to_front n m [] ys s h l k = (k, tt)
up_to_front n m (x ∷ xs) ys s h l k = (omega (arith, h.0), up_to_front n m xs ys s h.1 l k)

pub up_to_more : (n m : ℕ) (xs : List Row) → StartUpTo n xs → n ≤ m → StartUpTo m xs
up_to_more n m [] h l = tt
up_to_more n m (x ∷ xs) h l = (omega (arith, h.0), up_to_more n m xs h.1 l)

pub covers-push : (xs : List Row) (s : Row) (q : ℕ) → covers q (xs ++ s ∷ []) ≡ (covers q xs || is_inside q s)
covers-push xs s q = list_any-append (is_inside q) xs (s ∷ []) ∙ ap (λ b. covers q xs || b) (or_false (is_inside q s))

hull_is : (s n t m q : ℕ) → s ≤ t → t ≤ s + n → (nat_le s q && nat_lt q (s + (max (s + n) (t + m) - s))) ≡ ((nat_le s q && nat_lt q (s + n)) || (nat_le t q && nat_lt q (t + m)))
hull_is s n t m q h k = grind (arith, nat_tests)

pub covers_hull : (xs : List Row) (r a h : Row) (q : ℕ) → h.start ≡ r.start → h.size ≡ max (row_end r) (row_end a) - r.start → r.start ≤ a.start → a.start ≤ row_end r → covers q (xs ++ h ∷ []) ≡ (covers q (xs ++ r ∷ []) || is_inside q a)
covers_hull xs r a h q e f l k =
    covers-push xs h q ∙ ap (λ b. covers q xs || b) (ap (λ n. nat_le n q && nat_lt q (n + h.size)) e ∙ ap (λ n. nat_le r.start q && nat_lt q (r.start + n)) f ∙ hull_is r.start r.size a.start a.size q l k)
    ∙ sym (or_shift (covers q xs) (is_inside q r) (is_inside q a)) ∙ ap (λ b. b || is_inside q a) (sym (covers-push xs r q))

pub covers_more : (xs : List Row) (i q : ℕ) (d : Row) (b c : Bool) → i < length xs → c ≡ (b || is_inside q (get_or xs i d)) → b ≡ covers q (take i xs) → c ≡ covers q (take (i + 1) xs)
covers_more xs i q d b c l new old = new ∙ ap (λ z. z || is_inside q (get_or xs i d)) old ∙ sym (list_any_more (is_inside q) xs i d l)

pub all_below : (xs : List Row) → AllByRecursion IsBelow xs → All IsBelow xs
all_below [] a k d h = absurd (omega arith)
all_below (x ∷ xs) a zero d h = a.0
all_below (x ∷ xs) a (suc k) d h = all_below xs a.1 k d (omega arith)

pub covers_permuted : (xs ys : List Row) (q : ℕ) → IsPermutation xs ys → covers q ys ≡ covers q xs
covers_permuted xs ys q h = sym (list_any-IsPermutation (is_inside q) xs ys h)

pub up_to_push : (n m : ℕ) (xs : List Row) (s : Row) → StartUpTo n xs → n ≤ m → s.start ≤ m → StartUpTo m (xs ++ s ∷ [])
up_to_push n m [] s h l k = (k, tt)
up_to_push n m (x ∷ xs) s h l k = (omega (arith, h.0), up_to_push n m xs s h.1 l k)

get_or-either : (xs : List Row) (i : ℕ) (d e : Row) → i < length xs → get_or xs i d ≡ get_or xs i e
get_or-either [] i d e h = absurd (omega arith)
get_or-either (x ∷ xs) zero d e h = refl
get_or-either (x ∷ xs) (suc i) d e h = get_or-either xs i d e (omega arith)

pub starts_before : (xs : List Row) (i k : ℕ) (d e : Row) → IsNonDecreasingBy (λ r. r.start) xs → i ≤ k → k < length xs → (get_or xs i d).start ≤ (get_or xs k e).start
starts_before xs i k d e up l h = omega (arith, up i k d l h, ap (λ (r : Row). r.start) (get_or-either xs k d e h))

pub all_sorted : (xs vs ys ds : List Row) → AllByRecursion IsBelow xs → vs ≡ xs → IsPermutation vs ys → ds ≡ ys → All IsBelow ds
all_sorted xs vs ys ds a e p f = subst (λ (zs : List Row). All IsBelow zs) (sym f) (All-permutation IsBelow vs ys p (subst (λ (zs : List Row). All IsBelow zs) (sym e) (all_below xs a)))

pub rising_as : (ys ds : List Row) → ds ≡ ys → IsNonDecreasingBy (λ r. r.start) ys → IsNonDecreasingBy (λ r. r.start) ds
rising_as ys ds f h = subst (λ (zs : List Row). IsNonDecreasingBy (λ r. r.start) zs) (sym f) h

pub bytes_of : {V E : Type 0} (items : V → List Row) (r : Result V E) (xs vs ys ds : List Row) → vs ≡ xs → IsPermutation vs ys → ds ≡ ys → IfOk r (λ v. (q : ℕ) → covers q (items v) ≡ covers q ds) → IfOk r (λ v. (q : ℕ) → covers q (items v) ≡ covers q xs)
bytes_of items (Ok v) xs vs ys ds e p f h = λ q. h q ∙ ap (covers q) f ∙ covers_permuted vs ys q p ∙ ap (covers q) e
bytes_of items (Err x) xs vs ys ds e p f h = h

pub outside_more : (all rows : List Row) (i : ℕ) (d : Row) (out new : List Row) → i < length rows → new ≡ out ++ outside all (get_or rows i d ∷ []) → out ≡ outside all (take i rows) → new ≡ outside all (take (i + 1) rows)
outside_more all rows i d out new l n h =
    n ∙ ap (λ y. y ++ outside all (get_or rows i d ∷ [])) h ∙ sym (outside-append all (take i rows) (get_or rows i d ∷ [])) ∙ ap (outside all) (sym (take_more rows i d l))
