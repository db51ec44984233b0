-- The segments of a crash kernel that no rule refuses lie in the reserved area.
use Rattle.std.proofs.Common.{◌≡◌, ℕ, List, [], ◌∷◌, true, false, None, ⊎_elim, arith}
use Rattle.std.specs.List.{position, AllByRecursion}
use Rattle.std.proofs.lemmas.Bool.{false≢true, or_cases}
use Rattle.std.proofs.lemmas.Bool.Decides.{nat_tests}
use Rattle.kx_laws.proofs.Options.{map_none, none_left, none_right}
use Rattle.kx_pages.specs.Spans.{Run, in_span}
use Rattle.kx_pages.proofs.Lists.{Each-from_no_first}
use Rattle.segments.specs.declared.fault.Kind.TheVariants.{Crash}
use Rattle.segments.specs.declared.fault.SegFault.TheVariants.{OutsideReserved}
use Rattle.segments.specs.Values.{SegmentValue, is_destination, is_page_of_segment}
use Rattle.segments.specs.Rules.{half_of_memory, leaves, misplaced, outside_reserved, refusal, shape_refusal}

pub unrefused_inside : (ram : List Run) (area : Run) (ss : List SegmentValue) → refusal ram (Crash area) ss ≡ None → AllByRecursion (λ s. leaves area s ≡ false) ss
unfolding refusal
unrefused_inside ram area ss e =
    let half = none_right (shape_refusal ss) _ e in
    let place = none_right (half_of_memory ram ss) _ half in
    let outside = none_left (outside_reserved (Crash area) ss) _ (none_left (misplaced ram (Crash area) ss) _ place) in
    Each-from_no_first (leaves area) ss (map_none OutsideReserved (position (leaves area) ss) outside)

inside_one : (area : Run) (s : SegmentValue) (p : ℕ) → leaves area s ≡ false → is_page_of_segment s p ≡ true → in_span area p ≡ true
inside_one area s p inside page = grind (arith, nat_tests)

inside_all : (area : Run) (ss : List SegmentValue) (p : ℕ) → AllByRecursion (λ s. leaves area s ≡ false) ss → is_destination ss p ≡ true → in_span area p ≡ true
inside_all area [] p inside page = absurd (false≢true page)
inside_all area (s ∷ ss) p inside page =
    ⊎_elim (λ here. inside_one area s p inside.0 here) (λ later. inside_all area ss p inside.1 later) (or_cases (is_page_of_segment s p) (is_destination ss p) page)

pub destinations_inside : (ram : List Run) (area : Run) (ss : List SegmentValue) → refusal ram (Crash area) ss ≡ None → (p : ℕ) → is_destination ss p ≡ true → in_span area p ≡ true
destinations_inside ram area ss e p page = inside_all area ss p (unrefused_inside ram area ss e) page
