-- The plan of a crash kernel lies in the reserved area.
use Rattle.std.proofs.Common.{◌≡◌, ℕ, suc, ◌+◌, ◌≤◌, ◌++◌, List, [], ◌∷◌, length, Bool, true, false, Option, Some, None, Ok, Err, refl, sym, ap, ◌∙◌, subst, arith}
use Rattle.std.specs.Prelude.{cond, not, option_map}
use Rattle.std.specs.Option.{option_or}
use Rattle.std.specs.List.{position, position_or_len, AllByRecursion}
use Rattle.std.proofs.lemmas.Bool.Decides.{nat_tests}
use Rattle.std.proofs.lemmas.Option.{none-some}
use Rattle.kx_laws.specs.Results.{◌>>=◌, unless}
use Rattle.kx_laws.proofs.Results.{bind_ok, ok_same}
use Rattle.kx_pages.specs.Spans.{Run, in_span}
use Rattle.kx_pages.specs.declared.image.Start.{Start}
use Rattle.kx_pages.proofs.Lists.{Each-append, Each-left, Each-right}
use Rattle.segments.specs.declared.fault.Kind.TheVariants.{Crash}
use Rattle.segments.specs.declared.fault.SegFault.{SegFault}
use Rattle.segments.specs.declared.fault.SegFault.TheVariants.{OutsideReserved}
use Rattle.segments.specs.Values.{SegmentValue, is_page_of_segment, want}
use Rattle.segments.specs.Rules.{half_of_memory, leaves, misplaced, outside_reserved, refusal, shape_refusal}
use Rattle.memory_map.specs.Maps.{MapValue, reserved_area}
use Rattle.plan_faults.specs.declared.fault.PlanFault.{PlanFault}
use Rattle.plan_faults.specs.declared.fault.PlanFault.TheVariants as faults
use Rattle.kexec_plan.specs.declared.format.Format.{Format}
use Rattle.kexec_plan.specs.declared.format.Format.TheVariants as formats
use Rattle.kexec_plan.specs.declared.places.Site.{Site}
use Rattle.kexec_plan.specs.Requests.{Asked, Plan}
use Rattle.kexec_plan.specs.Formats.{format_of, ground_for, reserved_ground, unused_part}
use Rattle.kexec_plan.specs.Ground.{Ground, Machine, Reserved}
use Rattle.kexec_plan.specs.Parts.{segment_at}
use Rattle.kexec_plan.specs.Rules.{first_refusal, ram_runs, test_segments, unless_refused}
use Rattle.kexec_plan.specs.Purgatory.{Linkage, PurgatoryValue, linked_at}
use Rattle.kexec_plan.specs.Finish.{armed_plan, armed_segment, finish, plain_plan}
use Rattle.kexec_plan.proofs.Ways.{as_ends}
use Rattle.kexec_plan.specs.Plan.{plan, plan_as}

-- each segment lies in the area
abbrev pub AreInside : Run → List SegmentValue → Type 0
AreInside area ss = AllByRecursion (λ s. leaves area s ≡ false) ss

-- a page outside the area is a page of none of them
outside_one : (area : Run) (s : SegmentValue) (q : ℕ) → leaves area s ≡ false → in_span area q ≡ false → is_page_of_segment s q ≡ false
outside_one area s q inside outside = grind (arith, nat_tests)

pub outside_all : (area : Run) (ss : List SegmentValue) (q : ℕ) → AreInside area ss → in_span area q ≡ false → want ss q ≡ None
outside_all area [] q inside outside = refl
outside_all area (s ∷ ss) q inside outside = rw (outside_one area s q inside.0 outside) (outside_all area ss q inside.1 outside)

-- ---- what the rules of segments leave
none_left : (a b : Option SegFault) → option_or a b ≡ None → a ≡ None
none_left None b e = refl
none_left (Some x) b e = e

none_right : (a b : Option SegFault) → option_or a b ≡ None → b ≡ None
none_right None b e = e
none_right (Some x) b e = absurd (none-some x (sym e))

map_none : {A B : Type 0} (f : A → B) (o : Option A) → option_map f o ≡ None → o ≡ None
map_none f None e = refl
map_none f (Some x) e = absurd (none-some (f x) (sym e))

none_before : (p : SegmentValue → Bool) (xs : List SegmentValue) → position p xs ≡ None → length xs ≤ position_or_len p xs
none_before p xs h = grind (arith, nat_tests)

all_fail : (p : SegmentValue → Bool) (xs : List SegmentValue) → length xs ≤ position_or_len p xs → AllByRecursion (λ x. p x ≡ false) xs
all_fail p [] h = tt
all_fail p (x ∷ xs) h = by (p x) refl h (λ few. all_fail p xs few)
  where
    by : (b : Bool) → p x ≡ b → suc (length xs) ≤ cond (not b) (1 + position_or_len p xs) 0 → (length xs ≤ position_or_len p xs → AllByRecursion (λ x. p x ≡ false) xs) → AllByRecursion (λ x. p x ≡ false) (x ∷ xs)
    by true e few rest = absurd (omega arith)
    by false e few rest = (e, rest (omega (arith, few)))

inside_by : (area : Run) (ss : List SegmentValue) → outside_reserved (Crash area) ss ≡ None → AreInside area ss
inside_by area ss e = all_fail (leaves area) ss (none_before (leaves area) ss (map_none OutsideReserved (position (leaves area) ss) e))

unrefused_inside : (ram : List Run) (area : Run) (ss : List SegmentValue) → refusal ram (Crash area) ss ≡ None → AreInside area ss
unfolding refusal
unrefused_inside ram area ss e =
    let half = none_right (shape_refusal ss) _ e in
    let place = none_right (half_of_memory ram ss) _ half in
    inside_by area ss (none_left (outside_reserved (Crash area) ss) _ (none_left (misplaced ram (Crash area) ss) _ place))

pass_keeps : (ss kept : List SegmentValue) (r : Option SegFault) → unless_refused ss r ≡ Ok kept → (r ≡ None) × (ss ≡ kept)
pass_keeps ss kept None e = (refl, ok_same {F = PlanFault} ss kept e)
pass_keeps ss kept (Some f) e = cc

tested_inside : (map : MapValue) (area : Run) (ss kept : List SegmentValue) → test_segments (Reserved map area) ss ≡ Ok kept → AreInside area ss × (ss ≡ kept)
unfolding test_segments first_refusal
tested_inside map area ss kept e =
    let k = pass_keeps ss kept (refusal (ram_runs map) (Crash area) ss) e in
    (unrefused_inside (ram_runs map) area ss k.0, k.1)

-- ---- the end of a plan tests its segments
plain_inside : (map : MapValue) (area : Run) (ss : List SegmentValue) (start : Start) (p : Plan) → plain_plan (Reserved map area) ss start ≡ Ok p → AreInside area p.segments
unfolding plain_plan
plain_inside map area ss start p e =
    let a = bind_ok (test_segments (Reserved map area) ss) (λ kept. Ok (record { segments = kept; start = start; regions = 0; digest = 0 })) p e in
    let t = tested_inside map area ss a.0 a.1 in
    subst (λ (p : Plan). AreInside area p.segments) (ok_same {F = PlanFault} _ p a.2) (subst (AreInside area) t.1 t.0)

-- the purgatory's segment keeps its place
armed_inside : (map : MapValue) (area : Run) (ss : List SegmentValue) (start : Start) (l : Linkage) (s : Site) (p : Plan) → armed_plan (Reserved map area) ss start l s ≡ Ok p → AreInside area p.segments
unfolding armed_plan
armed_inside map area ss start l s p e =
    let a = bind_ok (test_segments (Reserved map area) (ss ++ segment_at s l.bytes ∷ [])) (λ _. Ok (record { segments = ss ++ armed_segment l start ss s ∷ []; start = record { entry = l.symbols.start; rax = 0; rbx = 0; rsi = 0 }; regions = l.symbols.regions; digest = l.symbols.digest })) p e in
    let t = (tested_inside map area (ss ++ segment_at s l.bytes ∷ []) a.0 a.1).0 in
    let stays = λ (x : SegmentValue). leaves area x ≡ false in
    let front = Each-left stays ss (segment_at s l.bytes ∷ []) t in
    let last = Each-right stays ss (segment_at s l.bytes ∷ []) t in
    subst (λ (p : Plan). AreInside area p.segments) (ok_same {F = PlanFault} _ p a.2) (Each-append stays ss (armed_segment l start ss s ∷ []) front (last.0, tt))

linked_inside : (map : MapValue) (area : Run) (ss : List SegmentValue) (start : Start) (v : PurgatoryValue) (s : Site) (p : Plan) → (linked_at v s >>= λ l. armed_plan (Reserved map area) ss start l s) ≡ Ok p → AreInside area p.segments
linked_inside map area ss start v s p e =
    let a = bind_ok (linked_at v s) (λ l. armed_plan (Reserved map area) ss start l s) p e in
    armed_inside map area ss start a.0 s p a.2

finished_inside : (map : MapValue) (area : Run) (ss : List SegmentValue) (start : Start) (v : Option PurgatoryValue) (s : Option Site) (p : Plan) → finish (Reserved map area) ss start v s ≡ Ok p → AreInside area p.segments
unfolding finish
finished_inside map area ss start (Some v) (Some s) p e = linked_inside map area ss start v s p e
finished_inside map area ss start (Some v) None p e = plain_inside map area ss start p e
finished_inside map area ss start None s p e = plain_inside map area ss start p e

-- ---- each plan ends so
as_inside : (r : Asked) (format : Format) (map : MapValue) (area : Run) (p : Plan) → plan_as r (Reserved map area) format ≡ Ok p → AreInside area p.segments
as_inside r format map area = as_ends (Reserved map area) (λ p. AreInside area p.segments) (finished_inside map area) r format

-- ---- a crash kernel has an area
has_area : (map : MapValue) (area : Option Run) (g : Ground) → reserved_ground map area ≡ Ok g → (a : Run) × (area ≡ Some a) × (g ≡ Reserved map a)
has_area map None g e = cc
has_area map (Some a) g e = (a, refl, sym (ok_same {F = PlanFault} (Reserved map a) g e))

crash_form : (r : Asked) (map : MapValue) (format : Format) (g : Ground) → r.crash ≡ true → ground_for r (Some map) format ≡ Ok g → reserved_ground map (reserved_area map) ≡ Ok g
crash_form r map (formats.Raw at entry) g crash e = let k = sym (ap (λ b. cond (not b) (Ok (Machine map)) (Err faults.CrashNeedsBzimage)) crash) ∙ e in cc
crash_form r map formats.Elf g crash e = let k = sym (ap (λ b. cond (not b) (Ok (Machine map)) (Err faults.CrashNeedsBzimage)) crash) ∙ e in cc
crash_form r map formats.Multiboot g crash e = let k = sym (ap (λ b. cond (not b) (Ok (Machine map)) (Err faults.CrashNeedsBzimage)) crash) ∙ e in cc
crash_form r map formats.Bzimage g crash e = sym (ap (λ b. cond (not b) (Ok (Machine map)) (reserved_ground map (reserved_area map))) crash) ∙ e

-- the map of a crash load that has a plan has an area, and each segment lies in it
pub in_area : (r : Asked) (map : MapValue) (p : Plan) → r.crash ≡ true → plan r (Some map) ≡ Ok p → (area : Run) × (reserved_area map ≡ Some area) × AreInside area p.segments
unfolding plan
in_area r map p crash e =
    let m = Some map in
    let f = bind_ok (format_of r) _ p e in
    let g = bind_ok (ground_for r m f.0) _ p f.2 in
    let u = bind_ok (unless (option_map faults.Unused (unused_part r f.0))) _ p g.2 in
    let area = has_area map (reserved_area map) g.0 (crash_form r map f.0 g.0 crash g.1) in
    (area.0, area.1, as_inside r f.0 map area.0 p (subst (λ g. plan_as r g f.0 ≡ Ok p) area.2 u.2))
