-- Where the parts of a Linux kernel lie, of the addresses at which they fit.
use Rattle.std.proofs.Common.{◌≡◌, ◌∙◌, ℕ, ◌^◌, ◌-◌, ◌++◌, List, [], ◌∷◌, drop, length, Bool, true, false, cond, Option, Some, None, Ok, refl, sym, ap, subst}
use Rattle.std.specs.Prelude.{max}
use Rattle.std.specs.List.{AllByRecursion}
use Rattle.kx_laws.proofs.Options.{some_same}
use Rattle.kx_fields.specs.Fields.{field}
use Rattle.kx_pages.specs.Spans.{Run, in_span}
use Rattle.kx_pages.proofs.Lists.{Each-left}
use Rattle.memory_map.specs.Maps.{MapValue, reserved_area}
use Rattle.segments.specs.Values.{SegmentValue}
use Rattle.segments.specs.inner.Shape.{IsPlaced}
use Rattle.segments.proofs.Laws.{AreSegments-from_IsBare}
use Rattle.bzimage.specs.Kernel as bzimage
use Rattle.crash_headers.specs.declared.note.Note.{Note}
use Rattle.kexec_plan.specs.Ground.{Ground, Machine, Reserved, most, ram}
use Rattle.kexec_plan.specs.Ground.{rows as rows_on}
use Rattle.kexec_plan.specs.Kernels.{headers_part, initrd_part}
use Rattle.kexec_plan.specs.Laying.{Image, Parameters, PlanPart, place_parts}
use Rattle.kexec_plan.specs.Places.{taken_by}
use Rattle.kexec_plan.specs.Plan.{begin, plan}
use Rattle.kexec_plan.specs.Requests.{Asked, Plan}
use Rattle.kexec_plan.specs.Table.{kernel_rule, last_address}
use Rattle.kexec_plan.proofs.Bare.{planned_bare}
use Rattle.plan_laws.specs.Extremes.{LieHighest, LiesLowest, Limits, LinuxLies, LinuxLiesAtTheEnds, MayTake, headers_limits, initrd_limits, kernel_limits, last_of, purgatory_limits, up_to}
use Rattle.plan_laws.specs.Linux.{IsLinux}
use Rattle.plan_laws.specs.Places.{IsOne}
use Rattle.plan_laws.proofs.Placing.{AllLie, AreHigh, Lain, Marks, all_lie, highest, highest_append, limits_by}
use Rattle.plan_laws.proofs.Planning.{FileOf, Laid_, crash_laid, normal_laid, read_file}
use Rattle.plan_laws.proofs.Starting.{parts_are}
use Rattle.plan_laws.proofs.Tails.{Tail, in_map, of_map, tail_by}

-- ---- the limits that the file gives
abbrev limits : (align low high : ℕ) → Limits
limits align low high = record { align = align; low = low; high = high }

kernel_is : (file : List ℕ) (k : bzimage.Kernel) (n : ℕ) → FileOf file k → limits_by (kernel_rule k n) ≡ kernel_limits file
kernel_is file k n of =
    ap (λ a. limits a (max k.pref 0x100000) (last_address k.above4g)) of.align
    ∙ ap (λ p. limits (field 0x230 4 file) (max p 0x100000) (last_address k.above4g)) of.pref
    ∙ ap (λ b. limits (field 0x230 4 file) (max (field 0x258 8 file) 0x100000) (last_address b)) of.above4g

last_is : (file : List ℕ) (k : bzimage.Kernel) → FileOf file k → up_to (last_address k.above4g) ≡ up_to (last_of file)
last_is file k of = ap (λ b. up_to (last_address b)) of.above4g

initrd_is : (file : List ℕ) (k : bzimage.Kernel) → FileOf file k → up_to (cond k.above4g (2 ^ 46 - 1) k.initrd_max) ≡ up_to (cond (bzimage.has_bit 1 (field 0x236 2 file)) (2 ^ 46 - 1) (field 0x22c 4 file))
initrd_is file k of = ap (λ b. up_to (cond b (2 ^ 46 - 1) k.initrd_max)) of.above4g ∙ ap (λ n. up_to (cond (bzimage.has_bit 1 (field 0x236 2 file)) (2 ^ 46 - 1) n)) of.initrd_max

-- the parts behind the kernel itself
abbrev parts_behind : Ground → bzimage.Kernel → Option (List ℕ) → List Note → List PlanPart
parts_behind g k initrd notes = initrd_part k initrd ++ (headers_part g k notes ++ (Parameters k (rows_on g) ∷ []))

abbrev limits_behind : Bool → List ℕ → Option (List ℕ) → List Limits
limits_behind crash file initrd = initrd_limits file initrd ++ (headers_limits crash file ++ (up_to (last_of file) ∷ []))

normal_high : (m : MapValue) (file : List ℕ) (k : bzimage.Kernel) (initrd : Option (List ℕ)) (notes : List Note) → FileOf file k → AreHigh (parts_behind (Machine m) k initrd notes) (limits_behind false file initrd)
normal_high m file k None notes of = (λ d. (refl, last_is file k of), tt)
normal_high m file k (Some initrd) notes of = (λ d. (refl, initrd_is file k of), (λ d. (refl, last_is file k of), tt))

crash_high : (m : MapValue) (area : Run) (file : List ℕ) (k : bzimage.Kernel) (initrd : Option (List ℕ)) (notes : List Note) → FileOf file k → AreHigh (parts_behind (Reserved m area) k initrd notes) (limits_behind true file initrd)
crash_high m area file k None notes of = (λ d. (refl, last_is file k of), (λ d. (refl, last_is file k of), tt))
crash_high m area file k (Some initrd) notes of = (λ d. (refl, initrd_is file k of), (λ d. (refl, last_is file k of), (λ d. (refl, last_is file k of), tt)))

-- ---- what is taken before any part is placed
none_taken : (command : Option (List ℕ)) → Marks (begin [] 0 command).taken (begin [] 0 command).list
unfolding taken_by
none_taken command = record { met = λ q e. cc; unmet = λ q e x. nowhere x.0 x.2 }
  where
    nowhere : (s : SegmentValue) → IsOne s [] → ⊥
    nowhere s (i, e) = cc

module _ (r : Asked) (m : MapValue) (p : Plan) (e : plan r (Some m) ≡ Ok p) (g : Ground) (to : (q : ℕ) → ram g q ≡ true → MayTake r.crash m q) (from : (q : ℕ) → MayTake r.crash m q → ram g q ≡ true)
    (l : Laid_ g r p) (high : AreHigh (parts_behind g l.image r.initrd r.notes) (limits_behind r.crash r.kernel r.initrd))
    (behind : (file : List ℕ) → up_to (most g l.image.above4g) ∷ [] ≡ purgatory_limits r.crash r.kernel (Some file)) where
  abbrev Its : Type 0
  Its = Tail r.crash m g to from r p l.out (purgatory_limits r.crash r.kernel r.purgatory)

  abbrev parts : List PlanPart
  parts = Image (kernel_rule l.image (length r.kernel)) (drop l.image.start r.kernel) ∷ parts_behind g l.image r.initrd r.notes

  linux_lies : LinuxLies r m p
  linux_lies = by lain.placed lain.list lain.all
    where
      end : Its
      end = tail_by r.crash m g to from r p l.out l.image.above4g l.ends r.kernel behind

      placed : AllByRecursion IsPlaced l.out.list
      placed = Each-left IsPlaced l.out.list end.tail (subst (AllByRecursion IsPlaced) end.segments (AreSegments-from_IsBare p.segments (planned_bare r (Some m) p e)).placed)

      lain : Lain r.crash m g to from parts (begin [] 0 r.command) l.out
      lain = all_lie r.crash m g to from parts (begin [] 0 r.command) l.out (subst (λ ps. place_parts (ram g) (begin [] 0 r.command) ps ≡ Ok l.out) (parts_are g l.image r.kernel r.initrd r.notes) l.laid) l.no_fault (none_taken r.command) placed

      by : (ss : List SegmentValue) → l.out.list ≡ [] ++ ss → AllLie r.crash m g to from parts [] ss → LinuxLies r m p
      by [] is k = absurd k
      by (s ∷ ss) is k = record {
        kernel = s;
        others = ss ++ end.tail;
        segments = end.segments ∙ ap (λ ss. ss ++ end.tail) is;
        lowest = subst (λ l. LiesLowest r.crash m [] l s) (kernel_is r.kernel l.image (length r.kernel) (read_file r.kernel l.image l.read)) k.0.1;
        highest = highest_append r.crash m (s ∷ []) (limits_behind r.crash r.kernel r.initrd) (purgatory_limits r.crash r.kernel r.purgatory) ss end.tail
            (highest r.crash m g to from (parts_behind g l.image r.initrd r.notes) (limits_behind r.crash r.kernel r.initrd) (s ∷ []) ss high k.1)
            (subst (λ before. LieHighest r.crash m before (purgatory_limits r.crash r.kernel r.purgatory) end.tail) is (end.lie lain.marks));
      }

-- ---- the pages that may be taken
in_area : (m : MapValue) (area : Run) → reserved_area m ≡ Some area → (q : ℕ) → ram (Reserved m area) q ≡ true → MayTake true m q
unfolding ram
in_area m area is q e = (area, is, e)

of_area : (m : MapValue) (area : Run) → reserved_area m ≡ Some area → (q : ℕ) → MayTake true m q → ram (Reserved m area) q ≡ true
unfolding ram
of_area m area is q (other, same, e) = subst (λ area. in_span area q ≡ true) (some_same other area (sym same ∙ is)) e

normal_lies : (r : Asked) (m : MapValue) (p : Plan) → r.crash ≡ false → IsLinux r → plan r (Some m) ≡ Ok p → LinuxLies r m p
normal_lies r m p normal form e =
    let l = normal_laid r (Some m) p normal form e in
    let back = sym normal in
    linux_lies r m p e (Machine m)
    (λ q h. subst (λ c. MayTake c m q) back (in_map m q h))
    (λ q h. of_map m q (subst (λ c. MayTake c m q) normal h))
    l
    (subst (λ c. AreHigh (parts_behind (Machine m) l.image r.initrd r.notes) (limits_behind c r.kernel r.initrd)) back (normal_high m r.kernel l.image r.initrd r.notes (read_file r.kernel l.image l.read)))
    (λ file. subst (λ c. up_to (2 ^ 31 - 1) ∷ [] ≡ purgatory_limits c r.kernel (Some file)) back refl)

crash_lies : (r : Asked) (m : MapValue) (p : Plan) → r.crash ≡ true → IsLinux r → plan r (Some m) ≡ Ok p → LinuxLies r m p
crash_lies r m p crash form e =
    let c = crash_laid r m p crash form e in
    let l = c.1 in
    let of = read_file r.kernel l.image l.read in
    let back = sym crash in
    linux_lies r m p e (Reserved m c.0)
    (λ q h. subst (λ c. MayTake c m q) back (in_area m c.0 c.2 q h))
    (λ q h. of_area m c.0 c.2 q (subst (λ c. MayTake c m q) crash h))
    l
    (subst (λ b. AreHigh (parts_behind (Reserved m c.0) l.image r.initrd r.notes) (limits_behind b r.kernel r.initrd)) back (crash_high m c.0 r.kernel l.image r.initrd r.notes of))
    (λ file. subst (λ b. up_to (most (Reserved m c.0) l.image.above4g) ∷ [] ≡ purgatory_limits b r.kernel (Some file)) back (ap (λ b. up_to (cond b (2 ^ 46 - 4097) (2 ^ 32 - 1)) ∷ []) of.above4g))

pub linux_lies_at_the_ends : LinuxLiesAtTheEnds
linux_lies_at_the_ends r m p form e = by r.crash refl
  where
    by : (c : Bool) → r.crash ≡ c → LinuxLies r m p
    by false normal = normal_lies r m p normal form e
    by true crash = crash_lies r m p crash form e
