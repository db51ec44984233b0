-- The least and the greatest places, by the pages that are free and those that are not.
use Rattle.std.proofs.Common.{◌≡◌, ℕ, ◌+◌, ◌-◌, ◌*◌, ◌/◌, ◌%◌, ◌<◌, ◌≤◌, ◌^◌, Bool, true, false, cond, Some, None, Ok, Err, refl, sym, ap, ◌∙◌, inl, inr, arith}
use Rattle.std.specs.Prelude.{nat_le}
use Rattle.std.proofs.lemmas.Bool.{cases_lt}
use Rattle.kx_laws.proofs.Booleans.{true_false}
use Rattle.hole_search.specs.declared.search.End.{End}
use Rattle.hole_search.specs.declared.search.End.TheVariants.{Least}
use Rattle.kexec_plan.specs.Parts.{part_size}
use Rattle.kexec_plan.specs.Table.{highest}
use Rattle.kexec_plan.specs.Holes.{hole, is_free}
use Rattle.kexec_plan.specs.Places.{place, site_at}
use Rattle.plan_faults.specs.declared.fault.Part.{Part}
use Rattle.plan_faults.specs.declared.fault.PlanFault.TheVariants as faults
use Rattle.kexec_plan.proofs.Holes.{hole_is}

-- k pages from page p on are free
abbrev pub AreFree : (ℕ → Bool) → (ℕ → Bool) → ℕ → ℕ → Type 0
AreFree ram taken p k = (q : ℕ) → p ≤ q → q < p + k → (ram q ≡ true) × (taken q ≡ false)

pub free_is : (ram taken : ℕ → Bool) (q : ℕ) → ram q ≡ true → taken q ≡ false → is_free ram taken q ≡ true
free_is ram taken q r t = rw (r, t) refl

-- no page from page p on, up to the greatest address, is free
abbrev pub AreBlocked : (ℕ → Bool) → (ℕ → Bool) → ℕ → ℕ → Type 0
AreBlocked ram taken p most = (q : ℕ) → p ≤ q → 4096 * q + 4095 ≤ most → is_free ram taken q ≡ false

-- a part of k pages, as high as it can lie
pub highest_at : (ram taken : ℕ → Bool) (part : Part) (n most p k : ℕ) → part_size n ≡ 4096 * k → 0 < k → AreFree ram taken p k → 4096 * (p + k) ≤ most + 1 → AreBlocked ram taken (p + k) most → hole ram taken (highest part n most) ≡ Some (4096 * p)
highest_at ram taken part n most p k size some free below blocked =
    hole_is ram taken (highest part n most) (Some (4096 * p)) (
      record {
        aligned = omega arith;
        above = omega arith;
        below = omega (arith, size, some, below);
        in_ram = λ q from to. (free q (omega (arith, from)) (omega (arith, size, some, to))).0;
        not_taken = λ q from to. (free q (omega (arith, from)) (omega (arith, size, some, to))).1;
      },
      λ x h. elim (cases_lt (4096 * p) x) [
        | inl l ↦ let a = h.aligned in
            let b = h.below in
            let q = (x + part_size n - 1) / 4096 in
            let t = free_is ram taken q (h.in_ram q (omega (arith, a, size, some)) (omega arith)) (h.not_taken q (omega (arith, a, size, some)) (omega arith)) in
            absurd (true_false (sym t ∙ blocked q (omega (arith, a, l, size, some)) (omega (arith, a, b, l, size, some))))
        | inr l ↦ l
      ],
    )

-- no place for a part
pub nowhere : (ram taken : ℕ → Bool) (part : Part) (n most : ℕ) → AreBlocked ram taken 0 most → hole ram taken (highest part n most) ≡ None
nowhere ram taken part n most blocked =
    hole_is ram taken (highest part n most) None (λ x h.
    let a = h.aligned in
    let b = h.below in
    let some : 4096 ≤ part_size n = omega arith in
    let q = x / 4096 in
    let t = free_is ram taken q (h.in_ram q (omega arith) (omega (arith, some))) (h.not_taken q (omega arith) (omega (arith, some))) in
    absurd (true_false (sym t ∙ blocked q (omega arith) (omega (arith, a, b, some)))))

-- a part of k pages, as low as it can lie: no lower address has a free first and a free last page
pub lowest_at : (ram taken : ℕ → Bool) (part : Part) (n align min most p k : ℕ) → part_size n ≡ 4096 * k → 0 < k → 4096 * p % align ≡ 0 → min ≤ 4096 * p → AreFree ram taken p k → 4096 * (p + k) ≤ most + 1 → ((x : ℕ) → x % align ≡ 0 → min ≤ x → x < 4096 * p → is_free ram taken (x / 4096) ≡ true → is_free ram taken ((x + part_size n - 1) / 4096) ≡ true → ⊥)
    → hole ram taken (record { part = part; length = n; end = Least; align = align; min = min; most = most }) ≡ Some (4096 * p)
lowest_at ram taken part n align min most p k size some aligned above free below lower =
    hole_is ram taken (record { part = part; length = n; end = Least; align = align; min = min; most = most }) (Some (4096 * p)) (
      record {
        aligned = aligned;
        above = above;
        below = omega (arith, size, some, below);
        in_ram = λ q from to. (free q (omega (arith, from)) (omega (arith, size, some, to))).0;
        not_taken = λ q from to. (free q (omega (arith, from)) (omega (arith, size, some, to))).1;
      },
      λ x h. elim (cases_lt x (4096 * p)) [
        | inl l ↦ let q = (x + part_size n - 1) / 4096 in
            let first = free_is ram taken (x / 4096) (h.in_ram (x / 4096) (omega arith) (omega (arith, size, some))) (h.not_taken (x / 4096) (omega arith) (omega (arith, size, some))) in
            let last = free_is ram taken q (h.in_ram q (omega (arith, size, some)) (omega arith)) (h.not_taken q (omega (arith, size, some)) (omega arith)) in
            absurd (lower x h.aligned h.above l first last)
        | inr l ↦ l
      ],
    )

-- the place of a hole
pub placed : (ram taken : ℕ → Bool) (part : Part) (n : ℕ) (end : End) (align min most a : ℕ) → nat_le (2 ^ 46) (part_size n) ≡ false → hole ram taken (record { part = part; length = n; end = end; align = align; min = min; most = most }) ≡ Some a
    → place ram taken (record { part = part; length = n; end = end; align = align; min = min; most = most }) ≡ Ok (record { at = a; size = part_size n })
unfolding place
placed ram taken part n end align min most a low e =
    ap (λ b. cond b (Err (faults.NoHole part)) (site_at (record { part = part; length = n; end = end; align = align; min = min; most = most }) (hole ram taken (record { part = part; length = n; end = end; align = align; min = min; most = most })))) low
    ∙ ap (site_at (record { part = part; length = n; end = end; align = align; min = min; most = most })) e

pub not_placed : (ram taken : ℕ → Bool) (part : Part) (n : ℕ) (end : End) (align min most : ℕ) → nat_le (2 ^ 46) (part_size n) ≡ false → hole ram taken (record { part = part; length = n; end = end; align = align; min = min; most = most }) ≡ None
    → place ram taken (record { part = part; length = n; end = end; align = align; min = min; most = most }) ≡ Err (faults.NoHole part)
unfolding place
not_placed ram taken part n end align min most low e =
    ap (λ b. cond b (Err (faults.NoHole part)) (site_at (record { part = part; length = n; end = end; align = align; min = min; most = most }) (hole ram taken (record { part = part; length = n; end = end; align = align; min = min; most = most })))) low
    ∙ ap (site_at (record { part = part; length = n; end = end; align = align; min = min; most = most })) e
