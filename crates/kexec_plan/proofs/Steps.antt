-- Parts that are placed one after another.
use Rattle.std.proofs.Common.{◌≡◌, ℕ, Bool, List, [], ◌∷◌, Ok, Err, refl}
use Rattle.plan_faults.specs.declared.fault.PlanFault.{PlanFault}
use Rattle.kexec_plan.specs.Laying.{Laid, PlanPart, place_part, place_parts}

pub next_is : (ram : ℕ → Bool) (l more : Laid) (p : PlanPart) (ps : List PlanPart) → place_part ram l p ≡ Ok more → place_parts ram l (p ∷ ps) ≡ place_parts ram more ps
unfolding place_parts
next_is ram l more p ps h = rw h refl

pub next_fails : (ram : ℕ → Bool) (l : Laid) (p : PlanPart) (ps : List PlanPart) (e : PlanFault) → place_part ram l p ≡ Err e → place_parts ram l (p ∷ ps) ≡ Err e
unfolding place_parts
next_fails ram l p ps e h = rw h refl

pub none_left : (ram : ℕ → Bool) (l : Laid) → place_parts ram l [] ≡ Ok l
unfolding place_parts
none_left ram l = refl
