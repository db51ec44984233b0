-- Laws of what readers answer.
use Rattle.std.proofs.Common.{◌≡◌, Bool, true, false, cond, refl, Result, Ok, Err}
use Rattle.std.specs.Prelude.{OnErr}
use Rattle.kx_laws.specs.Results.{◌>>=◌}

pub ok_same : {A F : Type 0} (x y : A) → ◌≡◌ {A = Result A F} (Ok x) (Ok y) → x ≡ y
ok_same x y h = cc

-- what steps that gave a value gave each
pub bind_ok : {A B F : Type 0} (r : Result A F) (f : A → Result B F) (y : B) → (r >>= f) ≡ Ok y → (x : A) × (r ≡ Ok x) × (f x ≡ Ok y)
bind_ok (Ok x) f y h = (x, refl, h)
bind_ok (Err e) f y h = cc

-- a value was given, so the test in front of it did not refuse
pub guard_ok : {A F : Type 0} (b : Bool) (fault : F) (r : Result A F) (y : A) → cond b (Err fault) r ≡ Ok y → (b ≡ false) × (r ≡ Ok y)
guard_ok true fault r y h = cc
guard_ok false fault r y h = (refl, h)

pub choose_ok : {A F : Type 0} (b : Bool) (fault : F) (x y : A) → cond b (Ok x) (Err fault) ≡ Ok y → (b ≡ true) × (x ≡ y)
choose_ok true fault x y h = (refl, cc)
choose_ok false fault x y h = cc

-- what holds in any case holds after a refusal
pub on_err : {A F : Type 0} (r : Result A F) (P : Type 0) → P → OnErr r P
on_err (Ok x) P h = tt
on_err (Err e) P h = h
