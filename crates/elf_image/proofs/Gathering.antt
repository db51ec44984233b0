-- Loops that gather what a step gives of each number.
use Rattle.std.proofs.Common.{◌≡◌, ℕ, suc, ◌+◌, ◌-◌, ◌<◌, ◌≤◌, List, [], ◌++◌, refl, sym, ap, ◌∙◌, subst, Ok, Err, Result, inl, inr, arith, append_assoc, append-nil}
use Rattle.std.specs.List.{range_with_len}
use Rattle.elf_image.specs.declared.fault.ElfFault.{ElfFault}
use Rattle.kx_laws.proofs.Results.{bind_ok, ok_same}
use Rattle.kx_laws.specs.Results.{◌>>=◌}
use Rattle.elf_image.specs.Gathered.{gather}
use Rattle.elf_image.specs.inner.Gathered.{onto}
use Rattle.elf_image.proofs.Failing.{Fails, fails_on}

-- what was gathered so far of the numbers below k, of those below end
pub record Left {B : Type 0} (f : ℕ → Result (List B) ElfFault) (k end : ℕ) (out : List B) (all : Result (List B) ElfFault) : Type 0 where
  pub same : onto out (gather f (range_with_len k (end - k))) ≡ all

onto_onto : {B : Type 0} (out ys : List B) (g : Result (List B) ElfFault) → onto out (g >>= λ more. Ok (ys ++ more)) ≡ onto (out ++ ys) g
onto_onto out ys (Ok zs) = ap Ok (sym (append_assoc out ys zs))
onto_onto out ys (Err e) = refl

onto_none : {B : Type 0} (g : Result (List B) ElfFault) → onto [] g ≡ g
onto_none (Ok zs) = refl
onto_none (Err e) = refl

step : {B : Type 0} (f : ℕ → Result (List B) ElfFault) (k m j : ℕ) → m ≡ suc j → gather f (range_with_len k m) ≡ (f k >>= λ ys. gather f (range_with_len (k + 1) j) >>= λ more. Ok (ys ++ more))
unfolding gather
step f k m j e = ap (λ n. gather f (range_with_len k n)) e

pub more : {B : Type 0} {f : ℕ → Result (List B) ElfFault} {k end : ℕ} {out ys new : List B} {all : Result (List B) ElfFault} → Left f k end out all → k < end → f k ≡ Ok ys → new ≡ out ++ ys → Left f (k + 1) end new all
more {f = f} {k = k} {end = end} {out = out} {ys = ys} {new = new} {all = all} left below gives is =
    let j = end - (k + 1) in
    let e : end - k ≡ suc j = omega arith in
    let g = gather f (range_with_len (k + 1) j) in
    record {
      same = ap (λ l. onto l g) is ∙ sym (onto_onto out ys g) ∙ sym (ap (λ r. onto out (r >>= λ ys. g >>= λ more. Ok (ys ++ more))) gives) ∙ sym (ap (onto out) (step f k (end - k) j e)) ∙ left.same;
    }

pub fails : {B : Type 0} {f : ℕ → Result (List B) ElfFault} {k end : ℕ} {out : List B} {all : Result (List B) ElfFault} (e : ElfFault) → Left f k end out all → k < end → Fails e (f k) → Fails e all
fails {f = f} {k = k} {end = end} {out = out} {all = all} e left below h =
    let j = end - (k + 1) in
    let n : end - k ≡ suc j = omega arith in
    let g = gather f (range_with_len (k + 1) j) in
    subst (Fails e) (sym (ap (onto out) (step f k (end - k) j n)) ∙ left.same)
    (fails_on e (f k >>= λ ys. g >>= λ more. Ok (ys ++ more)) (λ ys. Ok (out ++ ys)) (fails_on e (f k) (λ ys. g >>= λ more. Ok (ys ++ more)) h))

pub last : {B : Type 0} {f : ℕ → Result (List B) ElfFault} {k end : ℕ} {out : List B} {all : Result (List B) ElfFault} → Left f k end out all → end ≤ k → all ≡ Ok out
unfolding gather
last {f = f} {k = k} {end = end} {out = out} {all = all} left done =
    let e : end - k ≡ 0 = omega arith in
    sym left.same ∙ ap (λ n. onto out (gather f (range_with_len k n))) e ∙ ap Ok (append-nil out)

pub first : {B : Type 0} (f : ℕ → Result (List B) ElfFault) (end : ℕ) (out : List B) → out ≡ [] → Left f 0 end out (gather f (range_with_len 0 end))
first f end out none =
    let e : end - 0 ≡ end = omega arith in
    record { same = ap (λ n. onto out (gather f (range_with_len 0 n))) e ∙ ap (λ l. onto l (gather f (range_with_len 0 end))) none ∙ onto_none (gather f (range_with_len 0 end)) }

pub begin : {B : Type 0} (f : ℕ → Result (List B) ElfFault) (end : ℕ) (out : List B) → Left f 0 end out (onto out (gather f (range_with_len 0 end)))
begin f end out =
    let e : end - 0 ≡ end = omega arith in
    record { same = ap (λ n. onto out (gather f (range_with_len 0 n))) e }

-- the same where the step puts what it gives behind the others itself
pub more_onto : {B : Type 0} {f : ℕ → Result (List B) ElfFault} {k end : ℕ} {out : List B} {all : Result (List B) ElfFault} (new : List B) → Left f k end out all → k < end → onto out (f k) ≡ Ok new → Left f (k + 1) end new all
more_onto {f = f} {k = k} {out = out} new left below gives =
    let a = bind_ok (f k) (λ ys. Ok (out ++ ys)) new gives in more left below a.1 (sym (ok_same (out ++ a.0) new a.2))

onto_fails : {B : Type 0} (e : ElfFault) (out : List B) (r : Result (List B) ElfFault) → Fails e (onto out r) → Fails e r
onto_fails e out (Ok ys) (inl x) = cc
onto_fails e out (Ok ys) (inr m) = inr m
onto_fails e out (Err d) h = h

pub fails_onto : {B : Type 0} {f : ℕ → Result (List B) ElfFault} {k end : ℕ} {out : List B} {all : Result (List B) ElfFault} (e : ElfFault) → Left f k end out all → k < end → Fails e (onto out (f k)) → Fails e all
fails_onto {f = f} {k = k} {out = out} e left below h = fails e left below (onto_fails e out (f k) h)
