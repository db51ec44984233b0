-- What a file that is measured reads as.
use Rattle.std.proofs.Common.{◌≡◌, ℕ, ◌+◌, ◌<◌, ◌≤◌, List, length, take, Bool, true, false, Option, Some, None, Ok, Err, nat_lt, if◌then◌else◌, refl, sym, ap, ◌∙◌, subst, inl, inr, arith, length-take}
use Rattle.std.proofs.lemmas.List.{take_all}
use Rattle.std.proofs.lemmas.Bool.Decides.{nat_tests}
use Rattle.std.specs.Prelude.{IfSome}
use Rattle.kx_edge.specs.Edge.{Files}
use Rattle.kx_edge.specs.declared.edge.Shelf.{Ghosts as Shelf}
use Rattle.file_commands.specs.Taking.{ok, refuse, too_long, reads, FailsFile, FailedAt, GivesFile, Took}
use Rattle.file_commands.specs.inner.Taking.{file_at}
use Rattle.file_commands.specs.Files.{whole_file, check_length}
use Rattle.file_commands.proofs.Steps.{took_told}

within_reads : {R : Type 0} (limit : ℕ) (name bytes : List ℕ) (held : Files) (b : Bool) → nat_lt limit (length bytes) ≡ b
    → reads {R = R} (check_length limit name bytes) held ≡ (if b then Err (too_long name limit) else Ok bytes)
within_reads {R} limit name bytes held true e = ap (λ b. reads {R = R} (if b then refuse (too_long name limit) else ok bytes) held) e
within_reads {R} limit name bytes held false e = ap (λ b. reads {R = R} (if b then refuse (too_long name limit) else ok bytes) held) e

-- one byte past the limit shows whether a file is longer
longer : (limit : ℕ) (bytes : List ℕ) (b : Bool) → nat_lt limit (length bytes) ≡ b → nat_lt limit (length (take (limit + 1) bytes)) ≡ b
longer limit bytes true e =
    let long : limit < length bytes = grind (arith, nat_tests) in
    let short = length-take (limit + 1) bytes in
    let past : limit < length (take (limit + 1) bytes) = omega (arith, short, long) in
    grind (arith, nat_tests)
longer limit bytes false e =
    let fits : length bytes ≤ limit = grind (arith, nat_tests) in
    let short = length-take (limit + 1) bytes in
    let less : length (take (limit + 1) bytes) ≤ limit = omega (arith, short, fits) in
    grind (arith, nat_tests)

whole : (limit : ℕ) (bytes : List ℕ) → nat_lt limit (length bytes) ≡ false → take (limit + 1) bytes ≡ bytes
whole limit bytes e =
    let fits : length bytes ≤ limit = grind (arith, nat_tests) in
    take_all (limit + 1) bytes (omega (arith, fits))

-- a file is read whole, or refused where it is longer than its limit
measured_by : {R : Type 0} (limit : ℕ) (name : List ℕ) (held : Files) (b : Bool) → nat_lt limit (length (file_at held name)) ≡ b
    → reads {R = R} (whole_file limit name) held ≡ (if b then Err (too_long name limit) else Ok (file_at held name))
measured_by limit name held true e = within_reads limit name (take (limit + 1) (file_at held name)) held true (longer limit (file_at held name) true e)
measured_by limit name held false e = within_reads limit name (take (limit + 1) (file_at held name)) held false (longer limit (file_at held name) false e) ∙ ap Ok (whole limit (file_at held name) e)

pub measured_reads : {R : Type 0} (limit : ℕ) (name : List ℕ) (held : Files)
    → reads {R = R} (whole_file limit name) held ≡ (if nat_lt limit (length (file_at held name)) then Err (too_long name limit) else Ok (file_at held name))
measured_reads limit name held = measured_by limit name held (nat_lt limit (length (file_at held name))) refl

-- what was taken is the whole file
whole_by : {R : Type 0} (limit : ℕ) (name bytes : List ℕ) (held : Files) (b : Bool) → nat_lt limit (length (file_at held name)) ≡ b → reads {R = R} (whole_file limit name) held ≡ Ok bytes → bytes ≡ file_at held name
whole_by limit name bytes held true e h = let k = sym (measured_by limit name held true e) ∙ h in cc
whole_by limit name bytes held false e h = let k = sym (measured_by limit name held false e) ∙ h in cc

whole_told : (R : Type 0) (files : Option Files) (limit : ℕ) (name bytes : List ℕ) → IfSome files (λ held. reads {R = R} (whole_file limit name) held ≡ Ok bytes) → IfSome files (λ held. bytes ≡ file_at held name)
whole_told R None limit name bytes h = tt
whole_told R (Some held) limit name bytes h = whole_by limit name bytes held (nat_lt limit (length (file_at held name))) refl h

pub took_whole : {S : Type 0} (R : Type 0) (D : Shelf S) (limit : ℕ) (name bytes : List ℕ) (s new : S) → Took {R = R} D (whole_file limit name) s (Ok bytes) new → IfSome (D.files s) (λ held. bytes ≡ file_at held name)
took_whole R D limit name bytes s new h = whole_told R (D.files s) limit name bytes (took_told D (whole_file limit name) s new (Ok bytes) h)

-- one file is one call
module _ {S : Type 0} (R : Type 0) (D : Shelf S) where
  within_fails : (limit : ℕ) (name bytes : List ℕ) (s new : S) (n : List ℕ) (b : Bool) → nat_lt limit (length bytes) ≡ b → FailedAt {R = R} D (check_length limit name bytes) s n new → ⊥
  unfolding FailedAt
  within_fails limit name bytes s new n true e h = subst (λ b. FailedAt {R = R} D (if b then refuse (too_long name limit) else ok bytes) s n new) e h
  within_fails limit name bytes s new n false e h = subst (λ b. FailedAt {R = R} D (if b then refuse (too_long name limit) else ok bytes) s n new) e h

  pub failed_measured : (limit : ℕ) (name : List ℕ) (s new : S) (n : List ℕ) → FailedAt {R = R} D (whole_file limit name) s n new → (n ≡ name) × FailsFile D s name new
  unfolding FailedAt
  failed_measured limit name s new n (inl h) = h
  failed_measured limit name s new n (inr h) = absurd (within_fails limit name h.0 h.1 new n (nat_lt limit (length h.0)) refl h.3)

  within_stays : (limit : ℕ) (name bytes found : List ℕ) (s new : S) (b : Bool) → nat_lt limit (length bytes) ≡ b → Took {R = R} D (check_length limit name bytes) s (Ok found) new → new ≡ s
  unfolding Took
  within_stays limit name bytes found s new true e h = (subst (λ b. Took {R = R} D (if b then refuse (too_long name limit) else ok bytes) s (Ok found) new) e h).1
  within_stays limit name bytes found s new false e h = (subst (λ b. Took {R = R} D (if b then refuse (too_long name limit) else ok bytes) s (Ok found) new) e h).1

  pub took_measured : (limit : ℕ) (name found : List ℕ) (s new : S) → Took {R = R} D (whole_file limit name) s (Ok found) new → (bytes : List ℕ) × GivesFile D s name (limit + 1) bytes new
  unfolding Took
  took_measured limit name found s new (bytes, mid, gave, h) = (bytes, subst (λ m. GivesFile D s name (limit + 1) bytes m) (sym (within_stays limit name bytes found mid new (nat_lt limit (length bytes)) refl h)) gave)
