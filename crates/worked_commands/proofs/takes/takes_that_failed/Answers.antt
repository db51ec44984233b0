-- By what is held, and then by computing.
use Rattle.std.proofs.Common.{◌≡◌, ◌∙◌, ℕ, Bool, true, false, cond, List, [], ◌∷◌, length, refl, sym, ap, subst, take, arith, inl, inr}
use Rattle.std.specs.Prelude.{codes, nat_lt, unwrap_or}
use Rattle.kx_edge.specs.Edge.{read_of}
use Rattle.file_commands.specs.Taking.{FailedAt, FailsFile, GivesFile, Refusal, Take, and_then, ok, refuse, too_long}
use Rattle.file_commands.specs.Files.{check_length, whole_file}
use Rattle.worked_commands.specs.Shelves.{Desk, desk, two_files}
use Rattle.worked_commands.specs.Takes.{a_then_b, calm, failed_once}
use Rattle.worked_commands.proofs.Shelves.{differ, got, look}
use Rattle.worked_commands.proofs.takes.takes_that_failed.Goals as goal

abbrev files : List (List ℕ × List ℕ)
files = (codes "a", codes "xyz") ∷ (codes "b", codes "vw") ∷ []

given : (name : List ℕ) (most : ℕ) → take most (unwrap_or (look files name) []) ≡ read_of two_files name most
given name most = ap (λ o. take most (unwrap_or o [])) (sym (got files name))

gave : (name : List ℕ) (most : ℕ) → GivesFile desk calm name most (take most (unwrap_or (look files name) [])) calm
gave name most = record { took = refl; same = record { files = refl; faults = refl }; told = given name most }

failed : (name : List ℕ) → FailsFile desk calm name failed_once
failed name = record { took = refl; files = refl; rose = omega arith }

pub returns-clause-failed : goal.returns-clause-failed
returns-clause-failed c = failed (codes "a")

pub returns-clause-uncounted : goal.returns-clause-uncounted
returns-clause-uncounted c = λ h. omega (arith, h.rose)

pub returns-clause-at_the_first : goal.returns-clause-at_the_first
unfolding FailedAt and_then
returns-clause-at_the_first c = inl (refl, failed (codes "a"))

pub returns-clause-at_the_second : goal.returns-clause-at_the_second
unfolding FailedAt and_then
returns-clause-at_the_second c = inr (codes "xyz", calm, gave (codes "a") 4, inl (refl, failed (codes "b")))

pub returns-clause-of_no_take : goal.returns-clause-of_no_take
unfolding FailedAt
returns-clause-of_no_take c = λ h. h

-- a check of a length fails no take
no_check : (b : Bool) (why : Refusal ℕ) (x y : List ℕ) (mid : Desk) (name : List ℕ) → FailedAt {R = ℕ} {X = List ℕ × List ℕ} desk (and_then (cond b (refuse why) (ok y)) (λ y. ok (x, y))) mid name failed_once → ⊥
unfolding FailedAt and_then
no_check true why x y mid name h = h
no_check false why x y mid name h = h

then_b : (limit : ℕ) → List ℕ → Take ℕ (List ℕ × List ℕ)
then_b limit bytes = and_then (check_length limit (codes "a") bytes) (λ x. and_then (whole_file 2 (codes "b")) (λ y. ok (x, y)))

behind : (limit : ℕ) (bytes : List ℕ) (mid : Desk) (name : List ℕ) → bytes ≡ codes "xyz" → FailedAt desk (then_b limit bytes) mid name failed_once → FailedAt desk (then_b limit (codes "xyz")) mid name failed_once
behind limit bytes mid name e h = subst (λ bytes. FailedAt desk (then_b limit bytes) mid name failed_once) e h

no_other : (mid : Desk) → FailedAt desk (then_b 3 (codes "xyz")) mid (codes "c") failed_once → ⊥
unfolding FailedAt and_then then_b
no_other mid (inl (e, f)) = differ (codes "c") (codes "b") refl e
no_other mid (inr (bytes, next, g, rest)) = no_check (nat_lt 2 (length bytes)) (too_long (codes "b") 2) (codes "xyz") bytes next (codes "c") rest

other : FailedAt desk (a_then_b 3 2) calm (codes "c") failed_once → ⊥
unfolding FailedAt and_then then_b
other (inl (e, f)) = differ (codes "c") (codes "a") refl e
other (inr (bytes, mid, g, rest)) = no_other mid (behind 3 bytes mid (codes "c") (g.told ∙ sym (given (codes "a") 4)) rest)

refused : FailedAt desk (a_then_b 2 2) calm (codes "b") failed_once → ⊥
unfolding FailedAt and_then then_b
refused (inl (e, f)) = differ (codes "b") (codes "a") refl e
refused (inr (bytes, mid, g, rest)) = behind 2 bytes mid (codes "b") (g.told ∙ sym (given (codes "a") 3)) rest

pub returns-clause-at_another : goal.returns-clause-at_another
returns-clause-at_another c = other

pub returns-clause-past_a_refusal : goal.returns-clause-past_a_refusal
returns-clause-past_a_refusal c = refused
