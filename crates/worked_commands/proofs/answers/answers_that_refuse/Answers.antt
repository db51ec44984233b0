-- By what was read, made and put.
use Rattle.std.proofs.Common.{◌≡◌, ◌∙◌, ℕ, List, [], None, Result, Ok, Err, refl, sym, subst, inl, inr}
use Rattle.std.specs.Prelude.{codes}
use Rattle.std.specs.Prelude.{◌⊎◌}
use Rattle.kx_laws.proofs.Results.{ok_same}
use Rattle.file_commands.specs.Answers.{Goods}
use Rattle.file_commands.specs.Files.{whole_file}
use Rattle.file_commands.specs.Taking.{Refusal, by, reads}
use Rattle.worked_commands.specs.Shelves.{holding}
use Rattle.worked_commands.specs.Answers.{copies, long_file}
use Rattle.worked_commands.proofs.Reading.{read_by}
use Rattle.worked_commands.proofs.answers.answers_that_refuse.Goals as goal

nothing : reads (whole_file {R = ℕ} 3 (codes "a")) (holding []) ≡ Ok []
nothing = read_by [] (whole_file {R = ℕ} 3 (codes "a"))

none : (x : List ℕ) → reads (whole_file {R = ℕ} 3 (codes "a")) (holding []) ≡ Ok x → x ≡ []
none x read = ok_same {F = Refusal ℕ} x [] (sym read ∙ nothing)

other : ((reads (whole_file {R = ℕ} 3 (codes "a")) (holding []) ≡ Err (by 8)) ⊎ ((x : List ℕ) × (reads (whole_file {R = ℕ} 3 (codes "a")) (holding []) ≡ Ok x) × copies None x (Err (by 8)))) → ⊥
other (inl e) = let f : ◌≡◌ {A = Result (List ℕ) (Refusal ℕ)} (Err (by 8)) (Ok []) = sym e ∙ nothing in cc
other (inr (x, read, m)) = let f : ◌≡◌ {A = Refusal ℕ} (by 8) (by 7) = subst (λ x. copies None x (Err (by 8))) (none x read) m in cc

not_made : (x : List ℕ) (goods : Goods ℕ) → x ≡ [] → copies None x (Ok goods) → ⊥
not_made x goods e m = subst (λ x. copies None x (Ok goods)) e m

pub returns-clause-no_file : goal.returns-clause-no_file
returns-clause-no_file c = (inr ([], nothing, refl), record { files = refl; faults = refl })

pub returns-clause-other_reason : goal.returns-clause-other_reason
returns-clause-other_reason c = λ h. other h.0

pub returns-clause-too_long : goal.returns-clause-too_long
returns-clause-too_long c = (inl (read_by long_file (whole_file {R = ℕ} 3 (codes "a"))), record { files = refl; faults = refl })

pub returns-clause-not_done : goal.returns-clause-not_done
returns-clause-not_done c = λ h. not_made h.0 h.1 (none h.0 h.2) h.3
