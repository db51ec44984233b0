-- By what is read.
use Rattle.std.proofs.Common.{◌≡◌, ◌∙◌, ℕ, List, [], None, Result, Ok, Err, refl, sym, subst, inl, inr}
use Rattle.std.specs.Prelude.{◌⊎◌, codes}
use Rattle.kx_laws.proofs.Results.{ok_same}
use Rattle.file_commands.specs.Files.{whole_file}
use Rattle.file_commands.specs.Taking.{Refusal, by, reads, too_long}
use Rattle.worked_commands.specs.Shelves.{holding}
use Rattle.worked_commands.specs.Answers.{copies, long_file, one_file}
use Rattle.worked_commands.proofs.Reading.{read_by}
use Rattle.worked_commands.proofs.Copies.{not_refused, read_here, x_is}
use Rattle.worked_commands.proofs.entries.files_in_order.Goals as goal

nothing : reads (whole_file {R = ℕ} 3 (codes "a")) (holding []) ≡ Ok []
nothing = read_by [] (whole_file {R = ℕ} 3 (codes "a"))

long : reads (whole_file {R = ℕ} 3 (codes "a")) (holding long_file) ≡ Err (too_long (codes "a") 3)
long = read_by long_file (whole_file {R = ℕ} 3 (codes "a"))

none : (x : List ℕ) → reads (whole_file {R = ℕ} 3 (codes "a")) (holding []) ≡ Ok x → x ≡ []
none x read = ok_same {F = Refusal ℕ} x [] (sym read ∙ nothing)

other : ((reads (whole_file {R = ℕ} 3 (codes "a")) (holding []) ≡ Err (by 8)) ⊎ ((x : List ℕ) × (reads (whole_file {R = ℕ} 3 (codes "a")) (holding []) ≡ Ok x) × copies None x (Err (by 8)))) → ⊥
other (inl e) = let f : ◌≡◌ {A = Result (List ℕ) (Refusal ℕ)} (Err (by 8)) (Ok []) = sym e ∙ nothing in cc
other (inr (x, read, m)) = let f : ◌≡◌ {A = Refusal ℕ} (by 8) (by 7) = subst (λ x. copies None x (Err (by 8))) (none x read) m in cc

refused : ((reads (whole_file {R = ℕ} 3 (codes "a")) (holding one_file) ≡ Err (by 7)) ⊎ ((x : List ℕ) × (reads (whole_file {R = ℕ} 3 (codes "a")) (holding one_file) ≡ Ok x) × copies None x (Err (by 7)))) → ⊥
refused (inl e) = let f : ◌≡◌ {A = Result (List ℕ) (Refusal ℕ)} (Err (by 7)) (Ok (codes "xyz")) = sym e ∙ read_here in cc
refused (inr (x, read, m)) = not_refused None x (by 7) (x_is x read) m

pub returns-clause-ready : goal.returns-clause-ready
returns-clause-ready c = (codes "xyz", read_here, λ e. let f : ◌≡◌ {A = List ℕ} (codes "xyz") [] = e in cc)

pub returns-clause-no_file : goal.returns-clause-no_file
returns-clause-no_file c = λ h. h.2 (none h.0 h.1)

pub returns-clause-refused : goal.returns-clause-refused
returns-clause-refused c = inr ([], nothing, refl)

pub returns-clause-other_reason : goal.returns-clause-other_reason
returns-clause-other_reason c = other

pub returns-clause-too_long : goal.returns-clause-too_long
returns-clause-too_long c = inl long

pub returns-clause-not_ready : goal.returns-clause-not_ready
returns-clause-not_ready c = λ h.
    let f : ◌≡◌ {A = Result (List ℕ) (Refusal ℕ)} (Err (too_long (codes "a") 3)) (Ok h.0) = sym long ∙ h.1 in
    cc

pub returns-clause-not_refused : goal.returns-clause-not_refused
returns-clause-not_refused c = refused
