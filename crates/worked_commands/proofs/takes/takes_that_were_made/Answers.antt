-- By what is held, and then by computing.
use Rattle.std.proofs.Common.{◌≡◌, ◌∙◌, ℕ, List, [], ◌∷◌, Ok, refl, sym, ap, take}
use Rattle.std.specs.Prelude.{codes, unwrap_or}
use Rattle.kx_edge.specs.Edge.{read_of}
use Rattle.file_commands.specs.Taking.{GivesFile, Refusal, Same, Took, and_then, reads}
use Rattle.file_commands.proofs.Steps.{took_told}
use Rattle.kx_laws.proofs.Results.{ok_same}
use Rattle.worked_commands.specs.Shelves.{desk, two_files}
use Rattle.worked_commands.specs.Takes.{a_then_b, calm}
use Rattle.worked_commands.proofs.Shelves.{differ, got, look}
use Rattle.worked_commands.proofs.Reading.{read_by}
use Rattle.worked_commands.proofs.takes.takes_that_were_made.Goals as goal

abbrev files : List (List ℕ × List ℕ)
files = (codes "a", codes "xyz") ∷ (codes "b", codes "vw") ∷ []

given : (name : List ℕ) (most : ℕ) → take most (unwrap_or (look files name) []) ≡ read_of two_files name most
given name most = ap (λ o. take most (unwrap_or o [])) (sym (got files name))

unchanged : Same desk calm calm
unchanged = record { files = refl; faults = refl }

gave : (name : List ℕ) (most : ℕ) → GivesFile desk calm name most (take most (unwrap_or (look files name) [])) calm
gave name most = record { took = refl; same = unchanged; told = given name most }

pub returns-clause-gave : goal.returns-clause-gave
returns-clause-gave c = gave (codes "a") 4

pub returns-clause-gave_others : goal.returns-clause-gave_others
returns-clause-gave_others c = λ h. differ (codes "xyy") (codes "xyz") refl (h.told ∙ sym (given (codes "a") 4))

pub returns-clause-gave_whatever : goal.returns-clause-gave_whatever
returns-clause-gave_whatever c = record { took = refl; same = record { files = refl; faults = refl }; told = tt }

pub returns-clause-same : goal.returns-clause-same
returns-clause-same c = unchanged

pub returns-clause-counted : goal.returns-clause-counted
returns-clause-counted c = λ h. let e : 7 ≡ 6 = h.faults in cc

pub returns-clause-both : goal.returns-clause-both
unfolding Took and_then
returns-clause-both c = (codes "xyz", calm, gave (codes "a") 4, (codes "vw", calm, gave (codes "b") 3, (refl, refl)))

-- what was taken of told files is what is read of them
pub returns-clause-swapped : goal.returns-clause-swapped
unfolding and_then
returns-clause-swapped c = λ h.
    let read : reads (a_then_b 3 2) two_files ≡ Ok (codes "vw", codes "xyz") = took_told desk (a_then_b 3 2) calm calm _ h in
    let is : reads (a_then_b 3 2) two_files ≡ Ok (codes "xyz", codes "vw") = read_by files (a_then_b 3 2) in
    differ (codes "xyz") (codes "vw") refl (ap (λ p. p.0) (ok_same {F = Refusal ℕ} (codes "xyz", codes "vw") (codes "vw", codes "xyz") (sym is ∙ read)))

pub returns-clause-refused : goal.returns-clause-refused
unfolding Took and_then
returns-clause-refused c = (codes "xyz", calm, gave (codes "a") 4, (codes "vw", calm, gave (codes "b") 2, (refl, refl)))
