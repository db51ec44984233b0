-- What is read of files that are written down.
use Rattle.std.proofs.Common.{◌≡◌, ◌∙◌, ℕ, List, [], Option, Result, Ok, Err, refl, ap, take}
use Rattle.std.specs.Prelude.{unwrap_or}
use Rattle.file_commands.specs.Taking.{Refusal, Take, file, ok, reads, refuse}
use Rattle.worked_commands.specs.Shelves.{holding}
use Rattle.worked_commands.proofs.Shelves.{got, look}

-- what is made of files, by what the file of a name is
abbrev pub reads_by : {R X : Type 0} → Take R X → (List ℕ → Option (List ℕ)) → Result X (Refusal R)
reads_by (ok x) found = Ok x
reads_by (refuse a) found = Err a
reads_by (file name most next) found = reads_by (next (take most (unwrap_or (found name) []))) found

pub read_by : {R X : Type 0} (fs : List (List ℕ × List ℕ)) (t : Take R X) → reads t (holding fs) ≡ reads_by t (look fs)
read_by fs (ok x) = refl
read_by fs (refuse a) = refl
read_by fs (file name most next) =
    ap (λ o. reads (next (take most (unwrap_or o []))) (holding fs)) (got fs name) ∙ read_by fs (next (take most (unwrap_or (look fs name) [])))
