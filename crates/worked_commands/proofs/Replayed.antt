-- What is replayed of files that are written down.
use Rattle.std.proofs.Common.{◌≤◌, ℕ, zero, suc, List, [], ◌∷◌, Option, length, take, arith, refl}
use Rattle.std.specs.Prelude.{unwrap_or}
use Rattle.file_commands.specs.Taking.{Take, file, ok, refuse}
use Rattle.call_log.specs.Calls.{Call, taken}
use Rattle.call_log.specs.Replays.{Replays}
use Rattle.worked_commands.proofs.Reading.{reads_by}

within : (n : ℕ) (xs : List ℕ) → length (take n xs) ≤ n
within zero xs = omega arith
within (suc n) [] = omega arith
within (suc n) (x ∷ xs) = omega (arith, within n xs)

-- the takes of these files, and then these calls
abbrev pub calls_by : {R X : Type 0} → Take R X → (List ℕ → Option (List ℕ)) → List Call → List Call
calls_by (ok x) found rest = rest
calls_by (refuse a) found rest = rest
calls_by (file name most next) found rest =
    taken name most (take most (unwrap_or (found name) [])) ∷ calls_by (next (take most (unwrap_or (found name) []))) found rest

pub replays_by : {R X : Type 0} (t : Take R X) (found : List ℕ → Option (List ℕ)) (rest : List Call) → Replays t (calls_by t found rest) (reads_by t found) rest
unfolding Replays
replays_by (ok x) found rest = (refl, refl)
replays_by (refuse a) found rest = (refl, refl)
replays_by (file name most next) found rest =
    let bytes = take most (unwrap_or (found name) []) in
    (bytes, calls_by (next bytes) found rest, refl, within most (unwrap_or (found name) []), replays_by (next bytes) found rest)
