-- What a `?` hands on.
use Rattle.std.proofs.Common.{◌≡◌, Result, Ok, Err, ap, IsErrAnd}

pub handed_on : {A F : Type 0} (r : Result A F) (e : F) → IsErrAnd r (λ x. x ≡ e) → r ≡ Err e
handed_on (Ok x) e h = elim h [ ]
handed_on (Err x) e h = ap Err h
