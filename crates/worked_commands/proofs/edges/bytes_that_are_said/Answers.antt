-- By computing.
use Rattle.std.proofs.Common.{◌≡◌, ℕ, List, None, ap, arith, refl, sym}
use Rattle.std.specs.Prelude.{codes, get_or}
use Rattle.kx_laws.proofs.Options.{none_some, some_same}
use Rattle.worked_commands.proofs.edges.bytes_that_are_said.Goals as goal

pub returns-clause-appended : goal.returns-clause-appended
returns-clause-appended c = refl

pub returns-clause-untold : goal.returns-clause-untold
returns-clause-untold c = refl

pub returns-clause-no_more_told : goal.returns-clause-no_more_told
returns-clause-no_more_told c = λ h. none_some {A = List ℕ} None (codes "abcd") refl h

pub returns-clause-in_front : goal.returns-clause-in_front
returns-clause-in_front c = λ h.
    let e : codes "cdab" ≡ codes "abcd" = some_same (codes "cdab") (codes "abcd") h in
    let f : 99 ≡ 97 = ap (λ bytes. get_or bytes 0 0) e in
    omega (arith, f)

pub returns-clause-never_told : goal.returns-clause-never_told
returns-clause-never_told c = λ now h. none_some {A = List ℕ} None now refl (sym h)
