-- What calls make, and why they make nothing.
use Rattle.std.proofs.Common.{◌≡◌, Result, Err, sym, subst}
use Rattle.file_commands.specs.declared.stop.MakeFault.{MakeFault}
use Rattle.file_commands.specs.declared.stop.MakeFault.TheVariants as makes
use Rattle.file_commands.specs.inner.Calls.{RefusedBy, MakesOr}

-- a reason of one kind is a reason of another
pub refused_as : {R : Type 0} (P Q : R → Type 0) (f : MakeFault R) → ((why : R) → P why → Q why) → RefusedBy P f → RefusedBy Q f
refused_as P Q (makes.Refused why) h r = h why r
refused_as P Q makes.Memory h r = tt

-- a fault that is handed on
pub handed_on : {T R : Type 0} (P : T → Type 0) (Q : R → Type 0) (result : Result T (MakeFault R)) (f : MakeFault R) → result ≡ Err f → RefusedBy Q f → MakesOr P Q result
handed_on P Q result f e h = subst (MakesOr P Q) (sym e) h

-- the same, for a reason of another kind
pub handed_on_as : {T R : Type 0} (P : T → Type 0) (Q W : R → Type 0) (result : Result T (MakeFault R)) (f : MakeFault R)
    → result ≡ Err f → ((why : R) → W why → Q why) → RefusedBy W f → MakesOr P Q result
handed_on_as P Q W result f e h r = handed_on P Q result f e (refused_as W Q f h r)
