-- What `exec` makes of the run of a list.
use Rattle.std.proofs.Common.{◌≡◌, ℕ, List, Bool, true, false, if◌then◌else◌, Result, Ok, Err, refl, sym, subst, inr}
use Rattle.kx_pages.specs.declared.image.Mode.{Mode}
use Rattle.kx_pages.specs.declared.image.Mode.TheVariants.{Plain, Kept}
use Rattle.list_checker.specs.declared.fault.ListFault.{ListFault}
use Rattle.file_commands.specs.declared.goods.Goods.{Goods as MadeGoods}
use Rattle.file_commands.specs.declared.stop.MakeFault.{MakeFault}
use Rattle.file_commands.specs.declared.stop.MakeFault.TheVariants as makes
use Rattle.file_commands.specs.inner.Calls.{Makes, MakesOr, goods_of}
use Rattle.list_commands.specs.declared.records.LoadFiles.{LoadFiles}
use Rattle.command_parts.specs.declared.reason.Reason.{Reason}
use Rattle.kexec_words.specs.declared.commands.Runs.TheVariants.{Once, Twice}
use Rattle.list_commands.specs.Exec.{RefusesRun, RunsList, executes_as, executes_list, is_not_kept, load_of, runs_asked, runs_of}
use Rattle.command_parts.specs.inner.Ran.{HasMode, runs_in}

-- the runs that are asked fit the mode
pub runs_fit : (twice : Bool) (mode : Mode) → HasMode (runs_of twice mode) mode
runs_fit twice Plain = tt
runs_fit false (Kept swap) = tt
runs_fit true (Kept swap) = tt

-- and are those that the mode makes of as many
pub runs_as_asked : (twice : Bool) (mode : Mode) → runs_in mode (if twice then Twice else Once) ≡ runs_of twice mode
runs_as_asked twice Plain = refl
runs_as_asked false (Kept swap) = refl
runs_as_asked true (Kept swap) = refl

-- what runs the list of the files is what `exec` makes
pub execution_holds : (x : LoadFiles) (twice : Bool) (out : List ℕ) (result : Result (MadeGoods ListFault) (MakeFault Reason)) → is_not_kept twice x ≡ false
    → MakesOr (λ g. RunsList (runs_asked twice x) (load_of x) x.startup out (goods_of g)) (RefusesRun (runs_asked twice x) (load_of x)) result
    → Makes (executes_list twice out) x result
execution_holds x twice out (Ok g) e m = (e, subst (λ fault. executes_as x twice out (goods_of g) fault) (sym m.5) m)
execution_holds x twice out (Err (makes.Refused why)) e m = inr (e, m)
execution_holds x twice out (Err makes.Memory) e m = tt
