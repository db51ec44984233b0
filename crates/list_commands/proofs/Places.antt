-- What `exec` makes of the run of a crash load.
use Rattle.std.proofs.Common.{◌≡◌, ℕ, List, length, Bool, false, Result, Ok, Err, sym, subst, inr}
use Rattle.page_memory.specs.Contents.{at}
use Rattle.segments.specs.Values.{pages}
use Rattle.list_checker.specs.declared.fault.ListFault.{ListFault}
use Rattle.file_commands.specs.declared.goods.Goods.{Goods as MadeGoods}
use Rattle.file_commands.specs.declared.stop.MakeFault.{MakeFault}
use Rattle.file_commands.specs.declared.stop.MakeFault.TheVariants as makes
use Rattle.file_commands.specs.inner.Calls.{Makes, MakesOr, goods_of}
use Rattle.list_commands.specs.declared.records.CrashFiles.{CrashFiles}
use Rattle.command_parts.specs.declared.reason.Reason.{Reason}
use Rattle.list_commands.specs.Check.{IsInPlace}
use Rattle.list_commands.specs.CrashExec.{RunsInPlace, executes_in_place, executes_place_as}
use Rattle.command_parts.specs.Outputs.{HasNoFile}

-- what runs the crash load of the files is what `exec` makes
pub ran_in_place : (x : CrashFiles) (twice : Bool) (out : List ℕ) (result : Result (MadeGoods ListFault) (MakeFault Reason)) → twice ≡ false → IsInPlace x
    → MakesOr (λ g. RunsInPlace (at x.memory) (length (pages x.segments)) x.startup out (goods_of g)) (HasNoFile (at x.memory)) result
    → Makes (executes_in_place twice out) x result
ran_in_place x twice out (Ok g) e p m = (e, subst (λ fault. executes_place_as x out (goods_of g) fault) (sym m.fault) (p, m))
ran_in_place x twice out (Err (makes.Refused why)) e p m = inr (e, p, m)
ran_in_place x twice out (Err makes.Memory) e p m = tt
