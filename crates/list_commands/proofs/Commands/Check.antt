-- What is proved of `check`.
use Rattle.std.proofs.Common.{◌≡◌, [], Option, Some, None, Ok, Err, refl, subst}
use Rattle.kx_edge.specs.Edge.{Files}
use Rattle.kx_edge.specs.declared.edge.Shelf.{Ghosts as Shelf}
use Rattle.kx_edge.specs.declared.edge.Sink.{Ghosts as Sink}
use Rattle.list_checker.specs.declared.fault.ListFault.{ListFault}
use Rattle.file_commands.specs.Taking.{Refusal}
use Rattle.file_commands.specs.Answers.{MeetsTold, done}
use Rattle.file_commands.specs.inner.Order.{Stands}
use Rattle.list_commands.specs.declared.records.TakenLoad.{TakenLoad}
use Rattle.list_commands.specs.declared.records.TakenLoad.TheVariants.{Normal, Crash}
use Rattle.list_commands.specs.declared.records.CrashFiles.{CrashFiles}
use Rattle.list_commands.specs.declared.records.LoadFiles.{LoadFiles}
use Rattle.command_parts.specs.declared.reason.Reason.{Reason}
use Rattle.command_parts.specs.Outputs.{Made}
use Rattle.kexec_words.specs.Values.{LoadNamesValue}
use Rattle.list_commands.specs.Check.{HasCheckedLoad, IsAcceptedLoad, check_entry, checks, checks_list_as, checks_place_as}
use Rattle.file_commands.proofs.Keeping.{Keeps, put_as, said_as}

module _ {S O : Type 0} (D : Shelf S) (E : Sink O) (held : Files) (s : S) (o : O) (s' : S) (o' : O) where
  checked : (l : LoadNamesValue) → (m : MeetsTold D E (check_entry l).command held s o done s' o') → HasCheckedLoad D E s o s' o' m.0
  checked l (Normal x, goods, read, m, fault, out) =
      let n = subst (λ f. checks_list_as x goods f) fault m in
      record { items = n.items; accepted = n.accepted; put = put_as D E s o s' o' goods.outputs [] n.outputs out.put; said = said_as D E s o s' o' goods.text _ n.text out.said }
  checked l (Crash x, goods, read, m, fault, out) =
      let n = subst (λ f. checks_place_as x goods f) fault m in
      record { accepted = n.accepted; put = put_as D E s o s' o' goods.outputs [] n.outputs out.put; said = said_as D E s o s' o' goods.text _ n.text out.said }

-- what is accepted has no fault
list_whole : (x : LoadFiles) (goods : Made) (f : Option ListFault) → IsAcceptedLoad (Normal x) → checks_list_as x goods f → goods.fault ≡ f → goods.fault ≡ None
list_whole x goods None accepted m e = e
list_whole x goods (Some f) accepted m e = absurd (m.0.1 accepted.0 accepted.1)

place_whole : (x : CrashFiles) (goods : Made) (f : Option ListFault) → IsAcceptedLoad (Crash x) → checks_place_as x goods f → goods.fault ≡ f → goods.fault ≡ None
place_whole x goods None accepted m e = e
place_whole x goods (Some f) accepted m e = absurd (m.0.no_place accepted)

check_whole : (x : TakenLoad) (goods : Made) → IsAcceptedLoad x → checks x (Ok goods) → goods.fault ≡ None
check_whole (Normal x) goods accepted m = list_whole x goods goods.fault accepted m refl
check_whole (Crash x) goods accepted m = place_whole x goods goods.fault accepted m refl

check_not : (x : TakenLoad) (a : Refusal Reason) → checks x (Err a) → ⊥
check_not (Normal x) a m = m
check_not (Crash x) a m = m

check_stands : (l : LoadNamesValue) (x : TakenLoad) → IsAcceptedLoad x → Stands (check_entry l).command x
check_stands l x accepted = record { unrefused = check_not x; whole = λ goods m. check_whole x goods accepted m }

list_accepted : (x : LoadFiles) (goods : Made) → checks_list_as x goods None → IsAcceptedLoad (Normal x)
list_accepted x goods m = (m.items, m.accepted)

checked_accepted : (x : TakenLoad) (goods : Made) → checks x (Ok goods) → goods.fault ≡ None → IsAcceptedLoad x
checked_accepted (Normal x) goods m fault = list_accepted x goods (subst (λ f. checks_list_as x goods f) fault m)
checked_accepted (Crash x) goods m fault = (subst (λ f. checks_place_as x goods f) fault m).accepted

pub check_keeps : (l : LoadNamesValue) → Keeps (check_entry l)
check_keeps l = record {
  did = λ D E held s o s' o'. checked D E held s o s' o' l;
  stands = check_stands l;
  could = checked_accepted;
  refuses = λ x why h. absurd (check_not x why h);
}
