-- What is proved of `dump`.
use Rattle.std.proofs.Common.{◌≡◌, [], None, Ok, Err, ap}
use Rattle.kx_edge.specs.Edge.{Files}
use Rattle.kx_edge.specs.declared.edge.Shelf.{Ghosts as Shelf}
use Rattle.kx_edge.specs.declared.edge.Sink.{Ghosts as Sink}
use Rattle.file_commands.specs.Taking.{Refusal}
use Rattle.file_commands.specs.Answers.{MeetsTold, done}
use Rattle.file_commands.specs.inner.Order.{Stands}
use Rattle.list_commands.specs.declared.records.TakenLoad.{TakenLoad}
use Rattle.list_commands.specs.declared.records.TakenLoad.TheVariants.{Normal, Crash}
use Rattle.command_parts.specs.declared.reason.Reason.{Reason}
use Rattle.command_parts.specs.Outputs.{Made}
use Rattle.kexec_words.specs.Values.{LoadNamesValue}
use Rattle.list_commands.specs.Dump.{HasDumpedLoad, dump_entry, dumps}
use Rattle.file_commands.proofs.Keeping.{Keeps, put_as, said_as}

module _ {S O : Type 0} (D : Shelf S) (E : Sink O) (held : Files) (s : S) (o : O) (s' : S) (o' : O) where
  dumped : (l : LoadNamesValue) → (m : MeetsTold D E (dump_entry l).command held s o done s' o') → HasDumpedLoad D E s o s' o' m.0
  dumped l (Normal x, goods, read, m, fault, out) =
      record { list = m.0; fault = m.1; walk = m.2; put = put_as D E s o s' o' goods.outputs [] (ap (λ (g : Made). g.outputs) m.3) out.put; said = said_as D E s o s' o' goods.text _ (ap (λ (g : Made). g.text) m.3) out.said }
  dumped l (Crash x, goods, read, m, fault, out) =
      record { put = put_as D E s o s' o' goods.outputs [] (ap (λ (g : Made). g.outputs) m) out.put; said = said_as D E s o s' o' goods.text _ (ap (λ (g : Made). g.text) m) out.said }

dump_not : (x : TakenLoad) (a : Refusal Reason) → dumps x (Err a) → ⊥
dump_not (Normal x) a m = m
dump_not (Crash x) a m = m

dump_whole : (x : TakenLoad) (goods : Made) → dumps x (Ok goods) → goods.fault ≡ None
dump_whole (Normal x) goods m = ap (λ (g : Made). g.fault) m.3
dump_whole (Crash x) goods m = ap (λ (g : Made). g.fault) m

dump_stands : (l : LoadNamesValue) (x : TakenLoad) → Stands (dump_entry l).command x
dump_stands l x = record { unrefused = dump_not x; whole = dump_whole x }

pub dump_keeps : (l : LoadNamesValue) → Keeps (dump_entry l)
dump_keeps l = record {
  did = λ D E held s o s' o'. dumped D E held s o s' o' l;
  stands = λ x can. dump_stands l x;
  could = λ x goods m fault. tt;
  refuses = λ x why h. absurd (dump_not x why h);
}
