-- What is proved of `load`.
use Rattle.std.proofs.Common.{[], ◌∷◌, Ok, Err, ap}
use Rattle.kx_edge.specs.Edge.{Files}
use Rattle.kx_edge.specs.declared.edge.Shelf.{Ghosts as Shelf}
use Rattle.kx_edge.specs.declared.edge.Sink.{Ghosts as Sink}
use Rattle.page_memory.specs.Contents.{at}
use Rattle.load_record.specs.File.{record_file}
use Rattle.file_commands.specs.Taking.{Refusal, by, too_long}
use Rattle.file_commands.specs.Answers.{MeetsTold, done}
use Rattle.file_commands.specs.inner.Order.{Stands}
use Rattle.file_commands.proofs.Meeting.{RefusesFor}
use Rattle.command_parts.specs.declared.reason.Reason.{Reason}
use Rattle.command_parts.specs.Outputs.{Made}
use Rattle.kexec_words.specs.Values.{LoadValue}
use Rattle.load_commands.specs.Load.{HasLoaded, load_entry, load_wish, loads, record_of_load}
use Rattle.load_commands.specs.Inputs.{LoadInputs}
use Rattle.load_commands.specs.ByRules.{HasLoadedLaid}
use Rattle.load_commands.specs.NormalLoad.{CanLoad}
use Rattle.load_commands.proofs.NormalLoad.{can_load, can_not_both, normal, not_made, only_refusal}
use Rattle.command_parts.proofs.Told.{one_memory}
use Rattle.file_commands.proofs.Keeping.{Keeps, put_as, said_as}

module _ {S O : Type 0} (D : Shelf S) (E : Sink O) (held : Files) (s : S) (o : O) (s' : S) (o' : O) where
  loaded : (l : LoadValue) → (m : MeetsTold D E (load_entry l).command held s o done s' o') → HasLoaded D E s o s' o' l m.0
  loaded l (i, goods, read, n, fault, out) = record {
    planned = n.0;
    checked = n.1;
    load = normal _ i n.0 n.1 n.2.0 n.2.1;
    output = n.5;
    is_memory = n.6;
    read_back = n.8;
    put = put_as D E s o s' o' goods.outputs ((l.out, n.5) ∷ (l.load_record, record_file (record_of_load n.1.load n.0)) ∷ []) n.7 out.put;
    said = said_as D E s o s' o' goods.text _ n.3 out.said;
  }

  pub loaded_laid : (l : LoadValue) → MeetsTold D E (load_entry l).command held s o done s' o' → HasLoadedLaid D E held s o s' o' l
  unfolding loaded
  loaded_laid l (i, goods, read, n, fault, out) = record { inputs = i; read = read; loaded = loaded l (i, goods, read, n, fault, out); laid = n.2.0.laid }

load_stands : (l : LoadValue) (i : LoadInputs) → CanLoad (load_wish l) i (λ c. at c.load.memory) → Stands (load_entry l).command i
load_stands l i can = record { unrefused = none; whole = λ goods m. m.4 }
  where
    none : (a : Refusal Reason) → loads (load_wish l) l.out l.load_record i (Err a) → ⊥
    none (by why) r = can_not_both (load_wish l) i (λ c. at c.load.memory) why can r
    none (too_long name limit) m = m

can_be_loaded : (l : LoadValue) (i : LoadInputs) (goods : Made) → loads (load_wish l) l.out l.load_record i (Ok goods) → CanLoad (load_wish l) i (λ c. at c.load.memory)
can_be_loaded l i goods (p, c, (k, told), text, fault, bytes, file, outputs, back) =
    can_load (load_wish l) i p c (λ c. at c.load.memory) bytes k file (λ d same t. one_memory (at d.load.memory) (at c.load.memory) same.reads)

refused_loads : (l : LoadValue) (i : LoadInputs) (a : Refusal Reason) → loads (load_wish l) l.out l.load_record i (Err a) → RefusesFor (load_entry l).command i a
refused_loads l i (by why) r (Ok goods) m = absurd (not_made (load_wish l) i (λ c. at c.load.memory) (λ c d e t u. one_memory (at d.load.memory) (at c.load.memory) e.reads) why m.0 m.1 m.5 r m.2.0 m.2.1 m.6)
refused_loads l i (by why) r (Err (by w)) s = ap (λ w. Err (by w)) (only_refusal (load_wish l) i (λ c. at c.load.memory) (λ c d e t u. one_memory (at d.load.memory) (at c.load.memory) e.reads) why w r s)
refused_loads l i (by why) r (Err (too_long name limit)) m = absurd m
refused_loads l i (too_long name limit) r s m = absurd r

pub load_keeps : (l : LoadValue) → Keeps (load_entry l)
load_keeps l = record {
  did = λ D E held s o s' o'. loaded D E held s o s' o' l;
  stands = load_stands l;
  could = λ i goods m fault. can_be_loaded l i goods m;
  refuses = refused_loads l;
}
