-- What is proved of `boot`.
use Rattle.std.proofs.Common.{[], ◌∷◌, Ok, Err, ap}
use Rattle.kx_edge.specs.Edge.{Files}
use Rattle.kx_edge.specs.declared.edge.Shelf.{Ghosts as Shelf}
use Rattle.kx_edge.specs.declared.edge.Sink.{Ghosts as Sink}
use Rattle.file_commands.specs.Taking.{Refusal, by, too_long}
use Rattle.file_commands.specs.Answers.{MeetsTold, done}
use Rattle.file_commands.specs.inner.Order.{Stands}
use Rattle.file_commands.proofs.Meeting.{RefusesFor}
use Rattle.command_parts.specs.declared.reason.Reason.{Reason}
use Rattle.command_parts.specs.Outputs.{Made}
use Rattle.kexec_words.specs.Values.{BootValue}
use Rattle.load_commands.specs.Boot.{HasBooted, boot_entry, boots}
use Rattle.load_commands.specs.Inputs.{LoadInputs}
use Rattle.load_commands.specs.ByRules.{HasBootedLaid}
use Rattle.load_commands.specs.NormalLoad.{CanLoad}
use Rattle.command_parts.specs.Runs.{after_runs, wish_of}
use Rattle.load_commands.proofs.Ending.{again_of, machine_of}
use Rattle.load_commands.proofs.Leaving.{leaves_of}
use Rattle.load_commands.proofs.NormalLoad.{can_load, can_not_both, normal, not_made, only_refusal}
use Rattle.command_parts.proofs.Alike.{same_left}
use Rattle.load_commands.proofs.Proving.{proves_itself}
use Rattle.file_commands.proofs.Keeping.{Keeps, put_as, said_as}

module _ {S O : Type 0} (D : Shelf S) (E : Sink O) (held : Files) (s : S) (o : O) (s' : S) (o' : O) where
  booted : (b : BootValue) → (m : MeetsTold D E (boot_entry b).command held s o done s' o') → HasBooted D E s o s' o' b m.0
  booted b (i, goods, read, n, fault, out) = record {
    planned = n.0;
    checked = n.1;
    load = normal _ i n.0 n.1 n.2.0 n.2.1;
    ends_again = again_of b.kept i n.0 n.1 n.2.0 n.2.1;
    runs = machine_of b.kept i n.0 n.1 n.2.0 n.2.1;
    leaves = leaves_of b.kept i n.0 n.1 n.2.0 n.2.1;
    proves_itself = proves_itself b.kept i n.0 n.1 n.2.0 n.2.1;
    output = n.5.0;
    is_memory = n.5.2;
    put = put_as D E s o s' o' goods.outputs ((b.out, n.5.0) ∷ []) n.5.1 out.put;
    said = said_as D E s o s' o' goods.text _ n.3 out.said;
  }

  pub booted_laid : (b : BootValue) → MeetsTold D E (boot_entry b).command held s o done s' o' → HasBootedLaid D E held s o s' o' b
  unfolding booted
  booted_laid b (i, goods, read, n, fault, out) = record { inputs = i; read = read; booted = booted b (i, goods, read, n, fault, out); laid = n.2.0.laid }

boot_stands : (b : BootValue) (i : LoadInputs) → CanLoad (wish_of b.kept) i (after_runs b.kept) → Stands (boot_entry b).command i
boot_stands b i can = record { unrefused = none; whole = λ goods m. m.4 }
  where
    none : (a : Refusal Reason) → boots b.kept b.out i (Err a) → ⊥
    none (by why) r = can_not_both (wish_of b.kept) i (after_runs b.kept) why can r
    none (too_long name limit) m = m

can_boot : (b : BootValue) (i : LoadInputs) (goods : Made) → boots b.kept b.out i (Ok goods) → CanLoad (wish_of b.kept) i (after_runs b.kept)
can_boot b i goods (p, c, (l, told), text, fault, (bytes, outputs, file)) =
    can_load (wish_of b.kept) i p c (after_runs b.kept) bytes l file (λ d same t. same_left b.kept c d same told t)

refused_boots : (b : BootValue) (i : LoadInputs) (a : Refusal Reason) → boots b.kept b.out i (Err a) → RefusesFor (boot_entry b).command i a
refused_boots b i (by why) r (Ok goods) m = absurd (not_made (wish_of b.kept) i (after_runs b.kept) (λ c d e t u. same_left b.kept c d e t u) why m.0 m.1 m.5.0 r m.2.0 m.2.1 m.5.2)
refused_boots b i (by why) r (Err (by w)) s = ap (λ w. Err (by w)) (only_refusal (wish_of b.kept) i (after_runs b.kept) (λ c d e t u. same_left b.kept c d e t u) why w r s)
refused_boots b i (by why) r (Err (too_long name limit)) m = absurd m
refused_boots b i (too_long name limit) r s m = absurd r

pub boot_keeps : (b : BootValue) → Keeps (boot_entry b)
boot_keeps b = record {
  did = λ D E held s o s' o'. booted D E held s o s' o' b;
  stands = boot_stands b;
  could = λ i goods m fault. can_boot b i goods m;
  refuses = refused_boots b;
}
