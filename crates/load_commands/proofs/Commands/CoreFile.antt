-- What is proved of `core`.
use Rattle.std.proofs.Common.{◌≡◌, ◌∙◌, [], ◌∷◌, Result, Ok, Err, ap, sym}
use Rattle.kx_edge.specs.Edge.{Files}
use Rattle.kx_edge.specs.declared.edge.Shelf.{Ghosts as Shelf}
use Rattle.kx_edge.specs.declared.edge.Sink.{Ghosts as Sink}
use Rattle.page_memory.specs.Contents.{Contents, at}
use Rattle.vmcore_file.specs.declared.fault.CoreFault.{CoreFault}
use Rattle.vmcore_file.specs.File.{CoreValue as CoreMade, core_reading}
use Rattle.file_commands.specs.Taking.{Refusal, by, too_long}
use Rattle.file_commands.specs.Answers.{MeetsTold, done}
use Rattle.file_commands.specs.inner.Order.{Stands}
use Rattle.file_commands.proofs.Meeting.{RefusesFor}
use Rattle.command_parts.specs.declared.reason.Reason.{Reason}
use Rattle.command_parts.specs.declared.reason.Reason.TheVariants as reasons
use Rattle.kexec_words.specs.Values.{CoreValue}
use Rattle.load_commands.specs.CoreFile.{HasWrittenCore, RefusesCore, core_entry, cores}
use Rattle.file_commands.proofs.Keeping.{Keeps, put_as, said_as}

module _ {S O : Type 0} (D : Shelf S) (E : Sink O) (held : Files) (s : S) (o : O) (s' : S) (o' : O) where
  core_written : (c : CoreValue) → (m : MeetsTold D E (core_entry c).command held s o done s' o') → HasWrittenCore D E s o s' o' c m.0
  core_written c (memory, goods, read, n, fault, out) = record {
    made = n.0;
    is_core = n.1;
    put = put_as D E s o s' o' goods.outputs ((c.out, n.0.bytes) ∷ []) n.4 out.put;
    said = said_as D E s o s' o' goods.text _ n.2 out.said;
  }

-- memory by the headers at an address is a core, or has one fault
no_fault : (v : CoreMade) (f : CoreFault) → ◌≡◌ {A = Result CoreMade CoreFault} (Ok v) (Err f) → ⊥
no_fault v f e = cc

same_fault : (f g : CoreFault) → ◌≡◌ {A = Result CoreMade CoreFault} (Err g) (Err f) → g ≡ f
same_fault f g e = cc

not_made : (c : CoreValue) (m : Contents) (v : CoreMade) (why : Reason) → core_reading (at m) c.address ≡ Ok v → RefusesCore (at m) c.address why → ⊥
not_made c m v (reasons.Core f) made r = no_fault v f (sym made ∙ r)
not_made c m v other made r = absurd r

one_refusal : (c : CoreValue) (m : Contents) (why w : Reason) → RefusesCore (at m) c.address why → RefusesCore (at m) c.address w → w ≡ why
one_refusal c m (reasons.Core f) (reasons.Core g) r s = ap reasons.Core (same_fault f g (sym s ∙ r))
one_refusal c m (reasons.Core f) other r s = absurd s
one_refusal c m other w r s = absurd r

core_stands : (c : CoreValue) (m : Contents) (v : CoreMade) → core_reading (at m) c.address ≡ Ok v → Stands (core_entry c).command m
core_stands c m v made = record { unrefused = none; whole = λ goods k. k.3 }
  where
    none : (a : Refusal Reason) → cores c.address c.out m (Err a) → ⊥
    none (by why) r = not_made c m v why made r
    none (too_long name limit) r = r

core_refused : (c : CoreValue) (m : Contents) (a : Refusal Reason) → cores c.address c.out m (Err a) → RefusesFor (core_entry c).command m a
core_refused c m (by why) r (Ok goods) k = absurd (not_made c m k.0 why k.1 r)
core_refused c m (by why) r (Err (by w)) s = ap (λ w. Err (by w)) (one_refusal c m why w r s)
core_refused c m (by why) r (Err (too_long name limit)) k = absurd k
core_refused c m (too_long name limit) r s k = absurd r

pub core_keeps : (c : CoreValue) → Keeps (core_entry c)
core_keeps c = record {
  did = λ D E held s o s' o'. core_written D E held s o s' o' c;
  stands = λ m can. core_stands c m can.0 can.1;
  could = λ m goods k fault. (k.0, k.1);
  refuses = core_refused c;
}
