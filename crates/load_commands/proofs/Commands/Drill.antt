-- What is proved of `drill`.
use Rattle.std.proofs.Common.{◌≡◌, ◌∙◌, ℕ, List, [], ◌∷◌, Option, None, Ok, Err, ap, sym, subst, inl, inr}
use Rattle.std.proofs.lemmas.Option.{none-some}
use Rattle.kx_laws.proofs.Options.{some_same}
use Rattle.kx_edge.specs.Edge.{Files}
use Rattle.kx_edge.specs.declared.edge.Shelf.{Ghosts as Shelf}
use Rattle.kx_edge.specs.declared.edge.Sink.{Ghosts as Sink}
use Rattle.kx_pages.specs.Spans.{Run}
use Rattle.kx_pages.proofs.Same.{same_spans}
use Rattle.image_slots.specs.declared.fault.SlotsFault.TheVariants as slots
use Rattle.file_commands.specs.Taking.{Refusal, by, too_long}
use Rattle.file_commands.specs.Answers.{MeetsTold, done}
use Rattle.file_commands.specs.inner.Order.{Stands}
use Rattle.file_commands.proofs.Meeting.{RefusesFor}
use Rattle.kexec_words.specs.Values.{DrillValue}
use Rattle.command_parts.specs.declared.reason.Reason.{Reason}
use Rattle.command_parts.specs.declared.reason.Reason.TheVariants as reasons
use Rattle.load_commands.specs.Drill.{AreRam, CanDrill, DrillInputs, HasDrilled, Meets, drill_entry, drills, first_meeting, memory_after}
use Rattle.command_parts.specs.Outputs.{HasNoFile, IsFileOf, IsTooHeavy, Made}
use Rattle.command_parts.proofs.Outputs.{file_none, has_file, heavy, one_weight}
use Rattle.file_commands.proofs.Keeping.{Keeps, put_as, said_as}

module _ {S O : Type 0} (D : Shelf S) (E : Sink O) (held : Files) (s : S) (o : O) (s' : S) (o' : O) where
  drilled : (d : DrillValue) → (m : MeetsTold D E (drill_entry d).command held s o done s' o') → HasDrilled D E s o s' o' d m.0
  drilled d (x, goods, read, n, fault, out) = record {
    ram = n.0;
    are_ram = n.1;
    apart = n.2;
    kept = n.5;
    output = n.6;
    is_memory = n.7;
    put = put_as D E s o s' o' goods.outputs ((d.out, n.6) ∷ []) n.8 out.put;
    said = said_as D E s o s' o' goods.text _ n.3 out.said;
  }

-- the pages that are RAM are said in one way, so the events leave one memory
one_memory : (x : DrillInputs) (a b : List Run) → AreRam x.map a → AreRam x.map b → memory_after x a ≡ memory_after x b
one_memory x a b h k = ap (memory_after x) (same_spans 0 0 a b h.apart k.apart (λ q. h.pages q ∙ sym (k.pages q)))

-- a pool that lies outside the reserved area does not meet it
meets_not : (found : Option ℕ) (why : Reason) → Meets found why → found ≡ None → ⊥
meets_not found (reasons.Slots (slots.PoolMeets page)) h e = none-some page (sym e ∙ h)
meets_not found other h e = h

one_meeting : (found : Option ℕ) (why w : Reason) → Meets found why → Meets found w → w ≡ why
one_meeting found (reasons.Slots (slots.PoolMeets p)) (reasons.Slots (slots.PoolMeets q)) h k = ap (λ p. reasons.Slots (slots.PoolMeets p)) (some_same q p (sym k ∙ h))
one_meeting found (reasons.Slots fault) other h k = absurd k
one_meeting found other w h k = absurd h

-- nothing refuses events that can be applied
drill_stands : (d : DrillValue) (x : DrillInputs) → CanDrill x → Stands (drill_entry d).command x
drill_stands d x can = record { unrefused = none; whole = λ goods m. m.4 }
  where
    none : (a : Refusal Reason) → drills d.out x (Err a) → ⊥
    none (by why) (inl r) = meets_not (first_meeting x) why r can.apart
    none (by why) (inr (ram, is, apart, f)) = heavy (memory_after x ram) why (λ n h. can.light n (subst (λ N. IsTooHeavy N n) (one_memory x ram can.ram is can.are_ram) h)) f
    none (too_long name limit) m = m

can_drill : (d : DrillValue) (x : DrillInputs) (goods : Made) → drills d.out x (Ok goods) → CanDrill x
can_drill d x goods m = record { ram = m.0; are_ram = m.1; apart = m.2; light = λ n h. has_file (memory_after x m.0) m.6 n m.7 h }

-- what is refused for one reason is neither done nor refused for another one
drill_refused : (d : DrillValue) (x : DrillInputs) (a : Refusal Reason) → drills d.out x (Err a) → RefusesFor (drill_entry d).command x a
drill_refused d x (by why) (inl r) (Ok goods) m = absurd (meets_not (first_meeting x) why r m.2)
drill_refused d x (by why) (inl r) (Err (by w)) (inl k) = ap (λ w. Err (by w)) (one_meeting (first_meeting x) why w r k)
drill_refused d x (by why) (inl r) (Err (by w)) (inr (ram, is, apart, f)) = absurd (meets_not (first_meeting x) why r apart)
drill_refused d x (by why) (inr (ram, is, apart, f)) (Ok goods) m =
    absurd (file_none (memory_after x ram) m.6 why (subst (λ N. IsFileOf N m.6) (one_memory x m.0 ram m.1 is) m.7) f)
drill_refused d x (by why) (inr (ram, is, apart, f)) (Err (by w)) (inl k) = absurd (meets_not (first_meeting x) w k apart)
drill_refused d x (by why) (inr (ram, is, apart, f)) (Err (by w)) (inr (other, are, free, g)) =
    ap (λ w. Err (by w)) (one_weight (memory_after x ram) why w f (subst (λ N. HasNoFile N w) (one_memory x other ram are is) g))
drill_refused d x (by why) r (Err (too_long name limit)) m = absurd m
drill_refused d x (too_long name limit) r s m = absurd r

pub drill_keeps : (d : DrillValue) → Keeps (drill_entry d)
drill_keeps d = record {
  did = λ D E held s o s' o'. drilled D E held s o s' o' d;
  stands = drill_stands d;
  could = λ x goods m fault. can_drill d x goods m;
  refuses = drill_refused d;
}
