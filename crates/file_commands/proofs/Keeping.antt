-- What is proved of a command that has an entry.
use Rattle.std.proofs.Common.{◌≡◌, ◌∙◌, ℕ, List, Option, Some, None, Result, Ok, Err, ap, refl, sym, subst, inl, inr}
use Rattle.std.specs.Prelude.{◌⊎◌}
use Rattle.std.specs.FinMap.{empty}
use Rattle.kx_laws.proofs.Results.{ok_same}
use Rattle.kx_edge.specs.Edge.{Files, Rose, Said}
use Rattle.kx_edge.specs.declared.edge.Shelf.{Ghosts as Shelf}
use Rattle.kx_edge.specs.declared.edge.Sink.{Ghosts as Sink}
use Rattle.file_commands.specs.Taking.{File, Refusal, Took, ok, reads}
use Rattle.file_commands.specs.Answers.{Answer, Command, FilesPut, Goods, Meets, MeetsTold, PutUpTo, done, memory, not_accepted, refused, unread, unsaid, unwritten}
use Rattle.file_commands.specs.Entry.{Entry, EndsAlone, IsDone, IsReady, IsRefused, NeedsNoFiles}
use Rattle.file_commands.specs.inner.Order.{Stands}
use Rattle.file_commands.proofs.Meeting.{RefusesFor, alone_told, fails_none, refuses, stands_told, took_none}

-- the laws of a command
pub record Keeps {F R : Type 0} (e : Entry F R) : Type 1 where
  -- what was done left what is promised
  pub did : {S O : Type 0} (D : Shelf S) (E : Sink O) (held : Files) (s : S) (o : O) (s' : S) (o' : O) → (m : MeetsTold D E e.command held s o done s' o') → e.did D E m.0 s o s' o'
  -- what can be done stands
  pub stands : (x : e.Inputs) → e.can x → Stands e.command x
  -- and only that is made without a fault
  pub could : (x : e.Inputs) (goods : Goods F) → e.command.makes x (Ok goods) → goods.fault ≡ None → e.can x
  -- of what is refused for a reason nothing else comes
  pub refuses : (x : e.Inputs) (why : Refusal R) → e.command.makes x (Err why) → RefusesFor e.command x why

module _ {S O : Type 0} (D : Shelf S) (E : Sink O) (s : S) (o : O) (s' : S) (o' : O) where
  pub put_as : (outputs wanted : List File) → outputs ≡ wanted → FilesPut (D.files s) outputs (D.files s') → FilesPut (D.files s) wanted (D.files s')
  put_as outputs wanted e h = subst (λ os. FilesPut (D.files s) os (D.files s')) e h

  pub said_as : (t u : List ℕ) → t ≡ u → Said (E.said o) t (E.said o') → Said (E.said o) u (E.said o')
  said_as t u e h = subst (λ x. Said (E.said o) x (E.said o')) e h

-- what is not read is refused, whatever the command is
module _ {S O X F R : Type 0} (D : Shelf S) (E : Sink O) (p : Command X F R) (held : Files) (s s' : S) (o o' : O) where
  none_read : (x : X) (why : Refusal R) → reads p.takes held ≡ Err why → reads p.takes held ≡ Ok x → ⊥
  none_read x why r k = let e : ◌≡◌ {A = Result X (Refusal R)} (Err why) (Ok x) = sym r ∙ k in cc

  one_err : (why w : Refusal R) → ◌≡◌ {A = Result X (Refusal R)} (Err w) (Err why) → w ≡ why
  one_err why w e = cc

  pub unread_refuses : (a : Answer F R) (why : Refusal R) → reads p.takes held ≡ Err why → (Rose (D.faults s) (D.faults s') → ⊥) → (Rose (E.faults o) (E.faults o') → ⊥)
      → MeetsTold D E p held s o a s' o' → (a ≡ refused why) ⊎ (a ≡ memory)
  unread_refuses done why r calm quiet m = absurd (none_read m.0 why r m.2)
  unread_refuses (not_accepted f) why r calm quiet m = absurd (none_read m.0 why r m.2)
  unread_refuses (unread name) why r calm quiet m = absurd (calm m.0)
  unread_refuses (unwritten name) why r calm quiet m = absurd (none_read m.0 why r m.2)
  unread_refuses unsaid why r calm quiet m = absurd (none_read m.0 why r m.2)
  unread_refuses memory why r calm quiet m = inr refl
  unread_refuses (refused w) why r calm quiet (inl k, same) = inl (ap refused (one_err why w (sym k ∙ r)))
  unread_refuses (refused w) why r calm quiet (inr k, same) = absurd (none_read k.0 why r k.1)

-- What follows for a command of its laws, by what its answer says.
module _ {S O F R : Type 0} (D : Shelf S) (E : Sink O) (e : Entry F R) (keeps : Keeps e) (s : S) (o : O) (s' : S) (o' : O) where
  was_done : (held : Files) (a : Answer F R) → a ≡ done → MeetsTold D E e.command held s o a s' o' → MeetsTold D E e.command held s o done s' o'
  was_done held a f m = subst (λ a. MeetsTold D E e.command held s o a s' o') f m

  -- what was done left what is promised
  pub has_done : (held : Files) (a : Answer F R) → a ≡ done → MeetsTold D E e.command held s o a s' o' → IsDone D E e held s o s' o'
  has_done held a f m = let k = was_done held a f m in (k.0, k.2, keeps.did D E held s o s' o' k)

  ready : (held : Files) → MeetsTold D E e.command held s o done s' o' → IsReady e held
  ready held (x, goods, read, m, fault, out) = (x, read, keeps.could x goods m fault)

  -- what was done was in order: so what is said of commands that are in order speaks of each that can be done
  pub was_ready : (held : Files) (a : Answer F R) → a ≡ done → MeetsTold D E e.command held s o a s' o' → IsReady e held
  was_ready held a f m = ready held (was_done held a f m)

  module _ (held : Files) (a : Answer F R) (calm : Rose (D.faults s) (D.faults s') → ⊥) (quiet : Rose (E.faults o) (E.faults o') → ⊥) where
    -- what is in order is done, or memory is wanted
    pub complete : IsReady e held → MeetsTold D E e.command held s o a s' o' → (a ≡ done) ⊎ (a ≡ memory)
    complete i m = stands_told D E e.command held i.0 s s' o o' a i.1 (keeps.stands i.0 i.2) calm quiet m

    -- what is refused is refused for this reason, or memory is wanted
    pub refused_for : (why : Refusal R) → IsRefused e held why → MeetsTold D E e.command held s o a s' o' → (a ≡ refused why) ⊎ (a ≡ memory)
    refused_for why (inl r) m = unread_refuses D E e.command held s s' o o' a why r calm quiet m
    refused_for why (inr f) m = refuses D E e.command held f.0 why s s' o o' a f.1 (keeps.refuses f.0 why f.2) calm quiet m

  -- what takes no file, and is in order, ends so over every shelf
  no_fault : (g : Option F) (f : F) → g ≡ None → g ≡ Some f → ⊥
  no_fault g f a b = cc

  no_value : (x : e.Inputs) (why : Refusal R) → ◌≡◌ {A = Result e.Inputs (Refusal R)} (Err why) (Ok x) → ⊥
  no_value x why h = cc

  module _ (x : e.Inputs) (none : e.command.takes ≡ ok x) (can : e.can x) where
    the_value : (y : e.Inputs) (mid : S) → Took D e.command.takes s (Ok y) mid → y ≡ x
    the_value y mid h = ok_same {F = Refusal R} y x (took_none D e.command x none s (Ok y) mid h).0

    ends_alone : (a : Answer F R) → Meets D E e.command s o a s' o' → EndsAlone D E e x s o a s' o'
    ends_alone done m =
        let k = alone_told D E e.command x none s o empty s' o' m in
        subst (λ y. e.did D E y s o s' o') (ok_same {F = Refusal R} k.0 x (sym k.2 ∙ ap (λ t. reads t empty) none)) (keeps.did D E empty s o s' o' k)
    ends_alone (not_accepted f) (y, goods, mid, h, m, d) = no_fault goods.fault f ((keeps.stands x can).whole goods (subst (λ y. e.command.makes y (Ok goods)) (the_value y mid h) m)) d.0
    ends_alone (unread name) (h, same) = fails_none D e.command x none s name s' h
    ends_alone (unwritten name) (y, goods, mid, h, m, d) = (goods, subst (λ y. e.command.makes y (Ok goods)) (the_value y mid h) m, subst (λ mid. PutUpTo D goods.outputs mid name s') (took_none D e.command x none s (Ok y) mid h).1 d.0)
    ends_alone unsaid m = tt
    ends_alone memory m = tt
    ends_alone (refused why) (inl h, same) = no_value x why (took_none D e.command x none s (Err why) s' h).0
    ends_alone (refused why) (inr (y, h, m), same) = (keeps.stands x can).unrefused why (subst (λ y. e.command.makes y (Err why)) (the_value y s' h) m)

  pub alone : (a : Answer F R) → Meets D E e.command s o a s' o' → NeedsNoFiles D E e s o a s' o'
  alone a m = λ x none can. ends_alone x none can a m
