-- What a log says of refusals, over files with which its takes agree.
use Rattle.std.proofs.Common.{◌≡◌, ◌∙◌, List, [], Option, Some, None, Result, Ok, Err, sym, subst, inl, inr}
use Rattle.kx_laws.proofs.Results.{ok_same}
use Rattle.kx_edge.specs.Edge.{Files}
use Rattle.file_commands.specs.Taking.{Refusal, reads}
use Rattle.file_commands.specs.Answers.{Answer, done, memory, not_accepted, refused, unread, unsaid, unwritten}
use Rattle.file_commands.specs.Entry.{Entry, IsReady, IsRefused}
use Rattle.file_commands.specs.inner.Order.{Stands}
use Rattle.file_commands.proofs.Keeping.{Keeps}
use Rattle.call_log.specs.Calls.{Call}
use Rattle.call_log.specs.Replays.{Recorded, puts_of}
use Rattle.call_log.specs.Told.{IsUnrefused, ReadAs}
use Rattle.call_log.proofs.Telling.{replays_read}

module _ {F R : Type 0} (e : Entry F R) (laws : Keeps e) (held : Files) (calls text : List Call) (agree : ReadAs held calls) where
  no_value : (x : e.Inputs) (why : Refusal R) → ◌≡◌ {A = Result e.Inputs (Refusal R)} (Err why) (Ok x) → ⊥
  no_value x why h = cc

  no_fault : (g : Option F) (f : F) → g ≡ None → g ≡ Some f → ⊥
  no_fault g f a b = cc

  stands_as : (x y : e.Inputs) → reads e.command.takes held ≡ Ok x → reads e.command.takes held ≡ Ok y → e.can x → Stands e.command y
  stands_as x y a b can = subst (λ z. Stands e.command z) (ok_same {F = Refusal R} x y (sym a ∙ b)) (laws.stands x can)

  pub in_order : (a : Answer F R) → Recorded e.command a calls text → a ≡ done → IsReady e held
  in_order done (x, goods, h, m, fault, is) was = (x, replays_read e.command.takes held calls (puts_of goods.outputs) (Ok x) agree h, laws.could x goods m fault)
  in_order (not_accepted f) h was = absurd cc
  in_order (unread n) h was = absurd cc
  in_order (unwritten n) h was = absurd cc
  in_order unsaid h was = absurd cc
  in_order memory h was = absurd cc
  in_order (refused why) h was = absurd cc

  pub unrefused : (a : Answer F R) → Recorded e.command a calls text → IsReady e held → IsUnrefused a
  unrefused done h i = tt
  unrefused (not_accepted f) (x, goods, h, m, fault, is) i =
      no_fault goods.fault f ((stands_as i.0 x i.1 (replays_read e.command.takes held calls (puts_of goods.outputs) (Ok x) agree h) i.2).whole goods m) fault
  unrefused (unread n) h i = tt
  unrefused (unwritten n) h i = tt
  unrefused unsaid h i = tt
  unrefused memory h i = tt
  unrefused (refused why) (inl h, is) i = no_value i.0 why (sym (replays_read e.command.takes held calls [] (Err why) agree h) ∙ i.1)
  unrefused (refused why) (inr (x, h, m), is) i = (stands_as i.0 x i.1 (replays_read e.command.takes held calls [] (Ok x) agree h) i.2).unrefused why m

  pub refused_by : (why : Refusal R) → Recorded e.command (refused why) calls text → IsRefused e held why
  refused_by why (inl h, is) = inl (replays_read e.command.takes held calls [] (Err why) agree h)
  refused_by why (inr (x, h, m), is) = inr (x, replays_read e.command.takes held calls [] (Ok x) agree h, m)
