-- What holds of the files that a log tells.
use Rattle.std.proofs.Common.{◌≡◌, ◌∙◌, ℕ, List, [], ◌∷◌, Some, Result, Ok, ap, refl, sym, subst}
use Rattle.std.specs.FinMap.{insert}
use Rattle.kx_edge.specs.Edge.{Files}
use Rattle.file_commands.specs.Taking.{File, Refusal, Take, file, ok, reads, refuse}
use Rattle.file_commands.specs.Answers.{Command, MeetsTold, done, with_outputs}
use Rattle.call_log.specs.Calls.{Call, said}
use Rattle.call_log.specs.Replays.{Recorded, Replays, puts_of}
use Rattle.call_log.specs.Told.{ReadAs, of_bytes, of_files, with_puts}

-- what is replayed from takes that read these files is read of them
pub replays_read : {R X : Type 0} (t : Take R X) (held : Files) (calls rest : List Call) (r : Result X (Refusal R)) → ReadAs held calls → Replays t calls r rest → reads t held ≡ r
unfolding Replays
replays_read (ok x) held calls rest r a h = sym h.0
replays_read (refuse why) held calls rest r a h = sym h.0
replays_read (file name most next) held calls rest r a (bytes, more, e, within, h) =
    let b = subst (λ cs. ReadAs held cs) e a in
    subst (λ bs. reads (next bs) held ≡ r) b.0 (replays_read (next bytes) held more rest r b.1 h)

-- takes change no file
puts_after : {R X : Type 0} (t : Take R X) (held : Files) (calls rest : List Call) (r : Result X (Refusal R)) → Replays t calls r rest → with_puts held calls ≡ with_puts held rest
unfolding Replays
puts_after (ok x) held calls rest r h = ap (with_puts held) h.1
puts_after (refuse why) held calls rest r h = ap (with_puts held) h.1
puts_after (file name most next) held calls rest r (bytes, more, e, within, h) = ap (with_puts held) e ∙ puts_after (next bytes) held more rest r h

puts_are : (os : List File) (held : Files) → with_puts held (puts_of os) ≡ with_outputs held os
puts_are [] held = refl
puts_are (o ∷ os) held = puts_are os (insert held o.0 o.1)

module _ {X F R : Type 0} (c : Command X F R) (held : Files) (calls text : List Call) (agree : ReadAs held calls) where
  -- so it meets what is told of these files
  pub told_done : Recorded c done calls text → (line : List ℕ) × (text ≡ said line ∷ []) × MeetsTold of_files of_bytes c held held [] done (with_puts held calls) line
  told_done (x, goods, h, m, fault, e) = (
    goods.text,
    e,
    (
      x,
      goods,
      replays_read c.takes held calls (puts_of goods.outputs) (Ok x) agree h,
      m,
      fault,
      record {
        shelf = refl;
        sink = refl;
        put = ap Some (puts_after c.takes held calls (puts_of goods.outputs) (Ok x) h ∙ puts_are goods.outputs held);
        said = refl;
      },
    ),
  )
