use Rattle.std.proofs.Common.{◌≡◌, Bool, true, false, Some, map, string_bytes}
use Rattle.std.specs.Prelude.{IfSome}
use Rattle.kx_edge.specs.Edge.{Files, read_of}
use Rattle.kx_edge.specs.inner.Rooms.{OutsideRoom, told_where}
use Rattle.kx_edge.specs.inner.CalmShelf.{CalmState, calm_after_put, calm_files, calm_outside}
use Rattle.kx_edge.specs.inner.MemorySink.{SayFails, SinkState, after_said, after_unsaid}
use Rattle.kx_edge.specs.declared.edge.Shelf.{Ghosts as Shelf}
use Rattle.kx_edge.specs.declared.edge.Sink.{Ghosts as Sink}
use Rattle.file_commands.proofs.Saying.{unread_never}
use Rattle.kexec_words.specs.Meaning.{command_of}
use Rattle.command_parts.specs.declared.reason.Reason.TheVariants.{Usage}
use Rattle.kexec_main.specs.Commands.{entry_of}
use Rattle.kexec_main.proofs.calm.kexec_in_memory.Goals as goal

-- what holds of the files that a shelf tells, where it tells them
of_told : (is_told : Bool) (held : Files) (P : Files → Type 0) → is_told ≡ true → IfSome (told_where is_told held) P → P held
of_told true held P e h = h
of_told false held P e h = absurd cc

-- what contracts see of the shelf and the sink in memory
abbrev calm : Shelf CalmState
calm = record {
  files = calm_files;
  faults = λ s. s.faults;
  gives = λ s name most bytes t. (bytes ≡ read_of s.held name most) × (t ≡ s);
  fails = λ s name t. ⊥;
  wants = λ s name t. t ≡ s;
  puts = λ s name bytes t. (OutsideRoom s.rooms name bytes → ⊥) × (t ≡ calm_after_put s name bytes);
  cuts = λ s name bytes t. OutsideRoom s.rooms name bytes × (t ≡ calm_outside s);
}

abbrev text : Sink SinkState
text = record {
  said = λ s. Some s.said;
  faults = λ s. s.faults;
  says = λ s bytes t. (SayFails s bytes → ⊥) × (t ≡ after_said s bytes);
  breaks = λ s bytes t. SayFails s bytes × (t ≡ after_unsaid s);
}

pub returns-clause-told : goal.returns-clause-told
returns-clause-told c = λ t. of_told c.args.shelf.now.is_told c.args.shelf.now.held _ t c.kexec.ensures.told

pub returns-clause-done : goal.returns-clause-done
returns-clause-done c = λ w e d t. of_told c.args.shelf.now.is_told c.args.shelf.now.held _ t (c.kexec.ensures.done w e d)

pub returns-clause-laid : goal.returns-clause-laid
returns-clause-laid c = λ w e d t. of_told c.args.shelf.now.is_told c.args.shelf.now.held _ t (c.kexec.ensures.laid w e d)

pub returns-clause-complete : goal.returns-clause-complete
returns-clause-complete c = λ w e t i put took.
    of_told c.args.shelf.now.is_told c.args.shelf.now.held _ t (c.kexec.ensures.complete w e) i put took

pub returns-clause-in_order : goal.returns-clause-in_order
returns-clause-in_order c = λ w e d t. of_told c.args.shelf.now.is_told c.args.shelf.now.held _ t (c.kexec.ensures.in_order w e d)

pub returns-clause-refused : goal.returns-clause-refused
returns-clause-refused c = λ w e t why r put took.
    of_told c.args.shelf.now.is_told c.args.shelf.now.held _ t (c.kexec.ensures.refused w e) why r put took

pub returns-clause-read : goal.returns-clause-read
returns-clause-read c = λ n e. unread_never entry_of Usage calm text _ _ _ _ _ (command_of (map string_bytes c.args.words.now)) n (λ s name t f. f) e c.kexec.ensures.meets
