-- What is proved of `trace`.
use Rattle.std.proofs.Common.{◌≡◌, [], ◌∷◌, Result, Ok, Err, ap}
use Rattle.kx_edge.specs.Edge.{Files}
use Rattle.kx_edge.specs.declared.edge.Shelf.{Ghosts as Shelf}
use Rattle.kx_edge.specs.declared.edge.Sink.{Ghosts as Sink}
use Rattle.file_commands.specs.Taking.{Refusal, by, too_long}
use Rattle.file_commands.specs.Answers.{MeetsTold, done}
use Rattle.command_parts.specs.declared.reason.Reason.{Reason}
use Rattle.kexec_words.specs.Values.{TraceValue}
use Rattle.command_parts.specs.Outputs.{Made}
use Rattle.list_commands.specs.Trace.{CanTrace, HasTraced, run_asked, trace_entry}
use Rattle.command_parts.proofs.Outputs.{file_none, has_file, heavy, one_weight}
use Rattle.file_commands.proofs.Keeping.{Keeps, put_as, said_as}
use Rattle.kx_pages.specs.Bytes.{Mem}
use Rattle.page_memory.specs.Contents.{Contents, at}

module _ {S O : Type 0} (D : Shelf S) (E : Sink O) (held : Files) (s : S) (o : O) (s' : S) (o' : O) where
  traced : (t : TraceValue) → (m : MeetsTold D E (trace_entry t).command held s o done s' o') → HasTraced D E s o s' o' t m.0
  traced t (x, goods, read, m, fault, out) =
      record { output = m.2.0; is_memory = m.2.2; put = put_as D E s o s' o' goods.outputs ((t.out, m.2.0) ∷ []) m.2.1 out.put; said = said_as D E s o s' o' goods.text _ m.0 out.said }

module _ (t : TraceValue) (x : Contents) where
  abbrev N : Mem
  N = at (run_asked t x).0.memory

  abbrev made : Result Made (Refusal Reason) → Type 0
  made = (trace_entry t).command.makes x

  trace_not : (a : Refusal Reason) → CanTrace t x → made (Err a) → ⊥
  trace_not (by why) light m = heavy N why light m
  trace_not (too_long name limit) light m = m

  trace_refused : (a : Refusal Reason) → made (Err a) → (r : Result Made (Refusal Reason)) → made r → r ≡ Err a
  trace_refused (by why) f (Ok goods) m = absurd (file_none N m.2.0 why m.2.2 f)
  trace_refused (by why) f (Err (by w)) m = ap (λ w. Err (by w)) (one_weight N why w f m)
  trace_refused (by why) f (Err (too_long name limit)) m = absurd m
  trace_refused (too_long name limit) f r m = absurd f

pub trace_keeps : (t : TraceValue) → Keeps (trace_entry t)
trace_keeps t = record {
  did = λ D E held s o s' o'. traced D E held s o s' o' t;
  stands = λ x can. record { unrefused = λ a m. trace_not t x a can m; whole = λ goods m. m.1 };
  could = λ x goods m fault. λ n h. has_file (at (run_asked t x).0.memory) m.2.0 n m.2.2 h;
  refuses = λ x a f. trace_refused t x a f;
}
