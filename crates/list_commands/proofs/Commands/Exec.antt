-- What is proved of `exec`.
use Rattle.std.proofs.Common.{◌≡◌, ◌∙◌, ℕ, Bool, List, [], ◌∷◌, true, false, Option, Some, None, Ok, Err, refl, sym, ap, subst, inl, inr, Result}
use Rattle.kx_edge.specs.Edge.{Files}
use Rattle.kx_edge.specs.declared.edge.Shelf.{Ghosts as Shelf}
use Rattle.kx_edge.specs.declared.edge.Sink.{Ghosts as Sink}
use Rattle.page_memory.specs.Contents.{at}
use Rattle.list_checker.specs.declared.fault.ListFault.{ListFault}
use Rattle.load_states.specs.States.{Load}
use Rattle.file_commands.specs.Taking.{Refusal, by, too_long}
use Rattle.file_commands.specs.Answers.{MeetsTold, done}
use Rattle.file_commands.specs.inner.Order.{Stands}
use Rattle.list_commands.specs.declared.records.TakenLoad.{TakenLoad}
use Rattle.list_commands.specs.declared.records.TakenLoad.TheVariants.{Normal, Crash}
use Rattle.list_commands.specs.declared.records.CrashFiles.{CrashFiles}
use Rattle.list_commands.specs.declared.records.LoadFiles.{LoadFiles}
use Rattle.command_parts.specs.declared.reason.Reason.{Reason}
use Rattle.command_parts.specs.Outputs.{Made, IsTooHeavy, HasNoFile, IsFileOf}
use Rattle.load_states.specs.Ready.{Told}
use Rattle.kexec_words.specs.Values.{ExecValue}
use Rattle.load_states.proofs.Ready.{list_ends}
use Rattle.load_states.specs.inner.Runs.{IsSameLoad}
use Rattle.list_commands.specs.Check.{IsAcceptedLoad, IsInPlace}
use Rattle.list_commands.specs.CrashExec.{executes_place_as}
use Rattle.list_commands.specs.Exec.{CanExec, CanRun, CanRunInPlace, HasExecutedLoad, RefusesFiles, exec_entry, executes, executes_as, is_not_kept, load_of, runs_asked}
use Rattle.command_parts.specs.Runs.{after_runs, checked_with}
use Rattle.command_parts.proofs.Ending.{ends_again, machine_leaves}
use Rattle.list_commands.proofs.Executes.{runs_fit}
use Rattle.command_parts.proofs.Leaving.{leaves_by}
use Rattle.command_parts.proofs.Outputs.{file_none, has_file, heavy, one_weight}
use Rattle.command_parts.proofs.Alike.{same_left}
use Rattle.list_commands.proofs.Reread.{exec_bare}
use Rattle.file_commands.proofs.Keeping.{Keeps, put_as, said_as}

module _ {S O : Type 0} (D : Shelf S) (E : Sink O) (held : Files) (s : S) (o : O) (s' : S) (o' : O) where
  executed : (e : ExecValue) → (m : MeetsTold D E (exec_entry e).command held s o done s' o') → HasExecutedLoad D E s o s' o' e m.0
  executed e (Normal x, goods, read, m, fault, out) =
      let n = subst (λ f. executes_as x e.twice e.out goods f) fault m.1 in
      let r = n in
      let c = checked_with (load_of x) r.0 r.1 r.2 in
      let mode = x.image.mode in
      let bare = exec_bare e held x read in
      record {
        checked = c;
        of_files = λ i. load_of x;
        accepted = r.3;
        ends = list_ends c.load c.words c.links c.pairs bare r.3;
        ends_again = ends_again (runs_asked e.twice x) c mode (λ i. mode) (runs_fit e.twice mode) bare r.3;
        runs = machine_leaves (runs_asked e.twice x) c mode (λ i. mode) (runs_fit e.twice mode) bare r.3;
        leaves = leaves_by (runs_asked e.twice x) c mode (λ i. mode) (runs_fit e.twice mode) r.3;
        output = r.6.0;
        is_memory = r.6.2;
        put = put_as D E s o s' o' goods.outputs ((e.out, r.6.0) ∷ []) r.6.1 out.put;
        said = said_as D E s o s' o' goods.text _ r.4 out.said;
      }
  executed e (Crash x, goods, read, m, fault, out) =
      let n = subst (λ f. executes_place_as x e.out goods f) fault m.1 in
      let run = n.1 in
      record {
        once = m.0;
        accepted = n.0;
        output = run.output.0;
        is_memory = run.output.2;
        put = put_as D E s o s' o' goods.outputs ((e.out, run.output.0) ∷ []) run.output.1 out.put;
        said = said_as D E s o s' o' goods.text _ run.text out.said;
      }

not_both : (b : Bool) → b ≡ false → b ≡ true → ⊥
not_both b f t = let k = sym f ∙ t in cc

exec_not : (load : TakenLoad) (twice : Bool) (out : List ℕ) (a : Refusal Reason) → CanExec load twice → executes twice out load (Err a) → ⊥
exec_not (Normal x) twice out (by why) can (inl k) = not_both (is_not_kept twice x) can.kept k.1
exec_not (Normal x) twice out (by why) can (inr (k, r)) =
    let c = checked_with (load_of x) r.0 r.1 r.2 in
    heavy (after_runs (runs_asked twice x) c) why (λ n h. can.light c n refl r.3 h) r.4
exec_not (Normal x) twice out (too_long name limit) can m = m
exec_not (Crash x) twice out (by why) can (inl k) = not_both twice can.once k.1
exec_not (Crash x) twice out (by why) can (inr (once, accepted, f)) = heavy (at x.memory) why can.light f
exec_not (Crash x) twice out (too_long name limit) can m = m

run_whole : (x : LoadFiles) (twice : Bool) (out : List ℕ) (goods : Made) (f : Option ListFault) → IsAcceptedLoad (Normal x) → executes_as x twice out goods f → goods.fault ≡ f → goods.fault ≡ None
run_whole x twice out goods None accepted m e = e
run_whole x twice out goods (Some f) accepted m e = absurd (m.0.1 accepted.0 accepted.1)

crash_whole : (x : CrashFiles) (out : List ℕ) (goods : Made) (f : Option ListFault) → IsAcceptedLoad (Crash x) → executes_place_as x out goods f → goods.fault ≡ f → goods.fault ≡ None
crash_whole x out goods None accepted m e = e
crash_whole x out goods (Some f) accepted m e = absurd (m.0.no_place accepted)

exec_whole : (load : TakenLoad) (twice : Bool) (out : List ℕ) (goods : Made) → CanExec load twice → executes twice out load (Ok goods) → goods.fault ≡ None
exec_whole (Normal x) twice out goods can m = run_whole x twice out goods goods.fault (can.items, can.accepted) m.1 refl
exec_whole (Crash x) twice out goods can m = crash_whole x out goods goods.fault can.accepted m.1 refl

exec_stands : (e : ExecValue) (x : TakenLoad) → CanExec x e.twice → Stands (exec_entry e).command x
exec_stands e x can = record { unrefused = λ a m. exec_not x e.twice e.out a can m; whole = λ goods m. exec_whole x e.twice e.out goods can m }

same_files : (x : LoadFiles) (s : Load) → s ≡ load_of x → IsSameLoad (load_of x) s
same_files x s e = record { reads = λ p. ap (λ (s : Load). at s.memory p) e; image = ap (λ (s : Load). s.image) e; segments = ap (λ (s : Load). s.segments) e }

can_run : (x : LoadFiles) (twice : Bool) (out : List ℕ) (goods : Made) → executes twice out (Normal x) (Ok goods) → executes_as x twice out goods None → CanRun x twice
can_run x twice out goods m (words, links, qs, told, text, fault, (bytes, outputs, file)) =
    let c = checked_with (load_of x) words links qs in
    let runs = runs_asked twice x in
    record {
      items = told.items;
      accepted = told.accepted;
      kept = m.0;
      light = λ d n same t h. has_file (after_runs runs c) bytes n file (subst (λ N. IsTooHeavy N n) (same_left runs c d (same_files x d.load same) told t) h);
    }

can_run_in_place : (x : CrashFiles) (twice : Bool) (out : List ℕ) (goods : Made) → executes twice out (Crash x) (Ok goods) → executes_place_as x out goods None → CanRunInPlace x twice
can_run_in_place x twice out goods m r =
    let f = r.1.output in
    record { accepted = r.0; once = m.0; light = λ n h. has_file (at x.memory) f.0 n f.2 h }

can_exec : (load : TakenLoad) (twice : Bool) (out : List ℕ) (goods : Made) → executes twice out load (Ok goods) → goods.fault ≡ None → CanExec load twice
can_exec (Normal x) twice out goods m fault = can_run x twice out goods m (subst (λ f. executes_as x twice out goods f) fault m.1)
can_exec (Crash x) twice out goods m fault = can_run_in_place x twice out goods m (subst (λ f. executes_place_as x out goods f) fault m.1)

-- a list that was run, and whose memory has no file, was not run otherwise
run_memory : (x : LoadFiles) (twice : Bool) (why : Reason) (f : RefusesFiles x twice why) (words links : ℕ) (qs : List (ℕ × ℕ)) → Told (load_of x) words links qs
    → after_runs (runs_asked twice x) (checked_with (load_of x) words links qs) ≡ after_runs (runs_asked twice x) (checked_with (load_of x) f.0 f.1 f.2)
run_memory x twice why f words links qs told =
    same_left (runs_asked twice x) (checked_with (load_of x) f.0 f.1 f.2) (checked_with (load_of x) words links qs) (same_files x (load_of x) refl) f.3 told

run_none : (x : LoadFiles) (twice : Bool) (out : List ℕ) (goods : Made) (why : Reason) (fault : Option ListFault) → RefusesFiles x twice why → executes_as x twice out goods fault → ⊥
run_none x twice out goods why None f (words, links, qs, told, text, fault, (bytes, outputs, file)) =
    file_none (after_runs (runs_asked twice x) (checked_with (load_of x) f.0 f.1 f.2)) bytes why (subst (λ N. IsFileOf N bytes) (run_memory x twice why f words links qs told) file) f.4
run_none x twice out goods why (Some fault) f m = m.0.1 f.3.items f.3.accepted

place_none : (x : CrashFiles) (out : List ℕ) (goods : Made) (why : Reason) (fault : Option ListFault) → IsInPlace x → HasNoFile (at x.memory) why → executes_place_as x out goods fault → ⊥
place_none x out goods why None accepted f r = let file = r.1.output in file_none (at x.memory) file.0 why file.2 f
place_none x out goods why (Some fault) accepted f m = m.0.no_place accepted

exec_refused : (load : TakenLoad) (twice : Bool) (out : List ℕ) (a : Refusal Reason) → executes twice out load (Err a) → (r : Result Made (Refusal Reason)) → executes twice out load r → r ≡ Err a
exec_refused (Normal x) twice out (by why) (inl h) (Ok goods) m = absurd (not_both (is_not_kept twice x) m.0 h.1)
exec_refused (Normal x) twice out (by why) (inl h) (Err (by w)) (inl k) = ap (λ w. Err (by w)) (k.0 ∙ sym h.0)
exec_refused (Normal x) twice out (by why) (inl h) (Err (by w)) (inr k) = absurd (not_both (is_not_kept twice x) k.0 h.1)
exec_refused (Normal x) twice out (by why) (inr h) (Ok goods) m = absurd (run_none x twice out goods why goods.fault h.1 m.1)
exec_refused (Normal x) twice out (by why) (inr h) (Err (by w)) (inl k) = absurd (not_both (is_not_kept twice x) h.0 k.1)
exec_refused (Normal x) twice out (by why) (inr (once, f)) (Err (by w)) (inr (also, g)) =
    ap (λ w. Err (by w)) (one_weight (after_runs (runs_asked twice x) (checked_with (load_of x) f.0 f.1 f.2)) why w f.4 (subst (λ N. HasNoFile N w) (run_memory x twice why f g.0 g.1 g.2 g.3) g.4))
exec_refused (Normal x) twice out (by why) h (Err (too_long name limit)) m = absurd m
exec_refused (Normal x) twice out (too_long name limit) h r m = absurd h
exec_refused (Crash x) twice out (by why) (inl h) (Ok goods) m = absurd (not_both twice m.0 h.1)
exec_refused (Crash x) twice out (by why) (inl h) (Err (by w)) (inl k) = ap (λ w. Err (by w)) (k.0 ∙ sym h.0)
exec_refused (Crash x) twice out (by why) (inl h) (Err (by w)) (inr k) = absurd (not_both twice k.0 h.1)
exec_refused (Crash x) twice out (by why) (inr h) (Ok goods) m = absurd (place_none x out goods why goods.fault h.1 h.2 m.1)
exec_refused (Crash x) twice out (by why) (inr h) (Err (by w)) (inl k) = absurd (not_both twice h.0 k.1)
exec_refused (Crash x) twice out (by why) (inr h) (Err (by w)) (inr k) = ap (λ w. Err (by w)) (one_weight (at x.memory) why w h.2 k.2)
exec_refused (Crash x) twice out (by why) h (Err (too_long name limit)) m = absurd m
exec_refused (Crash x) twice out (too_long name limit) h r m = absurd h

pub exec_keeps : (e : ExecValue) → Keeps (exec_entry e)
exec_keeps e = record {
  did = λ D E held s o s' o'. executed D E held s o s' o' e;
  stands = exec_stands e;
  could = λ x goods m fault. can_exec x e.twice e.out goods m fault;
  refuses = λ x. exec_refused x e.twice e.out;
}
