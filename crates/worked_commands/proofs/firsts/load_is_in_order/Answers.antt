-- By what is read, and by the one list.
use Rattle.std.proofs.Common.{◌≡◌, ◌∙◌, true, false, refl, sym, ap, subst, inl, inr}
use Rattle.kx_laws.proofs.Results.{ok_same}
use Rattle.kx_pages.specs.declared.image.Mode.TheVariants.{Plain}
use Rattle.segments.specs.Values.{overlay, want}
use Rattle.page_memory.specs.Contents.{at}
use Rattle.load_states.specs.States.{Load}
use Rattle.relocate_machine.specs.declared.step.Outcome.{Outcome}
use Rattle.relocate_machine.specs.Machine.{State}
use Rattle.relocate_machine.specs.Run.{run_of}
use Rattle.file_commands.specs.Taking.{Refusal}
use Rattle.kexec_words.specs.Values as words
use Rattle.kexec_main.specs.Call.{IsInOrder}
use Rattle.list_commands.specs.Exec.{CanExec}
use Rattle.list_commands.specs.Records.{load_by}
use Rattle.command_parts.specs.Outputs.{IsFileOf, IsTooHeavy}
use Rattle.command_parts.specs.declared.reason.Reason.{Reason}
use Rattle.command_parts.proofs.Outputs.{has_file}
use Rattle.worked_commands.specs.Firsts.{loaded_files}
use Rattle.worked_commands.specs.Inputs.{three_bytes, three_bytes_record}
use Rattle.worked_commands.specs.Lists.{one_move}
use Rattle.worked_commands.specs.Memories.{loaded, run_file}
use Rattle.worked_commands.specs.Names.{exec_record}
use Rattle.worked_commands.proofs.Lists.{accepted}
use Rattle.worked_commands.proofs.Memories.{has_list, loaded_source, run_is, run_pages_are}
use Rattle.worked_commands.proofs.Stepping.{end_is, whole}
use Rattle.worked_commands.proofs.FirstFiles.{load_read, memory_read}
use Rattle.worked_commands.proofs.firsts.load_is_in_order.Goals as goal

not_twice : IsInOrder (words.exec (exec_record true)) loaded_files → ⊥
not_twice (x, read, can) =
    let k = subst (λ x. CanExec x true) (ok_same {F = Refusal Reason} x _ (sym read ∙ load_read)) can in
    let e : true ≡ false = k.kept in
    cc

left : IsFileOf (at (run_of loaded 0x11002 Plain 9).0.memory) run_file
left = subst (λ (r : State × Outcome). IsFileOf (at r.0.memory) run_file) (sym whole) (subst (λ N. IsFileOf N run_file) (sym end_is) run_pages_are)

pub returns-clause-check : goal.returns-clause-check
returns-clause-check c = (load_by loaded three_bytes_record, load_read, (one_move, accepted (at loaded) has_list loaded_source))

pub returns-clause-dump : goal.returns-clause-dump
returns-clause-dump c = (load_by loaded three_bytes_record, load_read, tt)

pub returns-clause-exec : goal.returns-clause-exec
returns-clause-exec c = (
  load_by loaded three_bytes_record,
  load_read,
  record {
    items = one_move;
    accepted = accepted (at loaded) has_list loaded_source;
    kept = refl;
    light = λ c n of t h. has_file (overlay (at loaded) (want three_bytes)) run_file n run_is
        (subst (λ N. IsTooHeavy N n) (ap (λ (s : Load). overlay (at s.memory) (want s.segments)) of) h);
  },
)

pub returns-clause-trace : goal.returns-clause-trace
returns-clause-trace c = (loaded, memory_read, λ n h. has_file (at (run_of loaded 0x11002 Plain 9).0.memory) run_file n left h)

pub returns-clause-exec_twice : goal.returns-clause-exec_twice
returns-clause-exec_twice c = not_twice

pub returns-clause-refused_twice : goal.returns-clause-refused_twice
returns-clause-refused_twice c = inr (load_by loaded three_bytes_record, load_read, inl (refl, refl))
