-- Step after step.
use Rattle.std.proofs.Common.{◌≡◌, ◌∙◌, ℕ, List, [], ◌∷◌, Ok, refl, sym, ap, subst}
use Rattle.std.specs.Prelude.{codes}
use Rattle.std.specs.Fmt.{digits}
use Rattle.kx_pages.specs.declared.image.Mode.TheVariants.{Plain}
use Rattle.page_memory.specs.Contents.{Contents, at}
use Rattle.relocate_machine.specs.declared.step.Outcome.{Outcome}
use Rattle.relocate_machine.specs.declared.step.Outcome.TheVariants as outcomes
use Rattle.relocate_machine.specs.Machine.{State}
use Rattle.relocate_machine.specs.Run.{run_of}
use Rattle.command_parts.specs.Outputs.{IsFileOf, Made}
use Rattle.list_commands.specs.Trace.{outcome_line}
use Rattle.command_parts.proofs.Outputs.{has_file}
use Rattle.worked_commands.specs.Memories.{loaded, loaded_file, run_file}
use Rattle.worked_commands.specs.Singles.{one_output, trace_makes}
use Rattle.worked_commands.proofs.Memories.{loaded_is, one_file, run_pages_are}
use Rattle.worked_commands.proofs.Stepping.{at_end, end_is, just_whole, leaves, standing, two_steps, whole}
use Rattle.worked_commands.proofs.singles.list_is_traced.Goals as goal

done_line : outcome_line (outcomes.Done 4) ≡ codes "done 4\n"
unfolding digits
done_line = refl

running_line : outcome_line (outcomes.Running 2) ≡ codes "running 2\n"
unfolding digits
running_line = refl

off_line : outcome_line (outcomes.Off 0x4000_0000_0000 1) ≡ codes "off 400000000000 after 1\n"
unfolding digits
off_line = refl

-- the memory that a run leaves has this file
left : (m : Contents) (head limit : ℕ) (t : State) (how : Outcome) (bytes : List ℕ) → run_of m head Plain limit ≡ (t, how) → IsFileOf (at t.memory) bytes → IsFileOf (at (run_of m head Plain limit).0.memory) bytes
left m head limit t how bytes e file = subst (λ (r : State × Outcome). IsFileOf (at r.0.memory) bytes) (sym e) file

made : (m : Contents) (head limit : ℕ) (t : State) (how : Outcome) (bytes line : List ℕ) → run_of m head Plain limit ≡ (t, how) → IsFileOf (at t.memory) bytes → outcome_line how ≡ line → trace_makes head limit m (Ok (one_output bytes line))
made m head limit t how bytes line e file said = (sym said ∙ ap (λ (r : State × Outcome). outcome_line r.1) (sym e), refl, (bytes, refl, left m head limit t how bytes e file))

at_run : IsFileOf (at at_end.memory) run_file
at_run = subst (λ N. IsFileOf N run_file) (sym end_is) run_pages_are

alone : (goods : Made) → trace_makes 0x11002 9 loaded (Ok goods) → goods ≡ one_output run_file (codes "done 4\n")
alone goods (text, fault, (bytes, outputs, file)) =
    let said : goods.text ≡ codes "done 4\n" = text ∙ ap (λ (r : State × Outcome). outcome_line r.1) whole ∙ done_line in
    let same : bytes ≡ run_file = one_file (at (run_of loaded 0x11002 Plain 9).0.memory) bytes run_file file (left loaded 0x11002 9 at_end (outcomes.Done 4) run_file whole at_run) in
    let put : goods.outputs ≡ (codes "o", run_file) ∷ [] = outputs ∙ ap (λ bytes. (codes "o", bytes) ∷ []) same in
    λ i. record { outputs = put i; text = said i; fault = fault i }

pub returns-clause-done : goal.returns-clause-done
returns-clause-done c = made loaded 0x11002 9 at_end (outcomes.Done 4) run_file _ whole at_run done_line

pub returns-clause-just_done : goal.returns-clause-just_done
returns-clause-just_done c = made loaded 0x11002 4 at_end (outcomes.Done 4) run_file _ just_whole at_run done_line

pub returns-clause-running : goal.returns-clause-running
returns-clause-running c = made loaded 0x11002 2 (standing loaded 0x11008 0x2000) (outcomes.Running 2) loaded_file _ two_steps loaded_is running_line

pub returns-clause-off : goal.returns-clause-off
returns-clause-off c = λ m bytes file. made m 0x4000_0000_0002 9 (standing m 0x4000_0000_0000 0) (outcomes.Off 0x4000_0000_0000 1) bytes _ (leaves m) file off_line

pub returns-clause-nothing_else : goal.returns-clause-nothing_else
returns-clause-nothing_else c = alone

pub returns-clause-not_refused : goal.returns-clause-not_refused
returns-clause-not_refused c = λ h. h

pub returns-clause-can : goal.returns-clause-can
returns-clause-can c = λ n h. has_file (at (run_of loaded 0x11002 Plain 9).0.memory) run_file n (left loaded 0x11002 9 at_end (outcomes.Done 4) run_file whole at_run) h
