use Rattle.std.proofs.Common.{rules, ◌≡◌, ◌∙◌, Ok, Err, ap, refl}
use Rattle.std.specs.Prelude.{string_bytes}
use Rattle.page_memory.specs.Contents.{at}
use Rattle.relocate_machine.specs.Run.{run_of}
use Rattle.file_commands.specs.Taking.{by}
use Rattle.file_commands.specs.inner.Calls.{goods_of}
use Rattle.file_commands.proofs.Made.{handed_on_as}
use Rattle.command_parts.specs.Outputs.{HasNoFile}
use Rattle.list_commands.specs.Trace.{outcome_line, traces}
use Rattle.command_parts.proofs.Outputs.{no_file_as, output_as}
use Rattle.list_commands.proofs.trace.make_trace.Goals as goal

pub returns-in_err-outputs : goal.returns-in_err-outputs
returns-in_err-outputs c =
    let t = c.args.trace in
    let made = traces t.head t.mode t.limit (string_bytes t.out) c.args.memory in
    let e : c.from_residual-in_err-outputs.result ≡ Err c.in_err-outputs.field-0.0 = search rules in
    let run = run_of c.args.memory t.head t.mode t.limit in
    let left = c.in_ok-outcome.ensures.memory in
    let N = at c.run.new.memory in
    handed_on_as (λ g. made (Ok (goods_of g))) (λ why. made (Err (by why))) (HasNoFile N) _ _ e
    (λ why h. no_file_as N (at run.0.memory) why (λ p. ap (λ m. at m p) left) h) c.in_err-outputs.ensures

pub returns : goal.returns
returns c =
    let t = c.args.trace in
    let run = run_of c.args.memory t.head t.mode t.limit in
    let left = c.in_ok-outcome.ensures.memory in
    rw c.done.ensures (c.in_ok-text.ensures ∙ ap outcome_line c.in_ok-outcome.ensures.outcome, refl, output_as (at c.run.new.memory) (at run.0.memory) _ (string_bytes t.out) (λ p. ap (λ m. at m p) left) c.in_ok-outputs.ensures)
