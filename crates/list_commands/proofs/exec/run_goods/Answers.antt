use Rattle.std.proofs.Common.{rules, ◌≡◌, ◌∙◌, Err, ap, refl, subst}
use Rattle.std.specs.Prelude.{string_bytes}
use Rattle.page_memory.specs.Contents.{at}
use Rattle.file_commands.specs.inner.Calls.{goods_of}
use Rattle.file_commands.proofs.Made.{handed_on_as}
use Rattle.list_commands.specs.Exec.{RefusesRun, RunsList, runs_of}
use Rattle.command_parts.specs.Outputs.{HasNoFile}
use Rattle.command_parts.specs.Runs.{after_runs, checked_with}
use Rattle.command_parts.specs.inner.Ran.{RunsLoaded, runs_in}
use Rattle.command_parts.proofs.Outputs.{no_file_as, output_as}
use Rattle.command_parts.proofs.Told.{text_of}
use Rattle.list_commands.proofs.Executes.{runs_as_asked}
use Rattle.list_commands.proofs.exec.run_goods.Goals as goal

pub returns-in_err-outputs : goal.returns-in_err-outputs
returns-in_err-outputs c = λ s a.
    let e : c.from_residual-in_err-outputs.result ≡ Err c.in_err-outputs.field-0.0 = search rules in
    let runs = runs_of c.args.twice s.image.mode in
    let asked = ap (runs_in s.image.mode) c.runs_by.ensures ∙ runs_as_asked c.args.twice s.image.mode in
    let r = subst (λ runs. RunsLoaded runs s c.run_accepted-ran.result) asked (c.run_accepted-ran.ensures s a) in
    let k = checked_with s r.0 r.1 r.2 in
    let N = at c.run_accepted-ran.result.memory in
    handed_on_as (λ g. RunsList runs s c.args.startup (string_bytes c.args.out) (goods_of g)) (RefusesRun runs s) (HasNoFile N) _ _ e
    (λ why h. (r.0, r.1, r.2, r.3, no_file_as N (after_runs runs k) why r.4.memory h)) c.in_err-outputs.ensures

pub returns : goal.returns
returns c = λ s a.
    let runs = runs_of c.args.twice s.image.mode in
    let asked = ap (runs_in s.image.mode) c.runs_by.ensures ∙ runs_as_asked c.args.twice s.image.mode in
    let r = subst (λ runs. RunsLoaded runs s c.run_accepted-ran.result) asked (c.run_accepted-ran.ensures s a) in
    let k = checked_with s r.0 r.1 r.2 in
    let ran = c.run_accepted-ran.result in
    rw c.done.ensures (r.0, r.1, r.2, r.3, c.in_ok-text.ensures ∙ text_of runs k ran c.args.startup r.4, refl, output_as (at ran.memory) (after_runs runs k) _ (string_bytes c.args.out) r.4.memory c.in_ok-outputs.ensures)
