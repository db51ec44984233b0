use Rattle.std.proofs.Common.{rules, ◌≡◌, ◌∙◌, Err, ap, refl}
use Rattle.std.specs.Prelude.{string_bytes}
use Rattle.page_memory.specs.Contents.{at}
use Rattle.page_memory.specs.Memory.{Agree}
use Rattle.file_commands.specs.inner.Calls.{goods_of}
use Rattle.file_commands.proofs.Made.{handed_on_as}
use Rattle.list_commands.specs.CrashExec.{RunsInPlace}
use Rattle.command_parts.specs.Outputs.{HasNoFile}
use Rattle.command_parts.specs.Texts.{crash_ran_text}
use Rattle.command_parts.proofs.Outputs.{no_file_as, output_as}
use Rattle.command_parts.proofs.Told.{one_memory}
use Rattle.list_commands.proofs.crash_exec.run_in_place.Goals as goal

pub returns-in_err-outputs : goal.returns-in_err-outputs
returns-in_err-outputs c =
    let a = c.args in
    let M = at a.accepted.memory in
    let N = at c.into_memory.result in
    let e : c.from_residual-in_err-outputs.result ≡ Err c.in_err-outputs.field-0.0 = search rules in
    let same : Agree N M = λ p. ap (λ m. at m p) c.into_memory.ensures ∙ c.exec-ran.ensures.memory p in
    handed_on_as (λ g. RunsInPlace M a.pages a.startup (string_bytes a.out) (goods_of g)) (HasNoFile M) (HasNoFile N) _ _ e
    (λ why h. no_file_as N M why same h) c.in_err-outputs.ensures

pub returns : goal.returns
returns c =
    let a = c.args in
    let M = at a.accepted.memory in
    let N = at c.into_memory.result in
    let ran = c.exec-ran.result in
    let same : Agree N M = λ p. ap (λ m. at m p) c.into_memory.ensures ∙ c.exec-ran.ensures.memory p in
    rw c.done.ensures (record {
      text = c.in_ok-text.ensures
          ∙ ap (λ steps. crash_ran_text (at ran.memory) a.pages steps a.startup) c.exec-ran.ensures.steps
          ∙ ap (λ L. crash_ran_text L a.pages 1 a.startup) (one_memory (at ran.memory) M c.exec-ran.ensures.memory);
      fault = refl;
      output = output_as N M _ (string_bytes a.out) same c.in_ok-outputs.ensures;
    })
