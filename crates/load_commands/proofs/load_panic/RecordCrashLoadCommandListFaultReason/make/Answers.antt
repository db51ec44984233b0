use Rattle.std.proofs.Common.{rules, string_bytes, ◌≡◌, ◌∙◌, ◌++◌, ◌∷◌, [], Err, List, Some, ap, inl, inr, map, refl, subst}
use Rattle.std.proofs.lemmas.List.{map-append}
use Rattle.page_memory.specs.Contents.{at}
use Rattle.load_record.specs.File.{record_file}
use Rattle.file_commands.specs.Taking.{File}
use Rattle.file_commands.specs.inner.Calls.{file_of}
use Rattle.file_commands.proofs.Made.{handed_on_as}
use Rattle.load_commands.specs.inner.Views.{crash_inputs_of}
use Rattle.command_parts.specs.Outputs.{IsReadBack, HasNoFile}
use Rattle.load_commands.specs.Loading.{HasNoPlan}
use Rattle.command_parts.proofs.Outputs.{file_as, no_file_as}
use Rattle.load_commands.proofs.Startups.{crash_recorded, panic_said}
use Rattle.load_commands.proofs.load_panic.RecordCrashLoadCommandListFaultReason.make.Goals as goal

pub returns-in_err-kernel : goal.returns-in_err-kernel
returns-in_err-kernel c =
    let i = crash_inputs_of c.args.load in
    let e : c.from_residual.result ≡ Err c.in_err-kernel.field-0.0 = search rules in
    handed_on_as _ _ (HasNoPlan i.request (Some i.map)) _ _ e (λ why r. inl r) c.in_err-kernel.ensures

pub returns-in_err-outputs : goal.returns-in_err-outputs
returns-in_err-outputs c =
    let e : c.from_residual-in_err-outputs.result ≡ Err c.in_err-outputs.field-0.0 = search rules in
    let kernel = c.in_ok-kernel.kernel in
    let l = c.in_ok-kernel.ensures in
    let N = at c.in_ok-memory.memory in
    handed_on_as _ _ (HasNoFile N) _ _ e
    (λ why h. inr (l.p, kernel.loaded, l.load, no_file_as N (at kernel.loaded.memory) why (λ p. ap (λ m. at m p) c.in_ok-memory.ensures.memory) h)) c.in_err-outputs.ensures

pub returns : goal.returns
returns c =
    let out = string_bytes c.args.self.out in
    let name = string_bytes c.args.self.load_record in
    let i = crash_inputs_of c.args.load in
    let kernel = c.in_ok-kernel.kernel in
    let l = c.in_ok-kernel.ensures in
    let w = c.in_ok-outputs.ensures in
    let recorded = crash_recorded kernel l.p l.startup in
    let outputs : map file_of c.push.new.self.items ≡ map file_of c.in_ok-outputs.outputs.items ++ file_of c.in_ok-memory.output ∷ [] =
    ap (map file_of) c.in_ok-push.ensures.items ∙ map-append file_of c.in_ok-outputs.outputs.items (c.in_ok-memory.output ∷ []) in rw c.done.ensures (
      l.p,
      kernel.loaded,
      l.load,
      c.in_ok-memory.ensures.text ∙ panic_said i kernel l.p l.startup l.load,
      refl,
      w.0,
      file_as (at c.in_ok-memory.memory) (at kernel.loaded.memory) w.0 (λ p. ap (λ m. at m p) c.in_ok-memory.ensures.memory) w.2,
      outputs ∙ ap (λ (fs : List File). fs ++ file_of c.in_ok-memory.output ∷ []) w.1 ∙ ap (λ (f : File). (out, w.0) ∷ f ∷ []) (c.in_ok-memory.ensures.record ∙ ap (λ r. (name, record_file r)) recorded),
      subst IsReadBack recorded c.in_ok-memory.ensures.read_back,
    )
