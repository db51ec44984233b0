use Rattle.std.proofs.Common.{rules, string_bytes, ◌≡◌, ◌∙◌, refl, Err, None, inl, inr}
use Rattle.page_memory.specs.Contents.{at}
use Rattle.file_commands.proofs.Made.{handed_on_as}
use Rattle.load_commands.specs.BootResident.{RefusesResident}
use Rattle.load_commands.specs.inner.Views.{resident_inputs}
use Rattle.command_parts.specs.Outputs.{HasNoFile}
use Rattle.command_parts.specs.Runs.{after_runs, checked_with}
use Rattle.command_parts.proofs.Outputs.{no_file_as, output_as}
use Rattle.load_commands.proofs.Resident.{kernel_accepted, kernel_mode, resident_text_of}
use Rattle.load_commands.proofs.boot_resident.BootByPairsCommandListFaultReason.make.Goals as goal

pub run_loaded-requires-clause-accepted : goal.run_loaded-requires-clause-accepted
run_loaded-requires-clause-accepted c =
    let x = resident_inputs c.args.taken in
    kernel_accepted x.load x.pairs c.in_ok-kernel.kernel (rw c.deref.ensures.value at c.in_ok-kernel.ensures)

pub run_loaded-requires-clause-mode : goal.run_loaded-requires-clause-mode
run_loaded-requires-clause-mode c =
    let x = resident_inputs c.args.taken in
    kernel_mode x.load x.pairs c.in_ok-kernel.kernel (rw c.deref.ensures.value at c.in_ok-kernel.ensures)

pub returns-in_err-kernel : goal.returns-in_err-kernel
returns-in_err-kernel c =
    let x = resident_inputs c.args.taken in
    let e : c.from_residual.result ≡ Err c.in_err-kernel.field-0.0 = search rules in
    handed_on_as _ _ (RefusesResident x.load x.pairs) _ _ e (λ why r. inl r) (rw c.deref.ensures.value at c.in_err-kernel.ensures)

pub returns-in_err-outputs : goal.returns-in_err-outputs
returns-in_err-outputs c =
    let e : c.from_residual-in_err-outputs.result ≡ Err c.in_err-outputs.field-0.0 = search rules in
    let l = rw c.deref.ensures.value at c.in_ok-kernel.ensures in
    let r = c.in_ok-ran.ensures in
    let k = checked_with c.in_ok-kernel.kernel.loaded r.0 r.1 r.2 in
    let N = at c.in_ok-ran.ran.memory in
    handed_on_as _ _ (HasNoFile N) _ _ e
    (λ why h. inr (l.p, l.m, k, (l.resident, l.load, r.3), no_file_as N (after_runs None k) why r.4.memory h)) c.in_err-outputs.ensures

pub returns : goal.returns
returns c =
    let l = rw c.deref.ensures.value at c.in_ok-kernel.ensures in
    let r = c.in_ok-ran.ensures in
    let kernel = c.in_ok-kernel.kernel in
    let k = checked_with kernel.loaded r.0 r.1 r.2 in rw c.done.ensures (
      l.p,
      l.m,
      k,
      (l.resident, l.load, r.3),
      c.in_ok-text.ensures ∙ resident_text_of k c.in_ok-ran.ran kernel.start l.p.start kernel.copied l.m.copied r.4 l.start l.copied,
      refl,
      output_as (at c.in_ok-ran.ran.memory) (after_runs None k) _ (string_bytes c.args.self.out) r.4.memory c.in_ok-outputs.ensures,
    )
