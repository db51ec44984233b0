use Rattle.std.proofs.Common.{rules, string_bytes, ◌≡◌, ◌∙◌, Err, ap, inl, inr, refl}
use Rattle.page_memory.specs.Contents.{at}
use Rattle.file_commands.proofs.Made.{handed_on_as}
use Rattle.load_commands.specs.inner.Views.{inputs_of}
use Rattle.load_commands.specs.Loading.{RefusesLoad}
use Rattle.command_parts.specs.Outputs.{HasNoFile}
use Rattle.command_parts.specs.Runs.{after_runs, checked_with, run_text, wish_of}
use Rattle.command_parts.proofs.Outputs.{no_file_as, output_as}
use Rattle.command_parts.proofs.Told.{text_of}
use Rattle.load_commands.proofs.boot.BootKernelCommandListFaultReason.make.Goals as goal

pub returns-in_err-kernel : goal.returns-in_err-kernel
returns-in_err-kernel c =
    let runs = c.args.self.runs in
    let i = inputs_of c.args.load in
    let e : c.from_residual.result ≡ Err c.in_err-kernel.field-0.0 = search rules in
    let h = rw c.wish_of.ensures at c.in_err-kernel.ensures in
    handed_on_as _ _ (RefusesLoad (wish_of runs) i) _ _ e (λ why r. inl r) h

pub returns-in_err-outputs : goal.returns-in_err-outputs
returns-in_err-outputs c =
    let runs = c.args.self.runs in
    let e : c.from_residual-in_err-outputs.result ≡ Err c.in_err-outputs.field-0.0 = search rules in
    let l = rw c.wish_of.ensures at c.in_ok-kernel.ensures in
    let r = c.in_ok-ran.ensures in
    let k = checked_with c.in_ok-kernel.kernel.loaded r.0 r.1 r.2 in
    let N = at c.in_ok-ran.ran.memory in
    handed_on_as _ _ (HasNoFile N) _ _ e
    (λ why h. inr (l.p, k, (l.load, r.3), no_file_as N (after_runs runs k) why r.4.memory h)) c.in_err-outputs.ensures

pub returns : goal.returns
returns c =
    let runs = c.args.self.runs in
    let out = string_bytes c.args.self.out in
    let l = rw c.wish_of.ensures at c.in_ok-kernel.ensures in
    let r = c.in_ok-ran.ensures in
    let kernel = c.in_ok-kernel.kernel in
    let k = checked_with kernel.loaded r.0 r.1 r.2 in rw c.done.ensures (
      l.p,
      k,
      (l.load, r.3),
      c.in_ok-text.ensures ∙ text_of runs k c.in_ok-ran.ran kernel.startup r.4 ∙ ap (run_text runs k) l.startup,
      refl,
      output_as (at c.in_ok-ran.ran.memory) (after_runs runs k) _ out r.4.memory c.in_ok-outputs.ensures,
    )
