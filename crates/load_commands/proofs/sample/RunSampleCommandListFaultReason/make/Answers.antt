use Rattle.std.proofs.Common.{◌∙◌, ap, map, refl}
use Rattle.file_commands.specs.inner.Calls.{file_of}
use Rattle.sample_load.specs.Samples.{start_of}
use Rattle.command_parts.specs.Runs.{checked_with}
use Rattle.load_commands.proofs.Commands.Sample.{sampled_text}
use Rattle.load_commands.proofs.sample.RunSampleCommandListFaultReason.make.Goals as goal

pub returns : goal.returns
returns c =
    let l = c.in_ok-loaded.ensures.sealed in
    let r = c.in_ok-ran.ensures in
    let k = checked_with c.in_ok-loaded.loaded r.0 r.1 r.2 in
    let start = c.start_of-start.ensures ∙ ap start_of (c.segments.ensures ∙ l.segments) in
    rw c.done.ensures (k, record { laid = l; accepted = r.3 }, ap (map file_of) c.new.ensures.items, c.in_ok-text.ensures ∙ sampled_text c.args.self.number k c.in_ok-ran.ran c.start_of-start.result r.4 start, refl)
