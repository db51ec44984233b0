use Rattle.std.proofs.Common.{◌≡◌, ◌-◌, length, true, ap, ◌∙◌, subst, arith}
use Rattle.purgatory_link.specs.inner.Relocs.{is_idle}
use Rattle.purgatory_link.proofs.relocate.note_runs.Goals as goal

pub loop-noted-init : goal.loop-noted-init
loop-noted-init c = record {
  runs = c.in_ok-runs.ensures.none (is_idle c.args.base c.args.object.now c.args.file.now c.args.starts.now);
  end = c.in_ok-runs.ensures.end;
  long = ap length c.in_ok-runs.ensures.length;
}

pub loop-noted-preserved : goal.loop-noted-preserved
loop-noted-preserved c =
    let i = c.loop-noted.invariant in
    let test = is_idle c.args.base c.args.object.now c.args.file.now c.args.starts.now in
    let next : length c.args.file.now - 1 - c.loop-noted.noted ≡ c.loop-noted.runs.end - 1 - length c.loop-noted.runs.lengths = omega (arith, i.end, i.long) in
    record {
      runs = c.in_ok-push.ensures.runs test i.runs (λ passes. subst (λ at. test at ≡ true) next (c.is_idle.ensures passes));
      end = c.in_ok-push.ensures.end ∙ i.end;
      long = omega (arith, c.in_ok-push.ensures.length, i.long);
    }
