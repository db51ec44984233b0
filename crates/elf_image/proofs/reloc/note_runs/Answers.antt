use Rattle.std.proofs.Common.{◌≡◌, ◌-◌, length, true, ap, ◌∙◌, subst, arith}
use Rattle.elf_image.specs.inner.Reloc.{has_symbol}
use Rattle.elf_image.proofs.reloc.note_runs.Goals as goal

pub loop-noted-init : goal.loop-noted-init
loop-noted-init c = record {
  runs = c.in_ok-runs.ensures.none (has_symbol c.args.file.now c.args.symbols);
  end = c.in_ok-runs.ensures.end;
  long = ap length c.in_ok-runs.ensures.length;
}

pub loop-noted-preserved : goal.loop-noted-preserved
loop-noted-preserved c =
    let i = c.loop-noted.invariant in
    let next : length c.args.file.now - 1 - c.loop-noted.noted ≡ c.loop-noted.runs.end - 1 - length c.loop-noted.runs.lengths = omega (arith, i.end, i.long) in
    record {
      runs = c.in_ok-push.ensures.runs (has_symbol c.args.file.now c.args.symbols) i.runs
          (λ passes. subst (λ at. has_symbol c.args.file.now c.args.symbols at ≡ true) next (c.has_symbol.ensures passes));
      end = c.in_ok-push.ensures.end ∙ i.end;
      long = omega (arith, c.in_ok-push.ensures.length, i.long);
    }
