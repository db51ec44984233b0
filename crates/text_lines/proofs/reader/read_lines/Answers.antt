use Rattle.std.proofs.Common.{◌≡◌, ◌⊎◌, sym, ◌∙◌, subst, arith, Err}
use Rattle.text_lines.specs.Lines.{lines}
use Rattle.text_lines.proofs.Lined.{onto_ok, onto_fails, onto_end}
use Rattle.text_lines.proofs.reader.read_lines.Goals as goal

pub returns-in-Err : goal.returns-in-Err
returns-in-Err g c = subst (λ r. (r ≡ Err c.in-Err.fault) ⊎ (c.in-Err.fault ≡ g.R.LineReader.memory)) c.loop-here.invariant.same (onto_fails g.R.LineReader.memory g.R.LineReader.adds c.loop-here.line (g.R.LineReader.value c.loop-here.reader) c.in-Some.here.now (lines c.loop-here.rest.now) (lines c.in-Some.after.now) c.in-Err.fault c.in-Some.ensures.some c.in-Err.ensures)

pub loop-here-preserved : goal.loop-here-preserved
loop-here-preserved g c = record {
  count = omega (arith, c.in-Some.ensures.shorter, c.loop-here.invariant.count);
  same = sym (onto_ok g.R.LineReader.adds c.loop-here.line (g.R.LineReader.value c.loop-here.reader) (g.R.LineReader.value c.take_line.new.self) c.in-Some.here.now (lines c.loop-here.rest.now) (lines c.in-Some.after.now) c.in-Some.ensures.some c.in-Ok.ensures) ∙ c.loop-here.invariant.same;
}

pub returns : goal.returns
returns g c = sym c.loop-here.invariant.same ∙ onto_end g.R.LineReader.adds c.loop-here.line (g.R.LineReader.value c.loop-here.reader) (lines c.loop-here.rest.now) c.in_default.ensures.none
