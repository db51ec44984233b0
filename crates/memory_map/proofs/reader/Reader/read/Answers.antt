use Rattle.std.proofs.Common.{◌≡◌, Err, sym, ◌∙◌, subst, arith}
use Rattle.std.specs.Prelude.{◌⊎◌}
use Rattle.text_lines.specs.Lines.{lines}
use Rattle.memory_map.specs.declared.fault.MapFault.TheVariants as faults
use Rattle.memory_map.specs.inner.Reader.{map_value_of}
use Rattle.memory_map.proofs.Adding.{onto_ok, onto_fails, onto_end}
use Rattle.memory_map.proofs.reader.Reader.read.Goals as goal

pub returns-in-Err-clause-exact : goal.returns-in-Err-clause-exact
returns-in-Err-clause-exact c = subst (λ r. (r ≡ Err c.in-Err.fault) ⊎ (c.in-Err.fault ≡ faults.Memory)) c.loop-here.invariant.same (onto_fails c.loop-here.line (map_value_of c.loop-here.reader) c.in-Some.here.now (lines c.loop-here.rest.now) (lines c.in-Some.after.now) c.in-Err.fault c.in-Some.ensures.some c.in-Err.ensures.exact)

pub loop-here-preserved : goal.loop-here-preserved
loop-here-preserved c = record {
  valid = c.in-Ok.ensures.valid;
  count = omega (arith, c.in-Some.ensures.shorter, c.loop-here.invariant.count);
  same = sym (onto_ok c.loop-here.line (map_value_of c.loop-here.reader) (map_value_of c.add_line.new.self) c.in-Some.here.now (lines c.loop-here.rest.now) (lines c.in-Some.after.now) c.in-Some.ensures.some c.in-Ok.ensures.exact) ∙ c.loop-here.invariant.same;
}

pub returns-clause-exact : goal.returns-clause-exact
returns-clause-exact c = sym c.loop-here.invariant.same ∙ onto_end c.loop-here.line (map_value_of c.loop-here.reader) (lines c.loop-here.rest.now) c.in_default.ensures.none
