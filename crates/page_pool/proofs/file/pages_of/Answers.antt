use Rattle.std.proofs.Common.{◌≡◌, Err, sym, ◌∙◌, subst, arith}
use Rattle.std.specs.Prelude.{◌⊎◌}
use Rattle.text_lines.specs.Lines.{lines}
use Rattle.page_pool.specs.declared.fault.PoolFault.TheVariants as faults
use Rattle.page_pool.proofs.Adding.{onto_ok, onto_fails, onto_end}
use Rattle.page_pool.proofs.file.pages_of.Goals as goal

pub returns-in-Err-clause-exact : goal.returns-in-Err-clause-exact
returns-in-Err-clause-exact c = subst (λ r. (r ≡ Err c.in-Err.e) ⊎ (c.in-Err.e ≡ faults.Memory)) c.loop-here.invariant.same (onto_fails c.loop-here.line c.loop-here.pages.items c.in-Some.here.now (lines c.loop-here.rest.now) (lines c.in-Some.after.now) c.in-Err.e c.in-Some.ensures.some c.in-Err.ensures.exact)

pub loop-here-preserved : goal.loop-here-preserved
loop-here-preserved c = record {
  few = c.in-Ok.ensures.few;
  count = omega (arith, c.in-Some.ensures.shorter, c.loop-here.invariant.count);
  same = sym (onto_ok c.loop-here.line c.loop-here.pages.items c.add_line.new.pages.items c.in-Some.here.now (lines c.loop-here.rest.now) (lines c.in-Some.after.now) c.in-Some.ensures.some c.in-Ok.ensures.exact) ∙ c.loop-here.invariant.same;
}

pub returns-clause-exact : goal.returns-clause-exact
returns-clause-exact c = sym c.loop-here.invariant.same ∙ onto_end c.loop-here.line c.loop-here.pages.items (lines c.loop-here.rest.now) c.in_default.ensures.none
