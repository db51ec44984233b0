use Rattle.std.proofs.Common.{◌+◌, ◌<◌, ℕ, length, get_or, None, ap, sym, subst, arith}
use Rattle.std.proofs.lemmas.List.{length_push}
use Rattle.resident_planner.specs.declared.stretch.Stretch.{Stretch}
use Rattle.resident_planner.specs.inner.Stretches.{IsStretch}
use Rattle.resident_planner.proofs.Stretching.{each_more}
use Rattle.resident_planner.proofs.stretch.double.Goals as goal

pub loop-stretch-preserved : goal.loop-stretch-preserved
loop-stretch-preserved c = record {
  size = let a = ap length c.in_ok-push.ensures.items in let b = length_push c.loop-stretch.longer.items c.join.result in let e = c.loop-stretch.invariant.size in omega (arith, a, b, e);
  each = λ D s n all.
      let l : c.loop-stretch.stretch-index < length D = (let a = c.loop-stretch-test.true in let b = all.size in omega (arith, a, b)) in
      subst (λ ys. (i : ℕ) (d : Stretch) → i < c.loop-stretch.stretch-index + 1 → IsStretch D s (n + n) (get_or D i 0) (get_or ys i d)) (sym c.in_ok-push.ensures.items)
      (each_more (λ i x. IsStretch D s (n + n) (get_or D i 0) x) c.loop-stretch.longer.items c.loop-stretch.stretch-index c.join.result c.loop-stretch.invariant.size (c.loop-stretch.invariant.each D s n all) (c.join.ensures D s n (get_or D c.loop-stretch.stretch-index 0) all (all.each c.loop-stretch.stretch-index (record { end = None; lowest = 0; steps = 0 }) l)));
}

pub returns : goal.returns
returns c = λ D s n all. record {
  size = let a = c.loop-stretch.invariant.size in let b = all.size in omega (arith, a, b);
  each = λ i d l. c.loop-stretch.invariant.each D s n all i d (let b = all.size in omega (arith, l, b));
}
