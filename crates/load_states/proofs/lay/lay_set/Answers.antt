use Rattle.std.proofs.Common.{◌≡◌, ℕ, ◌+◌, ◌≤◌, ◌<◌, arith}
use Rattle.std.specs.Prelude.{IsSome, Some}
use Rattle.page_memory.specs.Contents.{at}
use Rattle.segments.specs.Values.{want}
use Rattle.load_states.proofs.Laying.{lays_more, right_stays, in_set, span_of, next_span}
use Rattle.load_states.proofs.lay.lay_set.Goals as goal

pub lay_span-requires : goal.lay_span-requires
lay_span-requires c = λ p a b. c.loop-i.invariant.stay p (c.requires p (in_set c.args.set.now c.span.result p c.span.ensures.whole a b))

pub loop-i-preserved : goal.loop-i-preserved
loop-i-preserved c =
    let S = c.args.segments.now in
    let N = at c.loop-i.memory in
    let L = at c.lay_span.new.memory in
    record {
      lays = lays_more S (at c.args.memory.now) N L c.loop-i.invariant.lays c.lay_span.ensures.lays;
      right = next_span (λ r. (p : ℕ) → r.first ≤ p → p < r.first + r.count → IsSome (want S p) → want S p ≡ Some (L p)) c.args.set.now c.loop-i.i c.span.result c.span.ensures.value c.lay_span.ensures.right
          (λ k l r e p a b h. right_stays S N L p c.lay_span.ensures.lays (c.loop-i.invariant.right k l r e p a b h));
      stay = λ q h. c.lay_span.ensures.stay q (c.loop-i.invariant.stay q h);
      only = λ q h. c.loop-i.invariant.only q (c.lay_span.ensures.only q h);
    }

pub returns : goal.returns
returns c = record {
  lays = c.loop-i.invariant.lays;
  right = λ p t h.
      let w = span_of c.args.set.now p t in
      let inside : w.0 < c.loop-i.i = omega (arith, w.2, c.spans-i-end.ensures.value) in
      c.loop-i.invariant.right w.0 inside w.1 w.3 p w.4 w.5 h;
  stay = c.loop-i.invariant.stay;
  only = c.loop-i.invariant.only;
}
