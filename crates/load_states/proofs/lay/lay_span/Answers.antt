use Rattle.std.proofs.Common.{◌≡◌, ℕ, ◌+◌, ◌<◌, ⊎_elim, sym, ◌∙◌, subst, arith}
use Rattle.std.specs.Prelude.{◌⊎◌, IsSome, Some}
use Rattle.page_memory.specs.Contents.{at}
use Rattle.segments.specs.Values.{want}
use Rattle.load_states.proofs.Laying.{lays_more, right_stays}
use Rattle.load_states.proofs.lay.lay_span.Goals as goal

last : (k i : ℕ) → k < i + 1 → (k < i) ⊎ (k ≡ i)
last k i h = grind arith

pub loop-n-preserved : goal.loop-n-preserved
loop-n-preserved c =
    let S = c.args.segments.now in
    let N = at c.loop-n.memory in
    let L = at c.lay_page.new.memory in
    let same = c.from_number.ensures in
    record {
      lays = lays_more S (at c.args.memory.now) N L c.loop-n.invariant.lays c.lay_page.ensures.lays;
      right = λ p a b h. ⊎_elim
          (λ l. right_stays S N L p c.lay_page.ensures.lays (c.loop-n.invariant.right p a l h))
          (λ e. subst (λ x. IsSome (want S x) → want S x ≡ Some (L x)) (same ∙ sym e) c.lay_page.ensures.right h)
          (last p c.loop-n.n b);
      stay = λ q h. c.lay_page.ensures.stay q (c.loop-n.invariant.stay q h);
      only = λ q h. c.loop-n.invariant.only q (c.lay_page.ensures.only q h);
    }
