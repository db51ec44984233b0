use Rattle.std.proofs.Common.{◌≡◌, ◌∙◌, sym, subst, ℕ, get_or, Option}
use Rattle.std.specs.Ordering.{nat_cmp}
use Rattle.std.specs.BTreeMap as tree
use Rattle.resident_planner.specs.Cycles.{within}
use Rattle.resident_planner.specs.Plan.{kept_source, other_than, source_step}
use Rattle.resident_planner.specs.inner.Stretches.{AreSteps}
use Rattle.resident_planner.proofs.Ranks.{rank_enough, within_other}
use Rattle.resident_planner.proofs.cycles.arrange.Goals as goal
use Rattle.kx_pages.proofs.Lists.{Has-get_or}

pub returns : goal.returns
returns c =
    let r : ℕ → Option ℕ = tree.get nat_cmp c.args.residents.now in
    let others = c.in_ok-others.ensures (kept_source r c.args.pages.now) (c.deref.ensures.value ∙ c.in_ok-kept.ensures.sources) in
    let same : (λ p. within c.args.pages.now (other_than p (kept_source r c.args.pages.now p))) ≡ source_step r c.args.pages.now = (λ i p. within_other c.args.pages.now p (kept_source r c.args.pages.now p) i) in
    let steps : AreSteps c.args.pages.now (source_step r c.args.pages.now) c.in_ok-steps.steps.items = subst (λ s. AreSteps c.args.pages.now s c.in_ok-steps.steps.items) same (c.in_ok-steps.ensures (λ p. other_than p (kept_source r c.args.pages.now p)) (c.deref-2.ensures.value ∙ others)) in
    let t = c.in_ok-ranks.ensures (source_step r c.args.pages.now) (subst (AreSteps c.args.pages.now (source_step r c.args.pages.now)) (sym c.deref-3.ensures.value) steps) in
    record {
      sources = c.in_ok-kept.ensures.sources;
      cycles_are = c.in_ok-kept.ensures.cycles;
      size = t.2.size;
      ranks_are = λ i d l. (t.2.each i d l).count ∙ rank_enough r c.args.pages.now t.0 (get_or c.args.pages.now i 0) t.1 (Has-get_or c.args.pages.now i l);
    }
