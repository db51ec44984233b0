use Rattle.std.proofs.Common.{rules, ◌≡◌, ◌∙◌, ◌∷◌, [], sym, inl, inr, subst, ⊎_elim}
use Rattle.std.proofs.lemmas.List.{nil_from_length}
use Rattle.std.specs.Vec.Iter.{into_iter_items}
use Rattle.kexec_plan.specs.inner.Laying.{AreParts}
use Rattle.kexec_plan.proofs.Handing.{handed_on}
use Rattle.kexec_plan.proofs.Steps.{next_is, next_fails, none_left}
use Rattle.kexec_plan.proofs.laying.Laying.place_parts.Goals as goal

pub place_part-requires-clause-part : goal.place_part-requires-clause-part
place_part-requires-clause-part c =
    let items : into_iter_items c.loop-part.part-iterator ≡ c.in-Some.part ∷ into_iter_items c.next.new.self = search rules in
    (subst AreParts items c.loop-part.invariant.parts).0

pub loop-part-preserved : goal.loop-part-preserved
loop-part-preserved c =
    let items : into_iter_items c.loop-part.part-iterator ≡ c.in-Some.part ∷ into_iter_items c.next.new.self = search rules in
    let l = rw items at c.loop-part.invariant.rest in
    record {
      can = tt;
      finite = tt;
      parts = (subst AreParts items c.loop-part.invariant.parts).1;
      rest = sym (next_is _ _ _ _ _ c.in_ok-place_part.ensures.exact) ∙ l;
      low = c.in_ok-place_part.ensures.low;
    }

pub returns-in_err-place_part : goal.returns-in_err-place_part
returns-in_err-place_part c =
    let items : into_iter_items c.loop-part.part-iterator ≡ c.in-Some.part ∷ into_iter_items c.next.new.self = search rules in
    let l = rw items at c.loop-part.invariant.rest in
    record {
      exact =
          rw (handed_on _ _ c.from_residual.ensures.1) (⊎_elim (λ e. inl (sym l ∙ next_fails _ _ _ _ _ e)) (λ m. inr m) c.in_err-place_part.ensures.exact);
    }

pub returns : goal.returns
returns c =
    let none : into_iter_items c.loop-part.part-iterator ≡ [] = nil_from_length c.loop-part.part-iterator.rest.items (search rules) in
    let l = rw none at c.loop-part.invariant.rest in
    record { exact = sym l ∙ none_left _ _ }
