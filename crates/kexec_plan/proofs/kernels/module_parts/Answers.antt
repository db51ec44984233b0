use Rattle.std.proofs.Common.{rules, ◌≡◌, ◌∙◌, ◌++◌, ◌∷◌, [], append_assoc, append-nil, ap, map, sym}
use Rattle.std.proofs.lemmas.List.{nil_from_length}
use Rattle.std.specs.Vec.Iter.{into_iter_items}
use Rattle.kexec_plan.specs.Laying.{Module}
use Rattle.kexec_plan.proofs.kernels.module_parts.Goals as goal

pub loop-module-preserved : goal.loop-module-preserved
loop-module-preserved c =
    let items : into_iter_items c.loop-module.module-iterator ≡ c.in-Some.module ∷ into_iter_items c.next.new.self = search rules in
    let l = rw items at c.loop-module.invariant.rest in
    record {
      can = tt;
      finite = tt;
      rest =
          ap (λ ps. ps ++ map Module (into_iter_items c.next.new.self)) c.in_ok-push.ensures
          ∙ append_assoc c.loop-module.parts (Module c.in-Some.module ∷ []) (map Module (into_iter_items c.next.new.self)) ∙ l;
    }

pub returns : goal.returns
returns c =
    let none : into_iter_items c.loop-module.module-iterator ≡ [] = nil_from_length c.loop-module.module-iterator.rest.items (search rules) in
    let l = rw none at c.loop-module.invariant.rest in
    sym (append-nil c.loop-module.parts) ∙ l
