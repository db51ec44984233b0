use Rattle.std.proofs.Common.{◌≡◌, false, subst, sym, ap, ◌∙◌}
use Rattle.std.specs.List.{AllByRecursion}
use Rattle.segments.specs.Values.{is_destination}
use Rattle.segments.specs.Rules.{is_bad_address}
use Rattle.segments.proofs.Laws.{addresses-from_IsBare}
use Rattle.segments.proofs.list.Segments.of_tested.Goals as goal

pub page_set-requires : goal.page_set-requires
page_set-requires c = subst (AllByRecursion (λ s. is_bad_address s ≡ false)) (sym c.deref.ensures.value) (addresses-from_IsBare c.args.list.items c.requires)

pub invariant_of-result : goal.invariant_of-result
invariant_of-result c = record { bare = c.requires; pages = λ q. c.in_ok-spans.ensures q ∙ ap (λ xs. is_destination xs q) c.deref.ensures.value }
