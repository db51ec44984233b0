use Rattle.std.proofs.Common.{ap, ◌∙◌}
use Rattle.memory_map.specs.inner.Rows.{covers}
use Rattle.memory_map.specs.Maps.{core_ranges}
use Rattle.memory_map.proofs.Sets.{difference}
use Rattle.memory_map.proofs.Map.core_ranges.Goals as goal

pub returns-clause-bytes : goal.returns-clause-bytes
returns-clause-bytes c = λ b. ap (λ xs. covers b xs) (c.deref.ensures.value ∙ c.self.invariant.core_is ∙ ap (λ m. core_ranges m) c.self.view_is) ∙ difference c.args.self.now.areas _ b
