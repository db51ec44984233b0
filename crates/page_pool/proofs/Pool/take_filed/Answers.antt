use Rattle.page_pool.proofs.Steps.{marked_pool}
use Rattle.page_pool.proofs.Pool.take_filed.Goals as goal

pub invariant_of-self : goal.invariant_of-self
invariant_of-self c = marked_pool _ _ _ _ _ _ _ _ _ _ c.self.invariant c.mark.ensures.value c.mark.ensures.have (λ e. cc)
