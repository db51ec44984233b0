use Rattle.std.proofs.Common.{ap, arith}
use Rattle.kx_pages.specs.Lists.{count}
use Rattle.page_pool.proofs.Steps.{marked_pool, drawn_has_mark}
use Rattle.page_pool.proofs.Pool.file.Goals as goal

pub mark-requires : goal.mark-requires
mark-requires c = drawn_has_mark _ _ _ _ _ _ _ c.args.p c.self.invariant (omega (arith, c.requires, ap (λ v. count c.args.p v.drawn) c.self.view_is))

pub invariant_of-self : goal.invariant_of-self
invariant_of-self c = marked_pool _ _ _ _ _ _ _ _ _ _ c.self.invariant c.mark.ensures.value c.mark.ensures.have (λ _. omega (arith, c.requires, ap (λ v. count c.args.p v.drawn) c.self.view_is))
