use Rattle.std.proofs.Common.{ℕ, [], length, sym, ap, subst, arith}
use Rattle.std.proofs.lemmas.List.{length-replicate}
use Rattle.purgatory_link.specs.inner.Taken.{AreTaken}
use Rattle.purgatory_link.proofs.Taking.{none_taken}
use Rattle.purgatory_link.proofs.taken.Taken.new.Goals as goal

pub returns-clause-none : goal.returns-clause-none
returns-clause-none c = subst (AreTaken []) (sym (c.in_ok-vec.ensures.items_if_clones_equal (λ y h. h))) (none_taken c.div_ceil.result)

pub returns-clause-room : goal.returns-clause-room
returns-clause-room c =
    omega (arith, ap length (c.in_ok-vec.ensures.items_if_clones_equal (λ y h. h)), length-replicate {A = ℕ} c.div_ceil.result 0, c.div_ceil.ensures)
