use Rattle.std.proofs.Common.{◌≡◌, ℕ, ◌*◌, ◌<◌, true, false}
use Rattle.purgatory_link.specs.inner.Taken.{is_taken, is_among}
use Rattle.purgatory_link.proofs.taken.any_is_taken.Given as goal

abbrev pub invariant-loop-index : goal.invariant-loop-index
invariant-loop-index l = (k : ℕ) → k < 64 * l.index → is_among l.at l.wide k ≡ true → is_taken l.words k ≡ false
