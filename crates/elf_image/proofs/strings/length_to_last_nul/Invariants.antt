use Rattle.std.proofs.Common.{◌≡◌, ℕ, ◌<◌, ◌≤◌, get_or, length}
use Rattle.elf_image.proofs.strings.length_to_last_nul.Given as goal

abbrev pub invariant-loop-length : goal.invariant-loop-length
invariant-loop-length l = record {
  within : l.length ≤ length l.bytes;
  behind : (k : ℕ) → l.length ≤ k → k < length l.bytes → get_or l.bytes k 0 ≡ 0 → ⊥;
}

abbrev pub decreases-loop-length : goal.decreases-loop-length
decreases-loop-length l = l.length
