use Rattle.std.proofs.Common.{length}
use Rattle.kexec_usage.proofs.lookup.+next_word.Given as goal

abbrev pub decreases-next_word : goal.decreases-next_word
decreases-next_word l = length l.arguments.now
