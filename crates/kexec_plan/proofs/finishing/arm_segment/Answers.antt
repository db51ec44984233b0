use Rattle.std.proofs.Common.{length, ap, ◌∙◌}
use Rattle.kexec_plan.proofs.finishing.arm_segment.Goals as goal

pub replace-requires-clause-same_length : goal.replace-requires-clause-same_length
replace-requires-clause-same_length c = λ s h. ap length c.deref.ensures.value ∙ c.in_ok-bytes.ensures.length s h
