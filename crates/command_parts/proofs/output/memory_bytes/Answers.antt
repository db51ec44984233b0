use Rattle.std.proofs.Common.{◌≡◌, ◌∙◌, ℕ, refl, sym}
use Rattle.page_memory.specs.declared.fault.HeavyFault.TheVariants.{Memory, TooMany}
use Rattle.command_parts.proofs.output.memory_bytes.Goals as goal

not_memory : (n : ℕ) → TooMany n ≡ Memory → ⊥
not_memory n e = cc

same_count : (a b : ℕ) → TooMany a ≡ TooMany b → a ≡ b
same_count a b e = cc

pub returns-in-Err-TooMany : goal.returns-in-Err-TooMany
returns-in-Err-TooMany c =
    let n = c.in-Err-TooMany.count in
    let is = c.in-Err-TooMany.field-0-is in
    let h = c.in-Err-TooMany.ensures.heavy (λ e. not_memory n (sym is ∙ e)) in
    rw c.refused.ensures (c.args.memory, c.sets-sets.ensures.valid, (λ p. refl), h.0, same_count n _ (sym is ∙ h.1))
