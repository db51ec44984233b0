use Rattle.std.proofs.Common.{sym, arith, length, refl}
use Rattle.text_lines.proofs.Splitting.{place_at, place_none}
use Rattle.text_lines.proofs.place_of.Goals as goal

pub returns-then-byte-at-clause-value : goal.returns-then-byte-at-clause-value
returns-then-byte-at-clause-value c = sym (place_at c.args.at c.args.bytes.now c.loop-i.i (omega arith) c.loop-i.invariant c.if-byte-at.true)

pub returns-clause-value : goal.returns-clause-value
returns-clause-value c = sym (place_none c.args.at c.args.bytes.now (length c.args.bytes.now) refl (λ k h. c.loop-i.invariant k (omega arith)))
