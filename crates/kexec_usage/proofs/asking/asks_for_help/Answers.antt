use Rattle.std.proofs.Common.{string_bytes, ap, ◌∙◌}
use Rattle.kexec_usage.proofs.Words.{help_ends, help_asked, help_on, help_none}
use Rattle.kexec_usage.proofs.asking.asks_for_help.Goals as goal

pub returns-then-eq : goal.returns-then-eq
returns-then-eq c = help_ends string_bytes c.args.words.now c.loop-word.word-index _ _ _ c.loop-word-test.true (c.as_str-word.ensures.value ∙ ap string_bytes c.word-item.is) c.eq.ensures c.if-eq.true c.loop-word.invariant

pub returns : goal.returns
returns c = help_none string_bytes c.args.words.now c.loop-word.word-index c.loop-word-test.false c.loop-word.invariant

pub returns-then-is_help : goal.returns-then-is_help
returns-then-is_help c = help_asked string_bytes c.args.words.now c.loop-word.word-index _ _ _ _ c.loop-word-test.true (c.as_str-word.ensures.value ∙ ap string_bytes c.word-item.is) c.eq.ensures c.is_help.ensures c.if-eq.false c.if-is_help.true c.loop-word.invariant

pub loop-word-preserved : goal.loop-word-preserved
loop-word-preserved c = help_on string_bytes c.args.words.now c.loop-word.word-index _ _ _ _ c.loop-word-test.true (c.as_str-word.ensures.value ∙ ap string_bytes c.word-item.is) c.eq.ensures c.is_help.ensures c.if-eq.false c.if-is_help.false c.loop-word.invariant
