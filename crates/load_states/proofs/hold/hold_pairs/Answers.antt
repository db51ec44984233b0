use Rattle.std.proofs.Common.{◌∙◌, subst}
use Rattle.std.specs.Prelude.{◌⊎◌, map}
use Rattle.kx_pages.specs.Lists.{Has}
use Rattle.page_memory.specs.inner.Contents.{IsHeld}
use Rattle.list_checker.specs.Checked.{as_pair}
use Rattle.load_states.proofs.Holding.{all_written, holds_written}
use Rattle.load_states.proofs.hold.hold_pairs.Goals as goal

pub returns-clause-held : goal.returns-clause-held
returns-clause-held c = holds_written c.hold_all.result c.args.mode.now c.hold_all.new.self (map as_pair c.args.pairs.now) c.deref.result.now (c.deref.ensures.value ∙ c.in_ok-pages.ensures) c.hold_all.ensures.held

pub returns-clause-written : goal.returns-clause-written
returns-clause-written c = all_written c.hold_all.result c.args.mode.now c.hold_all.new.self (map as_pair c.args.pairs.now) c.deref.result.now (c.deref.ensures.value ∙ c.in_ok-pages.ensures) c.hold_all.ensures.held

pub returns-clause-only : goal.returns-clause-only
returns-clause-only c = λ q h. subst (λ pages. IsHeld c.args.memory.now q ⊎ Has q pages) (c.deref.ensures.value ∙ c.in_ok-pages.ensures) (c.hold_all.ensures.only q h)
