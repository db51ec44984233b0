use Rattle.std.proofs.Common.{List, subst}
use Rattle.std.specs.List.{AllByRecursion}
use Rattle.std.specs.Prelude.{◌⊎◌, map}
use Rattle.kx_pages.specs.Lists.{Has}
use Rattle.page_memory.specs.inner.Contents.{IsHeld}
use Rattle.relocate_machine.specs.inner.Writes.{AreHeld, move_writes}
use Rattle.list_checker.specs.declared.earlier.Pair.{Pair}
use Rattle.list_checker.specs.Checked.{as_pair}
use Rattle.load_states.specs.inner.Ready.{written_pages}
use Rattle.load_states.proofs.Accepting.{accept_left, holds_no_other, made_accepted, made_held}
use Rattle.load_states.proofs.loaded.hold_for_run.Goals as goal

pub of_mode-requires-clause-told : goal.of_mode-requires-clause-told
of_mode-requires-clause-told c = accept_left c.args.loaded c.hold.new.self c.args.accept c.hold.ensures.same c.requires.told

pub of_mode-requires-clause-held : goal.of_mode-requires-clause-held
of_mode-requires-clause-held c =
    subst (λ (ps : List Pair). AllByRecursion (λ q. AreHeld c.hold.new.self.memory (move_writes c.hold.new.self.image.mode q.0 q.1)) (map as_pair ps)) c.deref.ensures.value c.in-Ok.ensures.held

pub returns-in-Ok-clause-accepted : goal.returns-in-Ok-clause-accepted
returns-in-Ok-clause-accepted c = made_accepted c.args.loaded c.hold.new.self c.args.accept c.of_mode.result c.hold.ensures.same c.requires.told c.of_mode.ensures

pub returns-in-Ok-clause-held : goal.returns-in-Ok-clause-held
returns-in-Ok-clause-held c =
    made_held c.args.loaded c.hold.new.self c.args.accept c.of_mode.result c.hold.ensures.same c.of_mode.ensures
    (subst (λ (ps : List Pair). AllByRecursion (λ q. IsHeld c.hold.new.self.memory q) (written_pages c.args.loaded.image.mode (map as_pair ps))) c.deref.ensures.value c.in-Ok.ensures.written)
    (λ q h. subst (λ (ps : List Pair). IsHeld c.args.loaded.memory q ⊎ Has q (written_pages c.args.loaded.image.mode (map as_pair ps))) c.deref.ensures.value (c.hold.ensures.only q h))

pub returns-in-Err-clause-no_other : goal.returns-in-Err-clause-no_other
returns-in-Err-clause-no_other c =
    holds_no_other c.args.loaded c.hold.new.self c.args.accept c.requires.told
    (λ q h. subst (λ (ps : List Pair). IsHeld c.args.loaded.memory q ⊎ Has q (written_pages c.args.loaded.image.mode (map as_pair ps))) c.deref.ensures.value (c.hold.ensures.only q h))
