use Rattle.std.proofs.Common.{◌∙◌, sym, subst}
use Rattle.std.specs.Prelude.{string_bytes}
use Rattle.load_states.specs.inner.Answers.{IsAcceptedAs}
use Rattle.list_commands.specs.Exec.{load_of}
use Rattle.list_commands.proofs.Executes.{execution_holds}
use Rattle.list_commands.proofs.exec.exec_list.Goals as goal

pub returns-in-Ok : goal.returns-in-Ok
returns-in-Ok c =
    let x = c.args.files in
    let accepted = subst (λ s. IsAcceptedAs s c.in-Ok.accepted) c.from_files-loaded.ensures c.in-Ok.ensures.accepted in
    execution_holds x c.args.twice (string_bytes c.args.out) _ (sym c.lacks_swap_page.ensures ∙ c.if-lacks_swap_page.false) (c.run_goods.ensures (load_of x) accepted)
