-- By what a run of the list leaves, and by computing.
use Rattle.std.proofs.Common.{◌≡◌, ◌∙◌, ℕ, refl, sym, ap, inl, inr, cond}
use Rattle.std.specs.Prelude.{◌==◌, unwrap_or}
use Rattle.std.proofs.lemmas.Bool.Decides.{eqb_tells}
use Rattle.page_memory.specs.Contents.{at}
use Rattle.relocate_machine.specs.declared.step.Outcome.TheVariants.{Done}
use Rattle.relocate_machine.specs.Machine.{kind_of, step_of}
use Rattle.relocate_machine.specs.Run.{run_from}
use Rattle.worked_commands.specs.Memories.{loaded}
use Rattle.worked_commands.specs.Texts.{no_memory}
use Rattle.worked_commands.proofs.FoundLoad.{runs}
use Rattle.worked_commands.proofs.Memories.{wanted}
use Rattle.worked_commands.proofs.outputs.steps_of_runs.Goals as goal

-- an exchange of no pairs leaves each page
nothing_exchanged : (p : ℕ) → at no_memory p ≡ at no_memory (cond (p == 0x11) 0x11 p)
nothing_exchanged p = elim (eqb_tells p 0x11) [
  | inl t ↦ ap (at no_memory) (t.1 ∙ sym (ap (λ b. cond b 0x11 p) t.0))
  | inr t ↦ ap (at no_memory) (sym (ap (λ b. cond b 0x11 p) t.0))
]

pub returns-clause-moved : goal.returns-clause-moved
returns-clause-moved c = runs 2 ∙ ap (λ o. unwrap_or o (at loaded 2)) wanted

pub returns-clause-again : goal.returns-clause-again
unfolding kind_of step_of run_from
returns-clause-again c = λ m agree. refl

pub returns-clause-not_after_two : goal.returns-clause-not_after_two
unfolding kind_of step_of run_from
returns-clause-not_after_two c = λ again. let e : Done 1 ≡ Done 2 = again no_memory nothing_exchanged in cc
