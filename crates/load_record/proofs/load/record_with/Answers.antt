use Rattle.std.proofs.Common.{◌≡◌, ◌⊎◌, Ok, Err, sym, ap, ◌∙◌, subst}
use Rattle.segments.specs.Rules.{bare_refusal}
use Rattle.load_record.specs.declared.fault.RecFault.TheVariants.{Memory}
use Rattle.load_record.specs.File.{record_of, record_by}
use Rattle.load_record.proofs.Reading.{rule_fails}
use Rattle.load_record.proofs.load.record_with.Goals as goal

pub returns-in-Ok-clause-exact : goal.returns-in-Ok-clause-exact
returns-in-Ok-clause-exact c =
    ap (record_by c.args.head c.args.list.items) c.in-Ok.ensures.1
    ∙ sym (ap Ok (c.record.ensures ∙ ap (record_of c.args.head) c.in-Ok.ensures.0))

pub returns-in-Err-clause-exact : goal.returns-in-Err-clause-exact
returns-in-Err-clause-exact c =
    subst (λ e. (record_by c.args.head c.args.list.items (bare_refusal c.args.list.items) ≡ Err e) ⊎ (e ≡ Memory)) (sym c.from.ensures)
    (rule_fails c.args.head c.args.list.items c.in-Err.fault c.in-Err.ensures)
