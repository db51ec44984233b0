-- By what is read.
use Rattle.std.proofs.Common.{◌≡◌, ◌∙◌, [], ◌∷◌, Result, Ok, Err, refl, sym}
use Rattle.std.specs.Prelude.{codes}
use Rattle.file_commands.specs.Taking.{Refusal, reads}
use Rattle.load_record.specs.File.{Record}
use Rattle.list_commands.specs.Records.{load_record_file}
use Rattle.command_parts.specs.declared.reason.InputFault.TheVariants as inputs
use Rattle.command_parts.specs.declared.reason.Reason.{Reason}
use Rattle.load_record.specs.declared.fault.RecFault.TheVariants as records
use Rattle.worked_commands.specs.Inputs.{spoiled, unreadable}
use Rattle.worked_commands.proofs.CallFiles.{migrate_spoiled}
use Rattle.worked_commands.proofs.calls.command_of_the_words.Goals as goal

not_read : (x : Record) → reads (load_record_file (codes "r")) (spoiled (codes "r" ∷ [])) ≡ Ok x → ⊥
not_read x read = let e : ◌≡◌ {A = Result Record (Refusal Reason)} (Err (unreadable (inputs.Rec records.BadMagic))) (Ok x) = sym migrate_spoiled ∙ read in cc

pub returns-clause-refused : goal.returns-clause-refused
returns-clause-refused c = refl

pub returns-clause-sample : goal.returns-clause-sample
returns-clause-sample c = (tt, refl)

pub returns-clause-migrate : goal.returns-clause-migrate
returns-clause-migrate c = λ (x, read). not_read x read
