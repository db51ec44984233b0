-- By what is read.
use Rattle.std.proofs.Common.{◌≡◌, ◌∙◌, Bool, length, [], ◌∷◌, true, false, Ok, refl, sym, ap, subst}
use Rattle.std.specs.Prelude.{codes}
use Rattle.kx_laws.proofs.Results.{ok_same}
use Rattle.kx_edge.specs.Edge.{Said}
use Rattle.load_record.specs.File.{Record, record_file}
use Rattle.file_commands.specs.Answers.{FilesPut}
use Rattle.file_commands.specs.Taking.{Refusal, Take, and_then, file, ok, reads, refuse}
use Rattle.list_commands.specs.Check.{check_entry}
use Rattle.list_commands.specs.Records.{load_files_of, load_record_file}
use Rattle.list_commands.specs.Migrate.{segments_line}
use Rattle.command_parts.specs.declared.reason.Reason.{Reason}
use Rattle.worked_commands.specs.Inputs.{each_file, three_bytes_record}
use Rattle.worked_commands.specs.Names.{of_record}
use Rattle.worked_commands.proofs.CallFiles.{migrate_read}
use Rattle.worked_commands.proofs.Migrated.{bytes_are, line_is, migrated}
use Rattle.worked_commands.proofs.calls.commands_that_were_done.Goals as goal

x_is : (x : Record) → reads (load_record_file (codes "r")) each_file ≡ Ok x → x ≡ three_bytes_record
x_is x read = ok_same {F = Refusal Reason} x three_bytes_record (sym read ∙ migrate_read)

-- a take of a file is not a value
abbrev is_ok : {X : Type 0} → Take Reason X → Bool
is_ok (ok x) = true
is_ok (refuse why) = false
is_ok (file name most next) = false

no_value : (x : (check_entry of_record).Inputs) → load_files_of of_record ≡ ok x → ⊥
unfolding and_then
no_value x e = let f : false ≡ true = ap is_ok e in cc

pub returns-clause-migrate : goal.returns-clause-migrate
returns-clause-migrate g c = λ a o t p (x, read, h). (
  subst (λ bytes. FilesPut (g.S.Shelf.files a) ((codes "o", bytes) ∷ []) (g.S.Shelf.files t)) (ap record_file (x_is x read) ∙ bytes_are) h.put,
  subst (λ text. Said (g.O.Sink.said o) text (g.O.Sink.said p)) (ap (λ (x : Record). segments_line (length x.segments)) (x_is x read) ∙ line_is) h.said,
)

pub returns-clause-migrate_by : goal.returns-clause-migrate_by
returns-clause-migrate_by g c = λ a o t p put say. migrated g.S.Shelf g.O.Sink a o t p put say

pub returns-clause-check : goal.returns-clause-check
returns-clause-check g c = λ a o t p x e can. absurd (no_value x e)

pub returns-clause-sample : goal.returns-clause-sample
returns-clause-sample g c = λ a o t p h. h tt refl tt
