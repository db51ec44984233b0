-- What commands with one input make (this project's own).
use Rattle.std.specs.Prelude.{ℕ, List, [], ◌∷◌, None, Result, codes}
use Rattle.page_memory.specs.Contents.{Contents}
use Rattle.file_commands.specs.Taking.{Refusal}
use Rattle.kexec_words.specs.Values.{TraceValue}
use Rattle.load_commands.specs.CoreFile.{core_entry}
use Rattle.list_commands.specs.Migrate.{migrate_entry}
use Rattle.list_commands.specs.Trace.{trace_entry}
use Rattle.command_parts.specs.Outputs.{Made}
use Rattle.command_parts.specs.declared.reason.Reason.{Reason}
use Rattle.worked_commands.specs.Inputs.{three_bytes_record}
use Rattle.worked_commands.specs.Names.{core_memory, migrate_record, trace_memory}

-- one output `o`, and a text
abbrev pub one_output : List ℕ → List ℕ → Made
one_output bytes text =
    record { outputs = (codes "o", bytes) ∷ []; text = text; fault = None }

-- core m o 3000 of this memory
abbrev pub core_makes : Contents → Result Made (Refusal Reason) → Type 0
core_makes = (core_entry core_memory).command.makes

-- migrate r o of the record of `abc`
abbrev pub migrate_makes : Result Made (Refusal Reason) → Type 0
migrate_makes = (migrate_entry migrate_record).command.makes three_bytes_record

-- trace m o, from this head word on with at most so many steps; and of this memory
abbrev pub trace_from : (head : ℕ) → (limit : ℕ) → TraceValue
trace_from head limit = record (trace_memory None) { head = head; limit = limit }

abbrev pub trace_makes : (head : ℕ) → (limit : ℕ) → Contents → Result Made (Refusal Reason)
    → Type 0
trace_makes head limit = (trace_entry (trace_from head limit)).command.makes
