-- The file of events, and what is known of what is read of it (this project's own).
use Rattle.std.specs.Prelude.{ℕ, List}
use Rattle.image_slots.specs.Events.{EventValue}
use Rattle.image_slots.specs.Texts.{events_reading}
use Rattle.file_commands.specs.Files.{from_reader, whole_file}
use Rattle.file_commands.specs.Taking.{Take, ◌>>=◌}
use Rattle.command_parts.specs.declared.reason.InputFault.TheVariants as inputs
use Rattle.command_parts.specs.declared.reason.Reason.{Reason}
use Rattle.command_parts.specs.declared.reason.Reason.TheVariants.{Input}
use Rattle.command_parts.specs.Files.{text_limit}

-- the events of a file
abbrev pub events_file : List ℕ → Take Reason (List EventValue)
events_file name = do
  bytes ← whole_file text_limit name
  from_reader (λ e. Input (inputs.Events e)) (events_reading bytes)
