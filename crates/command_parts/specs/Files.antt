-- The memory file of a command, and what is read of it (this project's own).
use Rattle.std.specs.Prelude.{ℕ, List}
use Rattle.page_memory.specs.Contents.{Contents}
use Rattle.page_memory.specs.File.{reading}
use Rattle.file_commands.specs.Taking.{Take, ◌>>=◌}
use Rattle.file_commands.specs.Files.{from_reader, whole_file}
use Rattle.command_parts.specs.declared.reason.InputFault.TheVariants as inputs
use Rattle.command_parts.specs.declared.reason.Reason.{Reason}
use Rattle.command_parts.specs.declared.reason.Reason.TheVariants.{Input}

-- the most bytes of a memory file
abbrev pub memory_limit : ℕ
memory_limit = 537919504

-- the most bytes of a file of text: a pool, a memory map, notes, pairs or events
abbrev pub text_limit : ℕ
text_limit = 1048576

abbrev pub memory_file : List ℕ → Take Reason Contents
memory_file name = do
  bytes ← whole_file memory_limit name
  from_reader (λ e. Input (inputs.Mem e)) (reading bytes)
