-- Lists that are read of files, and run (this project's own).
use Rattle.std.specs.Prelude.{ℕ, [], ◌∷◌}
use Rattle.page_memory.specs.Contents.{Contents}
use Rattle.load_record.specs.File.{Record}
use Rattle.load_states.specs.States.{Checked, no_pages}
use Rattle.list_commands.specs.Exec.{load_of}
use Rattle.list_commands.specs.Records.{list_files}
use Rattle.command_parts.specs.Runs.{checked_with}
use Rattle.worked_commands.specs.Inputs.{three_bytes_record}
use Rattle.worked_commands.specs.Texts.{kept_image, no_memory, registers}

-- a record with a purgatory
abbrev pub record_with_purgatory : Record
record_with_purgatory =
    record three_bytes_record { start = registers; regions = 0x3000; digest = 0x3100 }

-- the same with context preserved
abbrev pub kept_record : Record
kept_record = record record_with_purgatory { image = kept_image }

-- in this memory; its list moves page 13 to page 2
abbrev pub kept_over : Contents → Checked
kept_over m = checked_with (load_of (list_files m kept_record)) 4 1 ((2, 0x13) ∷ [])

-- a list of the done word alone with context preserved, of which so many words are told
abbrev pub done_alone : ℕ → Checked
done_alone words = record {
  load = record {
    memory = no_memory;
    pool = no_pages;
    image = record kept_image { head = 4 };
    segments = [];
  };
  words = words;
  links = 0;
  pairs = [];
}
