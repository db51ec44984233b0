-- The files of a load, and what is read of them: its memory and its record (this project's own).
use Rattle.std.specs.Prelude.{ℕ, List, if◌then◌else◌}
use Rattle.page_memory.specs.Contents.{Contents}
use Rattle.load_record.specs.File.{Record, record_reading}
use Rattle.kexec_words.specs.Values.{LoadNamesValue}
use Rattle.file_commands.specs.Taking.{Take, ok, ◌>>=◌}
use Rattle.file_commands.specs.Files.{from_reader, whole_file}
use Rattle.list_commands.specs.declared.records.CrashFiles.{CrashFiles}
use Rattle.list_commands.specs.declared.records.LoadFiles.{LoadFiles}
use Rattle.list_commands.specs.declared.records.TakenLoad.{TakenLoad}
use Rattle.list_commands.specs.declared.records.TakenLoad.TheVariants.{Normal, Crash}
use Rattle.command_parts.specs.declared.reason.InputFault.TheVariants as inputs
use Rattle.command_parts.specs.declared.reason.Reason.{Reason}
use Rattle.command_parts.specs.declared.reason.Reason.TheVariants.{Input}
use Rattle.command_parts.specs.Startup.{recorded_startup}
use Rattle.command_parts.specs.Files.{memory_file}

-- the most bytes of a load record
abbrev pub record_limit : ℕ
record_limit = 268436448

-- the load record that a file spells
abbrev pub load_record_file : List ℕ → Take Reason Record
load_record_file name = do
  bytes ← whole_file record_limit name
  from_reader (λ e. Input (inputs.Rec e)) (record_reading bytes)

-- a memory, and the list and segments of a record
abbrev pub list_files : Contents → Record → LoadFiles
list_files m r = record {
  memory = m;
  image = r.image;
  segments = r.segments;
  startup = recorded_startup r;
}

-- a memory, and the segments of a crash record, whose list is its head alone
abbrev pub crash_files : Contents → Record → CrashFiles
crash_files m r = record {
  memory = m;
  head = r.image.head;
  segments = r.segments;
  startup = recorded_startup r;
}

-- the load that a memory and a record tell, by the record's kind
abbrev pub load_by : Contents → Record → TakenLoad
load_by m r = if r.crash then Crash (crash_files m r) else Normal (list_files m r)

-- the memory file, then the file of the load record
abbrev pub load_files : List ℕ → List ℕ → Take Reason TakenLoad
load_files memory load_record = do
  m ← memory_file memory
  r ← load_record_file load_record
  ok (load_by m r)

-- what `check` and `dump` take
abbrev pub load_files_of : LoadNamesValue → Take Reason TakenLoad
load_files_of l = load_files l.memory l.load_record
