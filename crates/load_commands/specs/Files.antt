-- The files beside the memory from which a kernel is loaded, and what is read of each (this project's own).
use Rattle.std.specs.Prelude.{ℕ, ◌*◌, ◌^◌, List, [], Option, Some, None}
use Rattle.std.specs.List.{filter}
use Rattle.page_pool.specs.File.{pool_reading}
use Rattle.page_pool.specs.Pages.{is_usable}
use Rattle.crash_headers.specs.declared.note.Note.{Note}
use Rattle.crash_headers.specs.Notes.{notes_reading}
use Rattle.memory_map.specs.Maps.{MapValue}
use Rattle.memory_map.specs.Text.{map_reading}
use Rattle.file_commands.specs.Taking.{Take, ok, ◌>>=◌}
use Rattle.file_commands.specs.Files.{from_reader, whole_file}
use Rattle.command_parts.specs.declared.reason.InputFault.TheVariants as inputs
use Rattle.command_parts.specs.declared.reason.Reason.{Reason}
use Rattle.command_parts.specs.declared.reason.Reason.TheVariants.{Input}
use Rattle.command_parts.specs.Files.{text_limit}

-- the pages of a pool file, in their order
abbrev pub pages_file : List ℕ → Take Reason (List ℕ)
pages_file name = do
  bytes ← whole_file text_limit name
  from_reader (λ e. Input (inputs.Pool e)) (pool_reading bytes)

-- the limit of a pool where this is the first page past it; without one it is 2 ^ 46, below which all pages lie
abbrev pub limit_by : Option ℕ → ℕ
limit_by None = 2 ^ 46
limit_by (Some page) = 4096 * page

-- those of these pages that lie below the limit, in their order
abbrev pub usable_below : Option ℕ → List ℕ → List ℕ
usable_below below pages = filter (is_usable (limit_by below)) pages

-- the usable pages of a pool file, in the order in which they are drawn
abbrev pub pool_file : List ℕ → Option ℕ → Take Reason (List ℕ)
pool_file name below = do
  pages ← pages_file name
  ok (usable_below below pages)

abbrev pub map_file : List ℕ → Take Reason MapValue
map_file name = do
  bytes ← whole_file text_limit name
  from_reader (λ e. Input (inputs.Map e)) (map_reading bytes)

abbrev pub notes_file : List ℕ → Take Reason (List Note)
notes_file name = do
  bytes ← whole_file text_limit name
  from_reader (λ e. Input (inputs.Notes e)) (notes_reading bytes)

-- the notes of a file that may be named: none without one
abbrev pub some_notes : Option (List ℕ) → Take Reason (List Note)
some_notes None = ok []
some_notes (Some name) = notes_file name
