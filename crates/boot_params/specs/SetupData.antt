-- The setup_data record of the rows of the memory map that the zero page has no room for (Linux/x86 boot protocol, "The
-- Real-Mode Kernel Header", setup_data; Linux, Documentation/x86/zero-page.rst, and SETUP_E820_EXT of
-- arch/x86/include/uapi/asm/bootparam.h; that it stands behind the command, at a multiple of 8, is this project's own).
use Rattle.std.specs.Prelude.{ℕ, ◌+◌, ◌-◌, ◌*◌, ◌/◌, List, [], ◌∷◌, ◌++◌, length}
use Rattle.std.specs.List.{flat_map}
use Rattle.kx_fields.specs.Fields.{zeros}
use Rattle.kx_fields.specs.Formats.{Format, written}
use Rattle.memory_map.specs.declared.row.Row.{Row}
use Rattle.boot_params.specs.declared.setup_data.SetupHead.{SetupHead}
use Rattle.boot_params.specs.ZeroPage.{row_text}

-- the head of a record (struct setup_data): the address of the next record, the type, and how many bytes follow
abbrev pub setup_head : Format SetupHead
setup_head = record {
  layout = λ at. record { next = at 0 8; kind = at 8 4; len = at 12 4 };
  numbers = λ h. h.next ∷ h.kind ∷ h.len ∷ [];
}

unfoldable pub head_text : SetupHead → List ℕ
head_text h = written setup_head h (zeros 16)

-- the head for so many rows: there is no next record, and the type is SETUP_E820_EXT
abbrev pub head_of : ℕ → SetupHead
head_of rows = record { next = 0; kind = 1; len = 20 * rows }

-- a record of these rows: its head, and the rows one after another
unfoldable pub record_text : List Row → List ℕ
record_text rows = head_text (head_of (length rows)) ++ flat_map row_text rows

-- where the zero page, a command of so many bytes and a NUL end, and the first multiple of 8 from there on, where the
-- record stands; both count bytes from the start of the zero page
abbrev pub nul_end : ℕ → ℕ
nul_end command = 4096 + command + 1

abbrev pub record_place : ℕ → ℕ
record_place command = 8 * ((nul_end command + 7) / 8)

-- zeros from the NUL on, and the record of these rows, where there are rows
unfoldable pub extension : ℕ → List Row → List ℕ
extension command [] = []
extension command (r ∷ rows) =
    zeros (record_place command - nul_end command) ++ record_text (r ∷ rows)
