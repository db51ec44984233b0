-- The parameter segment: the zero page, the command and a NUL, and behind them the rows of the memory map that the zero
-- page has no room for (Linux/x86 boot protocol, "The Kernel Command Line" and "Zero Page"; that they stand together, the
-- limit of rows and the order of faults are this project's own).
-- No clause of `kexec` reaches what stands here: it serves laws, and contracts inside the crates.
use Rattle.std.specs.Prelude.{◌≡◌, ℕ, ◌+◌, ◌-◌, ◌*◌, ◌%◌, ◌<◌, ◌≤◌, true, ◌++◌, List, [], ◌∷◌, length, min, take, slice_index, slice_index_or, Option}
use Rattle.kx_fields.specs.Fields.{bytes_at}
use Rattle.kx_fields.specs.inner.Fields.{IsApart}
use Rattle.kx_fields.specs.Formats.{table, read}
use Rattle.kx_fields.specs.inner.Formats.{is_outside}
use Rattle.memory_map.specs.declared.row.Row.{Row}
use Rattle.boot_params.specs.ZeroPage.{zero_page, row_text}
use Rattle.boot_params.specs.SetupData.{setup_head, head_of, nul_end, record_place}
use Rattle.boot_params.specs.Numbers.{numbers_of}

-- byte k of the zero page is named by no table: it is no number's, not the header's, and not one of the first 128 rows'
pub record IsUnnamed (header_size row_count k : ℕ) : Type 0 where
  pub page : k < 4096
  pub numbers : is_outside k 1 (table zero_page) ≡ true
  pub header : IsApart k 1 0x1f1 header_size
  pub rows : IsApart k 1 0x2d0 (20 * min 128 row_count)

-- What stands where in the bytes of a parameter segment.

-- the zero page reads as the numbers for these rows, this command, this address and this initrd
abbrev pub HasNumbers : List Row → List ℕ → ℕ → Option (ℕ × ℕ) → List ℕ → Type 0
HasNumbers rows command at initrd bytes =
    read zero_page (take 4096 bytes) ≡ numbers_of (length rows) (length command) at initrd

-- row i stands at 0x2d0 + 20 * i, where it is one of the first 128
abbrev pub HasRows : List Row → List ℕ → Type 0
HasRows rows bytes =
    (i : ℕ) (d : Row) → i < length rows → i < 128
    → bytes_at (0x2d0 + 20 * i) 20 bytes ≡ row_text (slice_index_or rows i d)

-- byte k of the header stands at 0x1f1 + k, but where a number stands
abbrev pub HasHeader : List ℕ → List ℕ → Type 0
HasHeader header bytes =
    (k : ℕ) → k < length header → is_outside (0x1f1 + k) 1 (table zero_page) ≡ true
    → slice_index bytes (0x1f1 + k) ≡ slice_index header k

-- the bytes of the page that no table names are zero, with this header and these rows
abbrev pub IsZeroElsewhere : List ℕ → List Row → List ℕ → Type 0
IsZeroElsewhere header rows bytes =
    (k : ℕ) → IsUnnamed (length header) (length rows) k → slice_index bytes k ≡ 0

-- the command and a NUL stand behind the page
abbrev pub HasCommand : List ℕ → List ℕ → Type 0
HasCommand command bytes = bytes_at 4096 (length command + 1) bytes ≡ command ++ 0 ∷ []

-- the setup_data record stands at a multiple of 8 behind the NUL, and between them are zeros, fewer than 8
pub record IsFilled (command : ℕ) (bytes : List ℕ) : Type 0 where
  pub multiple : record_place command % 8 ≡ 0
  pub behind : nul_end command ≤ record_place command
  pub few : record_place command < nul_end command + 8
  pub zeros : (k : ℕ) → nul_end command ≤ k → k < record_place command → slice_index bytes k ≡ 0

abbrev pub HasFill : List Row → List ℕ → List ℕ → Type 0
HasFill rows command bytes = 128 < length rows → IsFilled (length command) bytes

-- the record reads as the head for the rows that are left
abbrev pub HasRecord : List Row → List ℕ → List ℕ → Type 0
HasRecord rows command bytes =
    128 < length rows
    → read setup_head (bytes_at (record_place (length command)) 16 bytes)
    ≡ head_of (length rows - 128)

-- and they stand behind its head one after another: row i at 20 * (i - 128) behind it
abbrev pub HasMoreRows : List Row → List ℕ → List ℕ → Type 0
HasMoreRows rows command bytes =
    (i : ℕ) (d : Row) → i < length rows → 128 ≤ i
    → bytes_at (record_place (length command) + 16 + 20 * (i - 128)) 20 bytes
    ≡ row_text (slice_index_or rows i d)
