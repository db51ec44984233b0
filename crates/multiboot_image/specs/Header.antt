-- The Multiboot header (Multiboot Specification 0.6.96, sections 3.1.1 to 3.1.3).
use Rattle.std.specs.Prelude.{ℕ, ◌+◌, ◌/◌, ◌%◌, ◌^◌, ◌==◌, ◌&&◌, Bool, List, [], length, take, nat_le, if◌then◌else◌, Option, Some, None, Result, Ok, Err}
use Rattle.std.specs.List.{find, range_with_len}
use Rattle.kx_fields.specs.Fields.{bytes_at}
use Rattle.kx_fields.specs.Formats.{Format, read}
use Rattle.multiboot_image.specs.declared.header.Head.{Head}
use Rattle.multiboot_image.specs.declared.header.Kludge.{Kludge}
use Rattle.multiboot_image.specs.declared.header.Header.{Header}
use Rattle.multiboot_image.specs.declared.fault.MbFault.{MbFault}
use Rattle.multiboot_image.specs.declared.fault.MbFault.TheVariants as faults

abbrev pub head : Format Head
head = record {
  layout = λ at. record { magic = at 0 4; flags = at 4 4; checksum = at 8 4 };
  numbers = λ h. [];
}

-- the addresses, of which the specification speaks as the a.out kludge
abbrev pub kludge : Format Kludge
kludge = record {
  layout = λ at. record {
    header_addr = at 12 4;
    load_addr = at 16 4;
    load_end_addr = at 20 4;
    bss_end_addr = at 24 4;
    entry_addr = at 28 4;
  };
  numbers = λ h. [];
}

-- the magic number, and a sum that is 0 modulo 2^32
abbrev pub is_head : Head → Bool
is_head h = (h.magic == 0x1badb002) && ((h.magic + h.flags + h.checksum) % 2 ^ 32 == 0)

abbrev pub head_at : List ℕ → ℕ → Head
head_at bytes at = read head (bytes_at at 12 bytes)

-- a header begins at this place: a multiple of 4, with 12 bytes
abbrev pub is_header_at : List ℕ → ℕ → Bool
is_header_at bytes at =
    (at % 4 == 0) && (nat_le (at + 12) (length bytes) && is_head (head_at bytes at))

-- the least place of a header in these bytes
unfoldable pub header_place : List ℕ → Option ℕ
header_place bytes = find (is_header_at bytes) (range_with_len 0 (length bytes))

-- bit number b of n is set
abbrev pub has_bit : ℕ → ℕ → Bool
has_bit n b = n / 2 ^ b % 2 == 1

-- the lowest of the bits 2 to 15 that are set: they ask for what must be served
unfoldable pub unknown_bit : ℕ → Option ℕ
unknown_bit flags = find (has_bit flags) (range_with_len 2 14)

-- the addresses of the header at this place, where its 32 bytes are there
abbrev pub kludge_in : List ℕ → ℕ → Option Kludge
kludge_in bytes at =
    if nat_le (at + 32) (length bytes) then Some (read kludge (bytes_at at 32 bytes))
    else None

abbrev pub with_kludge : ℕ → ℕ → Option Kludge → Result Header MbFault
with_kludge at flags (Some k) = Ok (record { at = at; flags = flags; kludge = Some k })
with_kludge at flags None = Err faults.BadKludge

abbrev pub unless_unknown : List ℕ → ℕ → ℕ → Option ℕ → Result Header MbFault
unless_unknown bytes at flags (Some bit) = Err (faults.UnknownFlag bit)
unless_unknown bytes at flags None =
    if has_bit flags 16 then with_kludge at flags (kludge_in bytes at)
    else Ok (record { at = at; flags = flags; kludge = None })

-- the header at this place, with these flags
unfoldable pub header_of : List ℕ → ℕ → ℕ → Result Header MbFault
header_of bytes at flags = unless_unknown bytes at flags (unknown_bit flags)

abbrev pub header_in : List ℕ → Option ℕ → Result Header MbFault
header_in bytes (Some at) = header_of bytes at (head_at bytes at).flags
header_in bytes None = Err faults.NoHeader

-- the header of a file, in its first 8,192 bytes
unfoldable pub find_header : List ℕ → Result Header MbFault
find_header bytes = header_in (take 8192 bytes) (header_place (take 8192 bytes))
