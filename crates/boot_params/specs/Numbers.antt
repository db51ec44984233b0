-- The numbers of a zero page (Linux/x86 boot protocol, "Zero Page" and "The Real-Mode Kernel Header").
use Rattle.std.specs.Prelude.{ℕ, ◌+◌, ◌/◌, ◌%◌, ◌^◌, min, nat_lt, if◌then◌else◌, Option, Some, None}
use Rattle.boot_params.specs.declared.zero_page.ZeroPage.{ZeroPage}
use Rattle.boot_params.specs.SetupData.{record_place}

-- the low and the high 32 bits of a number of 64
abbrev pub low : ℕ → ℕ
low n = n % 2 ^ 32

abbrev pub high : ℕ → ℕ
high n = n / 2 ^ 32

-- address and length of an initrd
abbrev pub address : Option (ℕ × ℕ) → ℕ
address None = 0
address (Some p) = p.0

abbrev pub size : Option (ℕ × ℕ) → ℕ
size None = 0
size (Some p) = p.1

-- the address of the setup_data record, with so many rows, a command of so many bytes and a zero page at this address, or
-- 0 where the rows have room in the zero page
abbrev pub setup_data_of : ℕ → ℕ → ℕ → ℕ
setup_data_of rows command at = if nat_lt 128 rows then at + record_place command else 0

-- the numbers for so many rows, of which the zero page has 128 at most, a command of so many bytes, a zero page at this
-- address with the command right behind it, and this initrd. The type of loader is 13 (kexec-tools), version 0.
abbrev pub numbers_of : ℕ → ℕ → ℕ → Option (ℕ × ℕ) → ZeroPage
numbers_of rows command at initrd = record {
  ext_ramdisk_image = high (address initrd);
  ext_ramdisk_size = high (size initrd);
  ext_cmd_line_ptr = high (at + 4096);
  e820_entries = min 128 rows;
  type_of_loader = 0xd0;
  ramdisk_image = low (address initrd);
  ramdisk_size = low (size initrd);
  cmd_line_ptr = low (at + 4096);
  setup_data = setup_data_of rows command at;
}
