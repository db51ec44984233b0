-- A Multiboot kernel of 64 bytes with the addresses in its header (Multiboot Specification 0.6.96, section 3.1), and the
-- information that it is handed (section 3.3), byte for byte.
use Rattle.std.specs.Prelude.{ℕ, ◌++◌, List, [], ◌∷◌, codes, replicate, Some}
use Rattle.byteorder.specs.Endian.{little_bytes}
use Rattle.memory_map.specs.declared.row.Row.{Row}
use Rattle.multiboot_image.specs.declared.header.Header.{Header}
use Rattle.multiboot_image.specs.declared.header.Kludge.{Kludge}

-- magic, flags and checksum, and then header_addr, load_addr, load_end_addr, bss_end_addr and entry_addr
abbrev pub kernel_with : (flags checksum bss_end : ℕ) → List ℕ
kernel_with flags checksum bss_end =
    little_bytes 4 0x1bad_b002
    ++ (little_bytes 4 flags ++ (little_bytes 4 checksum
    ++ (little_bytes 4 0x10_0000 ++ (little_bytes 4 0x10_0000 ++ (little_bytes 4 0
    ++ (little_bytes 4 bss_end ++ (little_bytes 4 0x10_0020 ++ replicate 32 0x90)))))))

-- what its header says
abbrev pub addresses : ℕ → Kludge
addresses bss_end = record {
  header_addr = 0x10_0000;
  load_addr = 0x10_0000;
  load_end_addr = 0;
  bss_end_addr = bss_end;
  entry_addr = 0x10_0020;
}

abbrev pub header_read : ℕ → Header
header_read bss_end = record { at = 0; flags = 0x1_0000; kludge = Some (addresses bss_end) }

-- 8 MiB of RAM
abbrev pub ram : List Row
ram = record { start = 0; size = 0x80_0000; kind = 1 } ∷ []

-- the information at 7ff000, with this RAM, without command and modules: flags, mem_lower, mem_upper, boot_device, cmdline,
-- mods_count, mods_addr, syms, mmap_length, mmap_addr, four numbers that are 0, boot_loader_name, and five that are 0; then
-- the row of the map, the command and the loader's name
abbrev pub information : List ℕ
information =
    little_bytes 4 0x24d
    ++ (little_bytes 4 640 ++ (little_bytes 4 7168 ++ (replicate 4 0
    ++ (little_bytes 4 0x7f_f070 ++ (replicate 4 0 ++ (little_bytes 4 0x7f_f070
    ++ (replicate 16 0 ++ (little_bytes 4 24 ++ (little_bytes 4 0x7f_f058 ++ (replicate 12 0
    ++ (little_bytes 4 0x7f_f071 ++ (replicate 20 0
    ++ (little_bytes 4 20 ++ (replicate 8 0 ++ (little_bytes 8 0x80_0000 ++ (little_bytes 4 1
    ++ (0 ∷ codes "kexec" ++ 0 ∷ [])))))))))))))))))
