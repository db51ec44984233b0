-- A Multiboot kernel of 64 bytes with the addresses in its header (Multiboot Specification 0.6.96, section 3.1).
use Rattle.std.specs.Prelude.{ℕ, ◌++◌, List, codes, replicate}
use Rattle.byteorder.specs.Endian.{little_bytes}
use Rattle.segments.specs.Values.{SegmentValue}
use Rattle.kexec_plan.specs.Modules.{AskedModule}

-- a header's magic, flags and checksum
abbrev pub head : (flags checksum : ℕ) → List ℕ
head flags checksum =
    little_bytes 4 0x1bad_b002 ++ (little_bytes 4 flags ++ little_bytes 4 checksum)

-- with header_addr, load_addr, load_end_addr, bss_end_addr and entry_addr
abbrev pub multiboot_file : List ℕ
multiboot_file =
    head 0x1_0000 0xe451_4ffe
    ++ (little_bytes 4 0x10_0000 ++ (little_bytes 4 0x10_0000 ++ (little_bytes 4 0
    ++ (little_bytes 4 0 ++ (little_bytes 4 0x10_0020 ++ replicate 32 0x90)))))

abbrev pub multiboot_segment : SegmentValue
multiboot_segment = record { bytes = multiboot_file; mem = 0x10_0000; memsz = 0x1000 }

-- a module of five bytes, with a text
abbrev pub a_module : AskedModule
a_module = record { bytes = codes "files"; text = codes "m1" }
