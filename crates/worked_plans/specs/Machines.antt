-- A machine of 8 MiB, and of 1 MiB more above 4 GiB, with 1 MiB reserved for a crash kernel, and sets of pages (this
-- project's own).
use Rattle.std.specs.Prelude.{ℕ, ◌*◌, ◌&&◌, ◌==◌, Bool, List, [], ◌∷◌, nat_le, nat_lt, Option}
use Rattle.kx_pages.specs.Spans.{Run}
use Rattle.segments.specs.Values.{SegmentValue}
use Rattle.memory_map.specs.declared.row.Row.{Row}
use Rattle.memory_map.specs.Maps.{MapValue}
use Rattle.crash_headers.specs.declared.note.Note.{Note}
use Rattle.kexec_plan.specs.Holes.{fits, hole}
use Rattle.kexec_plan.specs.Table.{kernel_rule}
use Rattle.worked_plans.specs.LinuxKernels.{low_kernel}

abbrev pub machine_rows : List Row
machine_rows =
    record { start = 0x1000; size = 0x9_f000; kind = 1 }
    ∷ record { start = 0xa_0000; size = 0x6_0000; kind = 2 }
    ∷ record { start = 0x10_0000; size = 0x70_0000; kind = 1 }
    ∷ record { start = 0x1_0000_0000; size = 0x10_0000; kind = 1 } ∷ []

-- the machine
abbrev pub machine : MapValue
machine = record {
  rows = machine_rows;
  areas = record { start = 0x40_0000; size = 0x10_0000; kind = 0 } ∷ [];
}

-- the same without an area for a crash kernel
abbrev pub open_machine : MapValue
open_machine = record { rows = machine_rows; areas = [] }

-- the area
abbrev pub area : Run
area = record { first = 0x400; count = 0x100 }

-- the RAM of the machine, and that of the machine without an area
abbrev pub machine_ram : List Run
machine_ram =
    record { first = 1; count = 0x9f } ∷ record { first = 0x100; count = 0x300 }
    ∷ record { first = 0x500; count = 0x300 }
    ∷ record { first = 0x10_0000; count = 0x100 } ∷ []

abbrev pub open_ram : List Run
open_ram =
    record { first = 1; count = 0x9f } ∷ record { first = 0x100; count = 0x700 }
    ∷ record { first = 0x10_0000; count = 0x100 } ∷ []

-- what a crash kernel is told: the area, and the rows of other kinds
abbrev pub crash_rows : List Row
crash_rows =
    record { start = 0x40_0000; size = 0x10_0000; kind = 1 }
    ∷ record { start = 0xa_0000; size = 0x6_0000; kind = 2 } ∷ []

-- n pages from page p on
abbrev pub pages_at : ℕ → ℕ → SegmentValue
pages_at p n = record { bytes = []; mem = 4096 * p; memsz = 4096 * n }

-- a machine with so many pages of RAM from this page on, and one of 16 MiB with so many pages reserved
abbrev pub ram_of : (first count : ℕ) → MapValue
ram_of first count = record {
  rows = record { start = 4096 * first; size = 4096 * count; kind = 1 } ∷ [];
  areas = [];
}

abbrev pub reserved_of : (first count : ℕ) → MapValue
reserved_of first count = record {
  rows = record { start = 0x10_0000; size = 0x100_0000; kind = 1 } ∷ [];
  areas = record { start = 4096 * first; size = 4096 * count; kind = 0 } ∷ [];
}

-- ---- sets of pages: pages 2 to 6, and page 4
abbrev pub two_to_six : ℕ → Bool
two_to_six q = nat_le 2 q && nat_lt q 7

abbrev pub page_four : ℕ → Bool
page_four q = q == 4

-- whether a kernel of n bytes fits at an address, and the lowest place that it has
abbrev pub kernel_fits : (n align min most : ℕ) → ℕ → Bool
kernel_fits n align min most a =
    fits two_to_six page_four
    (record (kernel_rule low_kernel 1025) { length = n; align = align; min = min; most = most }) a

abbrev pub kernel_hole : (n align min most : ℕ) → Option ℕ
kernel_hole n align min most =
    hole two_to_six page_four
    (record (kernel_rule low_kernel 1025) { length = n; align = align; min = min; most = most })

-- the notes of one processor
abbrev pub one_note : List Note
one_note = record { start = 0x20_0000; size = 0x400 } ∷ []
