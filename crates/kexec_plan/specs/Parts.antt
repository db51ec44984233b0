-- The segments of parts, and a start (this project's own).
use Rattle.std.specs.Prelude.{ℕ, ◌+◌, ◌*◌, ◌/◌, List, max}
use Rattle.kx_pages.specs.declared.image.Start.{Start}
use Rattle.segments.specs.Values.{SegmentValue}
use Rattle.kexec_plan.specs.declared.places.Site.{Site}

-- so many bytes in whole pages
abbrev pub whole_pages : ℕ → ℕ
whole_pages n = 4096 * ((n + 4095) / 4096)

-- a part has at least one page
abbrev pub part_size : ℕ → ℕ
part_size n = max 4096 (whole_pages n)

-- a start at this address, all registers 0
abbrev pub start_at : ℕ → Start
start_at entry = record { entry = entry; rax = 0; rbx = 0; rsi = 0 }

-- the segment of a part at its place
abbrev pub segment_at : Site → List ℕ → SegmentValue
segment_at s bytes = record { bytes = bytes; mem = s.at; memsz = s.size }
