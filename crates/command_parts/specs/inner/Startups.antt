-- How a new kernel starts, written to a load record (this project's own).
-- No clause of `kexec` reaches what stands here: it serves laws, and contracts inside the crates.
use Rattle.std.specs.Prelude.{ℕ, Bool, List, Option, Some, None}
use Rattle.kx_pages.specs.declared.image.Image.{Image}
use Rattle.segments.specs.Values.{SegmentValue}
use Rattle.load_record.specs.File.{Record}
use Rattle.command_parts.specs.declared.startup.PurgatoryPlaces.{PurgatoryPlaces}
use Rattle.command_parts.specs.declared.startup.Startup.{Startup}

-- the addresses of region table and digest
abbrev pub place_addresses : Option PurgatoryPlaces → ℕ × ℕ
place_addresses None = (0, 0)
place_addresses (Some places) = (places.regions, places.digest)

-- the record of a load with this list and these segments
abbrev pub record_with : Startup → Bool → Image → List SegmentValue → Record
record_with s crash image segments =
    let addresses = place_addresses s.purgatory in
    record {
      crash = crash;
      image = image;
      start = s.start;
      regions = addresses.0;
      digest = addresses.1;
      segments = segments;
    }
